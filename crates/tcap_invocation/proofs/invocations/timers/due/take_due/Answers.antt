use Rattle.std.proofs.Common.{◌≡◌, ◌∙◌, sym, rules, tests, true, false}
use Rattle.tcap_invocation.specs.Order.{first_of}
use Rattle.tcap_invocation.specs.TimerList.{is_later, has_come}
use Rattle.tcap_invocation.proofs.DueLemmas.{IsInOrder-drop, filter-due, length-due, filter-later, later-true}
use Rattle.tcap_invocation.proofs.invocations.timers.due.take_due.Goals as goal

pub loop-timers-smaller : goal.loop-timers-smaller
loop-timers-smaller g c =
    let come : has_come c.args.clock (first_of c.loop-timers.timers.items) ≡ true = search (rules, tests) in
    rw c.pop_front.ensures.rest (length-due c.args.clock c.loop-timers.timers.items come)

pub loop-timers-preserved : goal.loop-timers-preserved
loop-timers-preserved g c =
    let come : has_come c.args.clock (first_of c.loop-timers.timers.items) ≡ true = search (rules, tests) in
    record {
      order = rw c.pop_front.ensures.rest (IsInOrder-drop c.loop-timers.timers.items c.loop-timers.invariant.order);
      left = rw c.pop_front.ensures.rest (filter-due c.args.clock c.loop-timers.timers.items come) ∙ c.loop-timers.invariant.left;
      room = c.pop_front.ensures.capacity ∙ c.loop-timers.invariant.room;
    }

pub returns-clause-timers : goal.returns-clause-timers
returns-clause-timers g c =
    let late : has_come c.args.clock (first_of c.loop-timers.timers.items) ≡ false = search (rules, tests) in
    sym (filter-later c.args.clock (is_later c.args.clock) (later-true c.args.clock) c.loop-timers.timers.items c.loop-timers.invariant.order late) ∙ c.loop-timers.invariant.left
