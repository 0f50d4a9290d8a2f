use Rattle.std.proofs.Common.{◌≡◌, ◌∙◌, sym, rules, tests, true, false}
use Rattle.tcap_invocation.specs.Order.{first_of}
use Rattle.tcap_invocation.specs.TimerList.{is_kept, has_come, is_first_over}
use Rattle.tcap_invocation.proofs.DueLemmas.{IsInOrder-drop, filter-over, length-over, filter-later, kept-true}
use Rattle.tcap_invocation.proofs.ListLemmas.{filter-retained}
use Rattle.tcap_invocation.proofs.invocations.timers.due.take_over.Goals as goal

pub loop-timers-smaller : goal.loop-timers-smaller
loop-timers-smaller g c =
    let over : is_first_over c.args.clock (first_of c.loop-timers.timers.items) ≡ true = search (rules, tests) in
    rw c.pop_front.ensures.rest (length-over c.args.clock c.loop-timers.timers.items over)

pub loop-timers-preserved : goal.loop-timers-preserved
loop-timers-preserved g c =
    let over : is_first_over c.args.clock (first_of c.loop-timers.timers.items) ≡ true = search (rules, tests) in
    record {
      order = rw c.pop_front.ensures.rest (IsInOrder-drop c.loop-timers.timers.items c.loop-timers.invariant.order);
      left = rw c.pop_front.ensures.rest (filter-over c.args.clock c.loop-timers.timers.items over) ∙ c.loop-timers.invariant.left;
      room = c.pop_front.ensures.capacity ∙ c.loop-timers.invariant.room;
    }

pub returns-then-is_due-clause-timers : goal.returns-then-is_due-clause-timers
returns-then-is_due-clause-timers g c =
    filter-retained _ (is_kept c.args.clock) _ (λ x b f y t. search rules) _ _ c.retain_mut.ensures.filtered ∙ c.loop-timers.invariant.left

pub returns-then-is_due-clause-room : goal.returns-then-is_due-clause-room
returns-then-is_due-clause-room g c = c.retain_mut.ensures.capacity ∙ c.loop-timers.invariant.room

pub returns-else-is_due-clause-timers : goal.returns-else-is_due-clause-timers
returns-else-is_due-clause-timers g c =
    let late : has_come c.args.clock (first_of c.loop-timers.timers.items) ≡ false = search (rules, tests) in
    sym (filter-later c.args.clock (is_kept c.args.clock) (kept-true c.args.clock) c.loop-timers.timers.items c.loop-timers.invariant.order late) ∙ c.loop-timers.invariant.left
