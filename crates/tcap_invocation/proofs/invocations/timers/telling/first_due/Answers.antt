use Rattle.std.proofs.Common.{◌≡◌, ◌∙◌, ◌∷◌, ap, sym, subst, rules, tests, nat_lt, true, None}
use Rattle.std.specs.Prelude.{filter_map}
use Rattle.std.specs.VecDeque.Iter.{deque_iter_rest}
use Rattle.tcap_invocation.specs.Order.{first_of}
use Rattle.tcap_invocation.specs.TimerList.{IsInOrder, told_of_timer}
use Rattle.tcap_invocation.proofs.TimerLemmas.{IsInOrder-tail, untold-later, told-dropped}
use Rattle.tcap_invocation.proofs.invocations.timers.telling.first_due.Goals as goal

pub returns-then-is_later : goal.returns-then-is_later
returns-then-is_later g c =
    let whole : deque_iter_rest c.loop-timer.timer-iterator ≡ c.in-Some.timer.now ∷ deque_iter_rest c.next.new.self = search rules in
    let later : nat_lt c.args.clock c.in-Some.timer.now.time ≡ true = search (rules, tests) in
    let none = untold-later c.args.clock c.in-Some.timer.now (deque_iter_rest c.next.new.self) (subst IsInOrder whole c.loop-timer.invariant.order) later in
    ap first_of (sym none ∙ ap (filter_map (told_of_timer c.args.clock)) (sym whole) ∙ c.loop-timer.invariant.told)

pub loop-timer-preserved : goal.loop-timer-preserved
loop-timer-preserved g c =
    let whole : deque_iter_rest c.loop-timer.timer-iterator ≡ c.in-Some.timer.now ∷ deque_iter_rest c.next.new.self = search rules in
    let other : told_of_timer c.args.clock c.in-Some.timer.now ≡ None = search rules in
    record {
      can = tt;
      finite = tt;
      order = IsInOrder-tail c.in-Some.timer.now (deque_iter_rest c.next.new.self) (subst IsInOrder whole c.loop-timer.invariant.order);
      told = sym (told-dropped c.args.clock c.in-Some.timer.now (deque_iter_rest c.next.new.self) other) ∙ ap (filter_map (told_of_timer c.args.clock)) (sym whole) ∙ c.loop-timer.invariant.told;
    }
