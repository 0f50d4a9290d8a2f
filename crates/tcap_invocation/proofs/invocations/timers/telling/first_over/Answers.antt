use Rattle.std.proofs.Common.{◌≡◌, ◌∙◌, ◌∷◌, ap, sym, subst, rules, tests, nat_lt, true, false, filter}
use Rattle.std.specs.VecDeque.Iter.{deque_iter_rest}
use Rattle.tcap_invocation.specs.Order.{first_of}
use Rattle.tcap_invocation.specs.TimerList.{IsInOrder, is_over}
use Rattle.tcap_invocation.proofs.OverLemmas.{none-later}
use Rattle.tcap_invocation.proofs.SortLemmas.{filter-dropped}
use Rattle.tcap_invocation.proofs.TimerLemmas.{IsInOrder-tail}
use Rattle.tcap_invocation.proofs.invocations.timers.telling.first_over.Goals as goal

pub returns-then-is_later : goal.returns-then-is_later
returns-then-is_later g c =
    let whole : deque_iter_rest c.loop-timer.timer-iterator ≡ c.in-Some.timer.now ∷ deque_iter_rest c.next.new.self = search rules in
    let later : nat_lt c.args.clock c.in-Some.timer.now.time ≡ true = search (rules, tests) in
    let none = none-later c.args.clock c.in-Some.timer.now (deque_iter_rest c.next.new.self) (subst IsInOrder whole c.loop-timer.invariant.order) later in
    ap first_of (sym none ∙ ap (filter (is_over c.args.clock)) (sym whole) ∙ c.loop-timer.invariant.over)

pub loop-timer-preserved : goal.loop-timer-preserved
loop-timer-preserved g c =
    let whole : deque_iter_rest c.loop-timer.timer-iterator ≡ c.in-Some.timer.now ∷ deque_iter_rest c.next.new.self = search rules in
    let other : is_over c.args.clock c.in-Some.timer.now ≡ false = search (rules, tests) in
    record {
      can = tt;
      finite = tt;
      order = IsInOrder-tail c.in-Some.timer.now (deque_iter_rest c.next.new.self) (subst IsInOrder whole c.loop-timer.invariant.order);
      over = sym (filter-dropped (is_over c.args.clock) c.in-Some.timer.now (deque_iter_rest c.next.new.self) other) ∙ ap (filter (is_over c.args.clock)) (sym whole) ∙ c.loop-timer.invariant.over;
    }
