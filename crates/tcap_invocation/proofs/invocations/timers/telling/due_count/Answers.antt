use Rattle.std.proofs.Common.{refl, ◌≡◌, ◌∙◌, ◌∷◌, ap, subst, rules, tests, arith, length, nat_lt, true, false, None, Some}
use Rattle.std.specs.Prelude.{filter_map}
use Rattle.std.specs.VecDeque.Iter.{deque_iter_rest}
use Rattle.tcap_invocation.specs.TimerList.{IsInOrder, told_of_timer}
use Rattle.tcap_invocation.proofs.TimerLemmas.{IsInOrder-tail, untold-later, told-dropped, told-kept, lapse_at_time, length-told}
use Rattle.tcap_invocation.proofs.invocations.timers.telling.due_count.Goals as goal

pub returns-then-is_later : goal.returns-then-is_later
returns-then-is_later g c =
    let whole : deque_iter_rest c.loop-timer.timer-iterator ≡ c.in-Some.timer.now ∷ deque_iter_rest c.next.new.self = search rules in
    let later : nat_lt c.args.clock c.in-Some.timer.now.time ≡ true = search (rules, tests) in
    let none = untold-later c.args.clock c.in-Some.timer.now (deque_iter_rest c.next.new.self) (subst IsInOrder whole c.loop-timer.invariant.order) later in
    let left = ap length (ap (filter_map (told_of_timer c.args.clock)) whole ∙ none) in
    let told = c.loop-timer.invariant.told in
    omega (arith, left, told)

pub overflow_add-count : goal.overflow_add-count
overflow_add-count g c =
    let few = length-told c.args.clock c.args.timers.now.items in
    let told = c.loop-timer.invariant.told in
    let lapses : c.in-Some.timer.now.lapses ≡ true = c.if-timer.true in
    let now : nat_lt c.args.clock c.in-Some.timer.now.time ≡ false = search (rules, tests) in
    let whole : deque_iter_rest c.loop-timer.timer-iterator ≡ c.in-Some.timer.now ∷ deque_iter_rest c.next.new.self = search rules in
    let own : told_of_timer c.args.clock c.in-Some.timer.now ≡ Some (lapse_at_time c.in-Some.timer.now) = search (rules, tests, lapses, now) in
    let more = ap length (ap (filter_map (told_of_timer c.args.clock)) whole ∙ told-kept c.args.clock c.in-Some.timer.now (lapse_at_time c.in-Some.timer.now) (deque_iter_rest c.next.new.self) own) in
    let long = c.args.timers.now.ok.0 in
    let small = c.args.timers.now.small in
    omega (arith, few, told, more, long, small)

pub loop-timer-preserved-then-timer : goal.loop-timer-preserved-then-timer
loop-timer-preserved-then-timer g c =
    let lapses : c.in-Some.timer.now.lapses ≡ true = c.if-timer.true in
    let now : nat_lt c.args.clock c.in-Some.timer.now.time ≡ false = search (rules, tests) in
    let whole : deque_iter_rest c.loop-timer.timer-iterator ≡ c.in-Some.timer.now ∷ deque_iter_rest c.next.new.self = search rules in
    let own : told_of_timer c.args.clock c.in-Some.timer.now ≡ Some (lapse_at_time c.in-Some.timer.now) = search (rules, tests, lapses, now) in
    let more = ap length (ap (filter_map (told_of_timer c.args.clock)) whole ∙ told-kept c.args.clock c.in-Some.timer.now (lapse_at_time c.in-Some.timer.now) (deque_iter_rest c.next.new.self) own) in
    let told = c.loop-timer.invariant.told in
    record {
      can = tt;
      finite = tt;
      order = IsInOrder-tail c.in-Some.timer.now (deque_iter_rest c.next.new.self) (subst IsInOrder whole c.loop-timer.invariant.order);
      told = omega (arith, told, more);
    }

pub loop-timer-preserved : goal.loop-timer-preserved
loop-timer-preserved g c =
    let lapses : c.in-Some.timer.now.lapses ≡ false = c.if-timer.false in
    let whole : deque_iter_rest c.loop-timer.timer-iterator ≡ c.in-Some.timer.now ∷ deque_iter_rest c.next.new.self = search rules in
    let other : told_of_timer c.args.clock c.in-Some.timer.now ≡ None = rw lapses refl in
    let same = ap length (ap (filter_map (told_of_timer c.args.clock)) whole ∙ told-dropped c.args.clock c.in-Some.timer.now (deque_iter_rest c.next.new.self) other) in
    let told = c.loop-timer.invariant.told in
    record {
      can = tt;
      finite = tt;
      order = IsInOrder-tail c.in-Some.timer.now (deque_iter_rest c.next.new.self) (subst IsInOrder whole c.loop-timer.invariant.order);
      told = omega (arith, told, same);
    }
