use Rattle.std.proofs.Common.{◌≡◌, ◌∙◌, ◌∷◌, ◌++◌, ap, sym, subst, rules, tests, arith, length, nat_lt, true, None, Some, [], List}
use Rattle.std.proofs.lemmas.List.{append_assoc}
use Rattle.std.specs.Prelude.{filter_map}
use Rattle.std.specs.VecDeque.Iter.{deque_iter_rest}
use Rattle.tcap_invocation.specs.declared.invocations.lapse.Lapse.{Lapse}
use Rattle.tcap_invocation.specs.TimerList.{IsInOrder, told_of_timer}
use Rattle.tcap_invocation.proofs.TimerLemmas.{IsInOrder-tail, untold-later, told-dropped, told-kept}
use Rattle.tcap_invocation.proofs.invocations.timers.telling.push_due.Goals as goal

-- one more is told, one fewer is left
pushed : (ls : List Lapse) (l : Lapse) (new left rest whole : List Lapse) → new ≡ ls ++ l ∷ [] → left ≡ l ∷ rest → ls ++ left ≡ whole → new ++ rest ≡ whole
pushed ls l new left rest whole is first told = ap (λ (ns : List Lapse). ns ++ rest) is ∙ append_assoc ls (l ∷ []) rest ∙ ap (λ (ns : List Lapse). ls ++ ns) (sym first) ∙ told

pub returns-then-is_later : goal.returns-then-is_later
returns-then-is_later g c =
    let whole : deque_iter_rest c.loop-timer.timer-iterator ≡ c.in-Some.timer.now ∷ deque_iter_rest c.next.new.self = search rules in
    let later : nat_lt c.args.clock c.in-Some.timer.now.time ≡ true = search (rules, tests) in
    let none = untold-later c.args.clock c.in-Some.timer.now (deque_iter_rest c.next.new.self) (subst IsInOrder whole c.loop-timer.invariant.order) later in
    let left = ap (filter_map (told_of_timer c.args.clock)) whole ∙ none in
    search (rules, left, c.loop-timer.invariant.told)

pub loop-timer-preserved-in-Some-told : goal.loop-timer-preserved-in-Some-told
loop-timer-preserved-in-Some-told g c =
    let whole : deque_iter_rest c.loop-timer.timer-iterator ≡ c.in-Some.timer.now ∷ deque_iter_rest c.next.new.self = search rules in
    let own : told_of_timer c.args.clock c.in-Some.timer.now ≡ Some c.in-Some-told.lapse = search rules in
    let room = c.loop-timer.invariant.room in
    let len = c.push_reserved.ensures.len in
    let capacity = c.push_reserved.ensures.capacity in
    let more = ap (filter_map (told_of_timer c.args.clock)) whole ∙ told-kept c.args.clock c.in-Some.timer.now c.in-Some-told.lapse (deque_iter_rest c.next.new.self) own in
    let longer = ap length more in
    record {
      can = tt;
      finite = tt;
      order = IsInOrder-tail c.in-Some.timer.now (deque_iter_rest c.next.new.self) (subst IsInOrder whole c.loop-timer.invariant.order);
      told = pushed c.loop-timer.lapses.items c.in-Some-told.lapse _ _ _ _ c.push_reserved.ensures.items more c.loop-timer.invariant.told;
      room = omega (arith, longer, room, len, capacity);
    }

pub loop-timer-preserved : goal.loop-timer-preserved
loop-timer-preserved g c =
    let whole : deque_iter_rest c.loop-timer.timer-iterator ≡ c.in-Some.timer.now ∷ deque_iter_rest c.next.new.self = search rules in
    let other : told_of_timer c.args.clock c.in-Some.timer.now ≡ None = search rules in
    let same = ap (filter_map (told_of_timer c.args.clock)) whole ∙ told-dropped c.args.clock c.in-Some.timer.now (deque_iter_rest c.next.new.self) other in
    record {
      can = tt;
      finite = tt;
      order = IsInOrder-tail c.in-Some.timer.now (deque_iter_rest c.next.new.self) (subst IsInOrder whole c.loop-timer.invariant.order);
      told = ap (λ (ls : List Lapse). c.loop-timer.lapses.items ++ ls) (sym same) ∙ c.loop-timer.invariant.told;
      room = rw same at c.loop-timer.invariant.room;
    }
