use Rattle.std.proofs.Common.{rules, arith, ◌∙◌, ◌≡◌, nat_eq, sym, List, Some}
use Rattle.std.specs.Map.{lookup}
use Rattle.tcap_engine.specs.Lapsing.{IsFirstTimer}
use Rattle.tcap_engine.specs.DialogueEntries.{TableEntry}
use Rattle.tcap_engine.proofs.PassedLemmas.{expires, fits, ran, tells, told-within}
use Rattle.tcap_engine.proofs.TimedLemmas.{timed-set}
use Rattle.timed_table.specs.Row.{entries_of}
use Rattle.tcap_engine.proofs.engine.advance.expire_first.Goals as goal

pub invariant_of-table-2 : goal.invariant_of-table-2
invariant_of-table-2 g c =
    let new = c.expire_first.new.self in
    rw (c.set_time.ensures.rows, (c.get_mut.follows.holds new).rows, c.next_timer-next.ensures) (timed-set c.in_ok-first.first.1 new c.table.inside.rows c.table.invariant)

pub returns-clause-some : goal.returns-clause-some
returns-clause-some g c =
    let ps : List TableEntry = entries_of c.table.inside.rows in
    let t = c.in_ok-first.first.0 in
    let d = c.in_ok-first.first.1 in
    let first : IsFirstTimer ps (t, d) = rw (← (c.table.view_is ∙ c.find_first.ensures)) at c.in_ok-first.ensures.first in
    let from = rw (← (c.table.view_is ∙ c.find_first.ensures)) at c.requires.from in
    let old = c.in_ok-dialogue.dialogue.now in
    let found : lookup (nat_eq d) ps ≡ Some old = search rules in
    let r = ran c.args.now t d ps old from first c.in_ok-first.ensures.reached found c.in_ok-timer.ensures.rest in
    let new = c.expire_first.new.self in
    rw (← (c.table.view_is ∙ c.find_first.ensures), c.set_time.ensures.entries, (c.get_mut.follows.holds new).entries) (expires c.args.now t d ps old from first c.in_ok-first.ensures.reached found new c.in_ok-timer.timer r c.in_ok-timer.ensures.dialogue (sym c.in_ok-timer.ensures.timer))

pub returns-clause-told : goal.returns-clause-told
returns-clause-told g c =
    let ps : List TableEntry = entries_of c.table.inside.rows in
    let t = c.in_ok-first.first.0 in
    let d = c.in_ok-first.first.1 in
    let first : IsFirstTimer ps (t, d) = rw (← (c.table.view_is ∙ c.find_first.ensures)) at c.in_ok-first.ensures.first in
    let from = rw (← (c.table.view_is ∙ c.find_first.ensures)) at c.requires.from in
    let old = c.in_ok-dialogue.dialogue.now in
    let found : lookup (nat_eq d) ps ≡ Some old = search rules in
    let r = ran c.args.now t d ps old from first c.in_ok-first.ensures.reached found c.in_ok-timer.ensures.rest in
    let new = c.expire_first.new.self in
    rw (← (c.table.view_is ∙ c.find_first.ensures), c.set_time.ensures.entries, (c.get_mut.follows.holds new).entries) (tells c.args.now t d ps old from first c.in_ok-first.ensures.reached found new c.args.sink.now.outputs c.expire_first.new.sink.outputs r c.in_ok-timer.ensures.dialogue c.in_ok-timer.ensures.told)

pub returns-clause-places : goal.returns-clause-places
returns-clause-places g c =
    let ps : List TableEntry = entries_of c.table.inside.rows in
    let t = c.in_ok-first.first.0 in
    let d = c.in_ok-first.first.1 in
    let first : IsFirstTimer ps (t, d) = rw (← (c.table.view_is ∙ c.find_first.ensures)) at c.in_ok-first.ensures.first in
    let from = rw (← (c.table.view_is ∙ c.find_first.ensures)) at c.requires.from in
    let old = c.in_ok-dialogue.dialogue.now in
    let found : lookup (nat_eq d) ps ≡ Some old = search rules in
    let r = ran c.args.now t d ps old from first c.in_ok-first.ensures.reached found c.in_ok-timer.ensures.rest in
    let new = c.expire_first.new.self in
    rw (← (c.table.view_is ∙ c.find_first.ensures), c.set_time.ensures.entries, (c.get_mut.follows.holds new).entries) (fits c.args.now t d ps old from first c.in_ok-first.ensures.reached found new c.args.sink.now.places c.expire_first.new.sink.places r c.in_ok-timer.ensures.dialogue c.in_ok-timer.ensures.places)

pub expire_first-requires-clause-places : goal.expire_first-requires-clause-places
expire_first-requires-clause-places g c =
    let ps : List TableEntry = entries_of c.table.inside.rows in
    let d = c.in_ok-first.first.1 in
    let old = c.in_ok-dialogue.dialogue.now in
    let found : lookup (nat_eq d) ps ≡ Some old = search rules in
    let most = told-within c.args.now d ps old found in
    let room = rw (← (c.table.view_is ∙ c.find_first.ensures)) at c.requires.places in
    omega (arith, most, room)

-- the first timer of all is that of its dialogue, so it has one

pub invariant_of-table-in_err-timer : goal.invariant_of-table-in_err-timer
invariant_of-table-in_err-timer g c =
    let ps : List TableEntry = entries_of c.table.inside.rows in
    let t = c.in_ok-first.first.0 in
    let d = c.in_ok-first.first.1 in
    let first : IsFirstTimer ps (t, d) = rw (← (c.table.view_is ∙ c.find_first.ensures)) at c.in_ok-first.ensures.first in
    let from = rw (← (c.table.view_is ∙ c.find_first.ensures)) at c.requires.from in
    let old = c.in_ok-dialogue.dialogue.now in
    let found : lookup (nat_eq d) ps ≡ Some old = search rules in
    let r = ran c.args.now t d ps old from first c.in_ok-first.ensures.reached found c.in_err-timer.ensures.rest in
    let bad : ⊥ = r.some (sym c.in_err-timer.ensures.timer) in
    absurd bad

pub returns-in_err-timer-clause-none : goal.returns-in_err-timer-clause-none
returns-in_err-timer-clause-none g c =
    let ps : List TableEntry = entries_of c.table.inside.rows in
    let t = c.in_ok-first.first.0 in
    let d = c.in_ok-first.first.1 in
    let first : IsFirstTimer ps (t, d) = rw (← (c.table.view_is ∙ c.find_first.ensures)) at c.in_ok-first.ensures.first in
    let from = rw (← (c.table.view_is ∙ c.find_first.ensures)) at c.requires.from in
    let old = c.in_ok-dialogue.dialogue.now in
    let found : lookup (nat_eq d) ps ≡ Some old = search rules in
    let r = ran c.args.now t d ps old from first c.in_ok-first.ensures.reached found c.in_err-timer.ensures.rest in
    let bad : ⊥ = r.some (sym c.in_err-timer.ensures.timer) in
    absurd bad

pub returns-in_err-timer-clause-told : goal.returns-in_err-timer-clause-told
returns-in_err-timer-clause-told g c =
    let ps : List TableEntry = entries_of c.table.inside.rows in
    let t = c.in_ok-first.first.0 in
    let d = c.in_ok-first.first.1 in
    let first : IsFirstTimer ps (t, d) = rw (← (c.table.view_is ∙ c.find_first.ensures)) at c.in_ok-first.ensures.first in
    let from = rw (← (c.table.view_is ∙ c.find_first.ensures)) at c.requires.from in
    let old = c.in_ok-dialogue.dialogue.now in
    let found : lookup (nat_eq d) ps ≡ Some old = search rules in
    let r = ran c.args.now t d ps old from first c.in_ok-first.ensures.reached found c.in_err-timer.ensures.rest in
    let bad : ⊥ = r.some (sym c.in_err-timer.ensures.timer) in
    absurd bad

pub returns-in_err-timer-clause-places : goal.returns-in_err-timer-clause-places
returns-in_err-timer-clause-places g c =
    let ps : List TableEntry = entries_of c.table.inside.rows in
    let t = c.in_ok-first.first.0 in
    let d = c.in_ok-first.first.1 in
    let first : IsFirstTimer ps (t, d) = rw (← (c.table.view_is ∙ c.find_first.ensures)) at c.in_ok-first.ensures.first in
    let from = rw (← (c.table.view_is ∙ c.find_first.ensures)) at c.requires.from in
    let old = c.in_ok-dialogue.dialogue.now in
    let found : lookup (nat_eq d) ps ≡ Some old = search rules in
    let r = ran c.args.now t d ps old from first c.in_ok-first.ensures.reached found c.in_err-timer.ensures.rest in
    let bad : ⊥ = r.some (sym c.in_err-timer.ensures.timer) in
    absurd bad
