use Rattle.std.proofs.Common.{rules, ◌≡◌, ◌∙◌, ◌++◌, [], ◌∷◌, ap, sym, refl, None, ℕ}
use Rattle.tcap_dialogue.specs.StepViews.{at_clock}
use Rattle.tcap_engine.proofs.BeginLemmas.{begun-is, untimed_born}
use Rattle.tcap_engine.proofs.TimedLemmas.{below-drawn, entries-push, timed-push}
use Rattle.tcap_engine.specs.Lapsing.{timer_of}
use Rattle.tcap_model.specs.Table.Dialogue.{Dialogue, fresh_dialogue}
use Rattle.tcap_reception.specs.PortionParts.{context_of_portion, info_of_portion}
use Rattle.timed_table.specs.Row.{entries_of}
use Rattle.tcap_engine.proofs.engine.creation.begin_in.Goals as goal

pub insert_with-requires-clause-below : goal.insert_with-requires-clause-below
insert_with-requires-clause-below g c = below-drawn c.args.identifier c.table.inside.rows (rw (← c.table.view_is) at c.requires.drawn)

pub invariant_of-table-2 : goal.invariant_of-table-2
invariant_of-table-2 g c =
    let d : ℕ = c.args.identifier in
    let l = c.args.limits.now in
    let context = context_of_portion c.args.request in
    let info = info_of_portion c.args.request in
    let new : Dialogue = c.take_begin_with.new.self in
    let fresh : c.in-Some.dialogue.now ≡ fresh_dialogue c.args.identifier c.args.limits.now.reject_ms c.args.limits.now.idle_ms = search rules in
    let same = begun-is c.args.clock c.args.clock d l.reject_ms l.idle_ms c.args.from.now c.args.origin.now context info c.args.components.now c.in-Some.dialogue.now new _ refl fresh c.take_begin_with.ensures.told.1 in
    let untimed : timer_of c.take_begin_with.new.self ≡ None = ap timer_of same ∙ untimed_born (at_clock c.args.clock) d l.reject_ms l.idle_ms c.args.from.now c.args.origin.now context info c.args.components.now in
    let rows : c.insert_with.follows.lender c.take_begin_with.new.self ≡ c.table.inside.rows ++ record { identifier = c.args.identifier; value = c.take_begin_with.new.self; time = None } ∷ [] = rw c.in-Some.is at c.insert_with.follows.holds c.take_begin_with.new.self in
    rw rows (timed-push d new None c.table.inside.rows (sym untimed) c.table.invariant)

pub returns-clause-table : goal.returns-clause-table
returns-clause-table g c =
    let d : ℕ = c.args.identifier in
    let l = c.args.limits.now in
    let context = context_of_portion c.args.request in
    let info = info_of_portion c.args.request in
    let new : Dialogue = c.take_begin_with.new.self in
    let fresh : c.in-Some.dialogue.now ≡ fresh_dialogue c.args.identifier c.args.limits.now.reject_ms c.args.limits.now.idle_ms = search rules in
    let same = begun-is c.args.clock c.args.clock d l.reject_ms l.idle_ms c.args.from.now c.args.origin.now context info c.args.components.now c.in-Some.dialogue.now new _ refl fresh c.take_begin_with.ensures.told.1 in
    let rows : c.insert_with.follows.lender c.take_begin_with.new.self ≡ c.table.inside.rows ++ record { identifier = c.args.identifier; value = c.take_begin_with.new.self; time = None } ∷ [] = rw c.in-Some.is at c.insert_with.follows.holds c.take_begin_with.new.self in
    rw (← c.table.view_is) (entries-push d new c.table.inside.rows (c.insert_with.follows.lender c.take_begin_with.new.self) rows ∙ ap (λ (y : Dialogue). entries_of c.table.inside.rows ++ (d, y) ∷ []) same)
