use Rattle.std.proofs.Common.{rules, sym, ap, ◌≡◌, ◌∙◌, ◌+◌, ◌++◌, [], ◌∷◌, List, ℕ, length, ◌<◌}
use Rattle.tcap_model.specs.Table.Dialogue.{Dialogue}
use Rattle.tcap_model.specs.Table.World.{World}
use Rattle.tcap_engine.specs.DialogueEntries.{IsWithin, TableEntry, dialogues_of, with_created}
use Rattle.tcap_engine.proofs.BirthLemmas.{dialogues-push, room-to-be-born, sound-push}
use Rattle.tcap_engine.proofs.engine.Engine.keep.Goals as goal

pub invariant_of-self-2 : goal.invariant_of-self-2
invariant_of-self-2 g c =
    let d = c.self.inside.next_dialogue in
    let ps : List TableEntry = c.self.inside.table in
    let new : c.insert.new.self ≡ ps ++ (d, c.args.dialogue) ∷ [] = search rules in
    let free : length (dialogues_of ps) < c.self.inside.limits.max_dialogues = rw (sym c.self.view_is) at (room-to-be-born c.args.self.now c.requires.free) in
    let next : c.args.dialogue.standing.identifier ≡ d = rw (sym c.self.view_is) at c.requires.next in
    let within : IsWithin c.self.inside.limits.reject_ms c.self.inside.next_number c.args.dialogue = rw (sym c.self.view_is) at c.requires.within in
    rw (new, c.next_identifier-following.ensures) (sound-push c.self.inside.limits d c.self.inside.next_number c.self.inside.clock ps c.args.dialogue c.self.invariant next within free)

pub returns-clause-ok : goal.returns-clause-ok
returns-clause-ok g c =
    let d = c.self.inside.next_dialogue in
    let ps : List TableEntry = c.self.inside.table in
    let put : c.insert.new.self ≡ ps ++ (d, c.args.dialogue) ∷ [] = search rules in
    let new : dialogues_of c.insert.new.self ≡ dialogues_of ps ++ c.args.dialogue ∷ [] = ap dialogues_of put ∙ dialogues-push ps (d, c.args.dialogue) in
    let whole : ℕ → List Dialogue → World = λ n ds. record { max_dialogues = c.self.inside.limits.max_dialogues; reject_ms = c.self.inside.limits.reject_ms; idle_ms = c.self.inside.limits.idle_ms; next_dialogue = n; next_number = c.self.inside.next_number; clock = c.self.inside.clock; dialogues = ds } in
    ap (λ n. whole n (dialogues_of c.insert.new.self)) c.next_identifier-following.ensures ∙ ap (whole (d + 1)) new ∙ ap (λ (w : World). with_created w c.args.dialogue) c.self.view_is
