-- A dialogue more in the table, under an identifier above all.
use Rattle.std.proofs.Common.{◌≡◌, ℕ, ◌+◌, ◌<◌, ◌≤◌, Bool, true, false, cond, nat_eq, List, [], ◌∷◌, ◌++◌, Some, None, length, nat_le, if◌then◌else◌, refl, ap, arith, tests}
use Rattle.std.proofs.lemmas.Bool.{eqb-true}
use Rattle.std.proofs.lemmas.List.{length-append, length-map}
use Rattle.std.specs.Map.{lookup}
use Rattle.tcap_model.specs.Table.Dialogue.{Dialogue, fresh_dialogue}
use Rattle.tcap_model.specs.Table.EngineMove.{engine_move, birth_fault_in, asked_in, born_in}
use Rattle.tcap_model.specs.Table.World.{World}
use Rattle.tcap_model.specs.Words.Answer.{Answer}
use Rattle.tcap_model.specs.Words.Event.{Event}
use Rattle.tcap_model.specs.Words.Fault.{Fault}
use Rattle.tcap_model.specs.Words.Identifiers.{are_dialogues_spent}
use Rattle.tcap_engine.specs.declared.limits.Limits.{Limits}
use Rattle.tcap_engine.specs.DialogueEntries.{TableEntry, AreFrom, AreDrawn, AreWithin, IsSound, IsWithin, dialogues_of}

-- No dialogue stands under an identifier that wasn't drawn.
pub absent-drawn : (d : ℕ) (ps : List TableEntry) → AreDrawn d ps → lookup (nat_eq d) ps ≡ None
absent-drawn d [] h = refl
absent-drawn d (p ∷ ps) h = go (nat_eq d p.0) refl (absent-drawn d ps h.1)
  where
    go : (b : Bool) → nat_eq d p.0 ≡ b → lookup (nat_eq d) ps ≡ None → cond (nat_eq d p.0) (Some p.1) (lookup (nat_eq d) ps) ≡ None
    go true e rest = let same = eqb-true d p.0 e in let below = h.0 in absurd (omega (arith, same, below))
    go false e rest = rw e rest

pub from-push : (low : ℕ) (ps : List TableEntry) (p : TableEntry) → low ≤ p.0 → p.1.standing.identifier ≡ p.0 → AreDrawn p.0 ps → AreFrom low ps → AreFrom low (ps ++ p ∷ [])
from-push low [] p le is drawn h = (le, is, tt)
from-push low (q ∷ qs) p le is drawn h = let below = drawn.0 in (h.0, h.1, from-push (q.0 + 1) qs p (omega (arith, below)) is drawn.1 h.2)

pub drawn-push : (next : ℕ) (d : Dialogue) (ps : List TableEntry) → AreDrawn next ps → AreDrawn (next + 1) (ps ++ (next, d) ∷ [])
drawn-push next d [] h = (omega arith, tt)
drawn-push next d (p ∷ ps) h = let below = h.0 in (omega (arith, below), drawn-push next d ps h.1)

pub within-push : (reject_ms next : ℕ) (ps : List TableEntry) (p : TableEntry) → IsWithin reject_ms next p.1 → AreWithin reject_ms next ps → AreWithin reject_ms next (ps ++ p ∷ [])
within-push reject_ms next [] p is h = (is, tt)
within-push reject_ms next (q ∷ qs) p is h = (h.0, within-push reject_ms next qs p is h.1)

pub dialogues-push : (ps : List TableEntry) (p : TableEntry) → dialogues_of (ps ++ p ∷ []) ≡ dialogues_of ps ++ p.1 ∷ []
dialogues-push [] p = refl
dialogues-push (q ∷ qs) p = ap (λ (ds : List Dialogue). q.1 ∷ ds) (dialogues-push qs p)

-- Where nothing stands in the way, there is room for one dialogue more.
pub room-to-be-born : (w : World) → birth_fault_in w ≡ None → length w.dialogues < w.max_dialogues
room-to-be-born w e = go (nat_le w.max_dialogues (length w.dialogues)) refl e
  where
    go : (b : Bool) → nat_le w.max_dialogues (length w.dialogues) ≡ b → (if b then Some Fault.dialogues_full else if are_dialogues_spent w.next_dialogue then Some Fault.dialogue_ids_spent else None) ≡ None → length w.dialogues < w.max_dialogues
    go true full e = absurd cc
    go false free e = grind (arith, tests, free)

-- What an engine keeps holds with one dialogue more, created under the next identifier.
pub sound-push : (limits : Limits) (d next_number clock : ℕ) (ps : List TableEntry) (x : Dialogue) → IsSound limits d next_number clock ps → x.standing.identifier ≡ d
    → IsWithin limits.reject_ms next_number x → length (dialogues_of ps) < limits.max_dialogues → IsSound limits (d + 1) next_number clock (ps ++ (d, x) ∷ [])
sound-push limits d next_number clock ps x h is within free = record {
  limited = h.limited;
  time = h.time;
  from = from-push 0 ps (d, x) (omega arith) is h.drawn h.from;
  drawn = drawn-push d x ps h.drawn;
  within = within-push limits.reject_ms next_number ps (d, x) within h.within;
  room = let sum = length-append ps ((d, x) ∷ []) in let many = length-map ps (λ (p : TableEntry). p.1) in omega (arith, sum, many, free);
}

-- A dialogue is created where nothing stands in the way.
pub born_by : (w : World) → birth_fault_in w ≡ None → engine_move w Event.new_dialogue ≡ born_in w (Answer.new_dialogue w.next_dialogue) (fresh_dialogue w.next_dialogue w.reject_ms w.idle_ms)
unfolding engine_move
born_by w e = ap (asked_in w) e
