-- The table of dialogues by identifier, and what an engine keeps of it.
use Rattle.std.specs.Prelude.{◌≡◌, ℕ, ◌<◌, ◌≤◌, ◌+◌, nat_eq, Option, Some, None, List, [], ◌∷◌, ◌++◌, map, length}
use Rattle.std.specs.Map.{set_value, remove_entry}
use Rattle.tcap_engine.specs.declared.limits.Limits.{Limits}
use Rattle.tcap_engine.specs.Limits.{AreLimits}
use Rattle.tcap_invocation.specs.Invocations.{AllBelow}
use Rattle.tcap_invocation.specs.Stage.{moment_limit}
use Rattle.tcap_model.specs.Table.Dialogue.{Dialogue}
use Rattle.tcap_model.specs.Table.World.{World}

-- An identifier and its dialogue (own).
abbrev pub TableEntry : Type 0
TableEntry = ℕ × Dialogue

-- The dialogues (own).
abbrev pub dialogues_of : List TableEntry → List Dialogue
dialogues_of ps = map (λ p. p.1) ps

-- The places after the dialogue of an identifier became another one, or is over (own).
abbrev pub entries_with : ℕ → Option Dialogue → List TableEntry → List TableEntry
entries_with d None ps = remove_entry (nat_eq d) ps
entries_with d (Some after) ps = set_value (nat_eq d) ps after

-- Each dialogue stands under its identifier, and the identifiers rise from this one on (own).
abbrev pub AreFrom : ℕ → List TableEntry → Type 0
AreFrom low [] = Unit {0}
AreFrom low (p ∷ ps) = (low ≤ p.0) × (p.1.standing.identifier ≡ p.0) × AreFrom (p.0 + 1) ps

-- Each identifier was drawn: it is below the next one (own).
abbrev pub AreDrawn : ℕ → List TableEntry → Type 0
AreDrawn next [] = Unit {0}
AreDrawn next (p ∷ ps) = (p.0 < next) × AreDrawn next ps

-- An identifier waits as long as the engine says, and the numbers of the invocations were drawn: they
-- are below the next one (own).
abbrev pub IsWithin : ℕ → ℕ → Dialogue → Type 0
IsWithin reject_ms next d = (d.invocations.reject_ms ≡ reject_ms) × AllBelow next d.invocations.rows

-- In each dialogue an identifier waits as long as the engine says, and the numbers of the invocations were
-- drawn (own).
abbrev pub AreWithin : ℕ → ℕ → List TableEntry → Type 0
AreWithin reject_ms next [] = Unit {0}
AreWithin reject_ms next (p ∷ ps) = IsWithin reject_ms next p.1 × AreWithin reject_ms next ps

-- What every engine keeps (own).
pub record IsSound (limits : Limits) (next_dialogue next_number clock : ℕ) (places : List TableEntry) : Type 0 where
  pub limited : AreLimits limits
  pub time : clock ≤ moment_limit
  pub from : AreFrom 0 places
  pub drawn : AreDrawn next_dialogue places
  pub within : AreWithin limits.reject_ms next_number places
  pub room : length places ≤ limits.max_dialogues

-- The engine with one dialogue more, created under the next identifier (own).
abbrev pub with_created : World → Dialogue → World
with_created w d = record w { next_dialogue = w.next_dialogue + 1; dialogues = w.dialogues ++ d ∷ [] }
