-- Dialogues that have been idle too long: which they are at a moment, what is told of each, and what is left.
use Rattle.std.specs.Prelude.{◌≡◌, ℕ, Bool, false, not, nat_eq, List, [], ◌∷◌, map, filter, Option, Some, None}
use Rattle.std.specs.List.{list_any}
use Rattle.std.specs.Map.{lookup}
use Rattle.tcap_engine.specs.DialogueEntries.{TableEntry, dialogues_of}
use Rattle.tcap_model.specs.Table.Dialogue.{Dialogue}
use Rattle.tcap_model.specs.Table.DueLapses.{at_moment, idle_at_moment, table_idle_told}
use Rattle.tcap_model.specs.Table.TableMove.{ended_told}
use Rattle.tcap_model.specs.Words.Output.{Output, AbortCause, DialogueIndication}

-- A dialogue in its place after a moment (Q.774, Invocation timer; Q.774, Reject timer).
abbrev pub entry_at : ℕ → TableEntry → TableEntry
entry_at now p = (p.0, at_moment now p.1)

-- The identifiers of the dialogues that have been idle too long at a moment, in the order in which they are
-- told (own).
abbrev pub idle_ids : ℕ → List TableEntry → List ℕ
idle_ids now ps = map (λ d. d.standing.identifier) (idle_at_moment now (dialogues_of ps))

-- What is told of a dialogue that has been idle too long at a moment, if it stands (own).
abbrev pub idle_indications : ℕ → Option Dialogue → List Output
idle_indications now None = []
idle_indications now (Some d) = table_idle_told now d

-- What is told of the dialogue of an identifier then (own).
abbrev pub ends_in : ℕ → List TableEntry → ℕ → List Output
ends_in now ps d = idle_indications now (lookup (nat_eq d) ps)

-- Whether an identifier is one of these (own).
abbrev pub is_among : List ℕ → ℕ → Bool
is_among ids d = list_any (nat_eq d) ids

-- The places without those of these identifiers (own).
abbrev pub without_all : List ℕ → List TableEntry → List TableEntry
without_all ids ps = filter (λ p. not (is_among ids p.0)) ps

-- The places after a moment, without those of these identifiers (own).
abbrev pub left_by : ℕ → List ℕ → List TableEntry → List TableEntry
left_by now ids ps = without_all ids (map (entry_at now) ps)

-- Each identifier stands once (own).
abbrev pub AreDistinct : List ℕ → Type 0
AreDistinct [] = Unit {0}
AreDistinct (d ∷ ids) = (is_among ids d ≡ false) × AreDistinct ids

-- What is told of a dialogue that is over now: TC-P-ABORT, and each invocation that is left (own).
abbrev pub idle_end : Option Dialogue → List Output
idle_end None = []
idle_end (Some d) =
    Output.dialogue (DialogueIndication.p_abort d.standing.identifier AbortCause.idle)
    ∷ ended_told d.standing.identifier d.invocations

-- What is told of the dialogue of an identifier then (own).
abbrev pub idle_end_in : List TableEntry → ℕ → List Output
idle_end_in ps d = idle_end (lookup (nat_eq d) ps)
