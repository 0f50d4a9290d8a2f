-- What lapses at a moment in all dialogues, which of them have been idle too long, and each dialogue
-- after it.
use Rattle.std.specs.Prelude.{ℕ, ◌+◌, List, [], ◌∷◌, map, filter, Option, Some, None, if◌then◌else◌}
use Rattle.std.specs.List.{flat_map}
use Rattle.tcap_invocation.specs.declared.invocations.lapse.Lapse.{Lapse}
use Rattle.tcap_invocation.specs.Lapses.{due_at, after_lapse}
use Rattle.tcap_model.specs.Table.Dialogue.{Dialogue, with_invocations, is_idle_at}
use Rattle.tcap_model.specs.Table.TableMove.{row_lapse_told, ended_told}
use Rattle.tcap_model.specs.Words.KeyOrder.{in_order}
use Rattle.tcap_model.specs.Words.Output.{Output, AbortCause, DialogueIndication}

-- An invocation whose deadline was reached, and its dialogue (own).
pub record DueLapse : Type 0 where
  pub dialogue : ℕ
  pub lapse : Lapse

-- Lapses are told by deadline, then by dialogue, then by number (own).
abbrev pub due_key : DueLapse → List ℕ
due_key due = due.lapse.deadline ∷ due.dialogue ∷ due.lapse.number ∷ []

-- What is due in a dialogue at a moment, by its rows (Q.774, Invocation timer).
abbrev pub due_in : ℕ → Dialogue → List DueLapse
due_in now d = map (λ lapse. record { dialogue = d.standing.identifier; lapse = lapse }) (due_at now d.invocations.rows)

-- What is due in all dialogues, dialogue by dialogue (Q.774, Invocation timer).
abbrev pub all_due : ℕ → List Dialogue → List DueLapse
all_due now dialogues = flat_map (due_in now) dialogues

-- What is told of an invocation whose timer ran out: TC-L-CANCEL (Q.774, Invocation timer).
abbrev pub due_told : DueLapse → Output
due_told due = row_lapse_told due.dialogue due.lapse

-- All that lapses at a moment, in the order in which it is told (Q.774, Invocation timer).
abbrev pub all_told : ℕ → List Dialogue → List Output
all_told now dialogues = map due_told (in_order due_key (all_due now dialogues))

-- A dialogue after a moment: what was due has lapsed, and each identifier whose wait is over is free
-- (Q.774, Invocation timer; Q.774, Reject timer).
abbrev pub at_moment : ℕ → Dialogue → Dialogue
at_moment now d = with_invocations d (after_lapse d.invocations now)

-- ---- dialogues that stay idle

-- Those that have been idle too long are told by the moment at which they reached the limit, then by
-- dialogue (own).
abbrev pub table_idle_key : Dialogue → List ℕ
table_idle_key d = (d.touched + d.idle_ms) ∷ d.standing.identifier ∷ []

-- The dialogues that have been idle too long at a moment, in the order in which they are told (own).
abbrev pub idle_at_moment : ℕ → List Dialogue → List Dialogue
idle_at_moment now dialogues = in_order table_idle_key (filter (is_idle_at now) dialogues)

-- What is told of one: TC-P-ABORT, and each invocation that is left when what is due has lapsed (own).
abbrev pub table_idle_told : ℕ → Dialogue → List Output
table_idle_told now d =
    Output.dialogue (DialogueIndication.p_abort d.standing.identifier AbortCause.idle)
    ∷ ended_told d.standing.identifier (after_lapse d.invocations now)

-- What is told of all, dialogue by dialogue (own).
abbrev pub all_idle_told : ℕ → List Dialogue → List Output
all_idle_told now dialogues = flat_map (table_idle_told now) (idle_at_moment now dialogues)

-- A dialogue after a moment, if it still stands (own).
abbrev pub left_at : ℕ → Dialogue → Option Dialogue
left_at now d = if is_idle_at now d then None else Some (at_moment now d)
