-- What a Begin or a Unidirectional brings, and what is told of it.
use Rattle.std.specs.Prelude.{ℕ, List, ◌∷◌, Option, Some, false}
use Rattle.tcap_model.specs.Procedures.QueueRules.{queue_limit, queue_each}
use Rattle.tcap_model.specs.Table.Dialogue as model
use Rattle.tcap_model.specs.Table.Dialogue.{with_queue, with_invocations, in_state, in_context, keeping}
use Rattle.tcap_model.specs.Table.TableMove.{Moved, Walked, walked_in}
use Rattle.tcap_model.specs.Words.Address.{Address}
use Rattle.tcap_model.specs.Words.Answer.{Answer}
use Rattle.tcap_model.specs.Words.Output as told
use Rattle.tcap_model.specs.Words.Output.{DialogueIndication}
use Rattle.tcap_model.specs.Words.State.{State}
use Rattle.tcap_primitives.specs.declared.output.Output.{Output}
use Rattle.tcap_primitives.specs.OutputViews.{all_shown}
use Rattle.tcap_dialogue.specs.StepViews.{Outcome}

-- What was told, and the dialogue (own).
abbrev pub begun : {A : Type 0} → List (Output A) → model.Dialogue → Outcome
begun outputs d = (Answer.outputs (all_shown outputs), Some d)

-- A Begin comes to a dialogue from an address, and its components tell this (Q.774, Dialogue begin).
abbrev pub begun_by : model.Dialogue → Address → List ℕ → Option (List ℕ) → List ℕ → Walked → Moved
begun_by d from origin context info w = record {
  answer = Answer.outputs (told.Output.dialogue (DialogueIndication.begin d.standing.identifier context info) ∷ w.told);
  after = keeping (with_queue (in_context (in_state (with_invocations d w.invocations) (State.received origin)) context)
      (queue_each queue_limit d.standing.queue w.rejects)) from;
  is_over = false;
}

-- The dialogue of a Begin and what it indicates, from the contents of its component portion (Q.774,
-- Dialogue begin).
abbrev pub begun_from : ℕ → model.Dialogue → Address → List ℕ → Option (List ℕ) → List ℕ → List ℕ → Moved
begun_from clock d from origin context info components =
    begun_by d from origin context info (walked_in clock d components)
