-- How long the message is that an answer sends, and how many invocations a request ends.
use Rattle.std.specs.Prelude.{ℕ, Bool, true, false, List, [], ◌∷◌, length, Option, Some, None, if◌then◌else◌}
use Rattle.tcap_engine.specs.Running.{outputs_in}
use Rattle.tcap_invocation.specs.Closing.{ended_at}
use Rattle.tcap_model.specs.Table.Dialogue.{Dialogue}
use Rattle.tcap_model.specs.Table.EngineMove.{dialogue_in}
use Rattle.tcap_model.specs.Table.World.{World}
use Rattle.tcap_model.specs.Words.Answer.{Answer}
use Rattle.tcap_model.specs.Words.Output.{Output}
use Rattle.tcap_model.specs.Words.Request.{Request, DialogueRequest}

-- How many octets the first message has that is sent (own).
abbrev pub sent_in : List Output → Option ℕ
sent_in [] = None
sent_in (Output.send to bytes ∷ os) = Some (length bytes)
sent_in (Output.dialogue told ∷ os) = sent_in os
sent_in (Output.component told ∷ os) = sent_in os
sent_in (Output.dropped why ∷ os) = sent_in os

-- How many octets the message has that an answer sends, if it sends one (own).
abbrev pub sent_length : Answer → Option ℕ
sent_length answer = sent_in (outputs_in answer)

-- One for the message that is sent, if there is one (own).
abbrev pub message_count : Option ℕ → ℕ
message_count None = 0
message_count (Some count) = 1

-- Whether a request ends its dialogue where it is accepted (Q.774, Dialogue control).
abbrev pub ends_dialogue : Request → Bool
ends_dialogue (Request.component request) = false
ends_dialogue (Request.dialogue (DialogueRequest.uni to context info)) = true
ends_dialogue (Request.dialogue (DialogueRequest.begin to context info)) = false
ends_dialogue (Request.dialogue (DialogueRequest.go_on context info)) = false
ends_dialogue (Request.dialogue (DialogueRequest.finish ending context info)) = true
ends_dialogue (Request.dialogue (DialogueRequest.u_abort why info)) = true

-- How many invocations of a dialogue are Queued or Sent (Q.774, Invocation state machine).
abbrev pub open_in : Option Dialogue → ℕ
open_in None = 0
open_in (Some d) = length (ended_at d.invocations.rows)

-- How many invocations a request ends where it is accepted (own).
abbrev pub ended_by : World → ℕ → Request → ℕ
ended_by w dialogue request = if ends_dialogue request then open_in (dialogue_in dialogue w.dialogues) else 0
