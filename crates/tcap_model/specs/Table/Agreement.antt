-- What a history hands to one of its dialogues.
use Rattle.std.specs.Prelude.{Bool, true, false}
use Rattle.tcap_model.specs.Histories.Clock.{clock}
use Rattle.tcap_model.specs.Words.Event.{Event}
use Rattle.tcap_model.specs.Histories.History.{History}
use Rattle.tcap_model.specs.Invocations.Invocation.{next_number}
use Rattle.tcap_model.specs.Histories.Pair.{Pair}
use Rattle.tcap_model.specs.Procedures.QueueRules.{queue_limit}
use Rattle.tcap_model.specs.Replies.Reply.{reply}
use Rattle.tcap_model.specs.Words.Request.{Request, DialogueRequest}
use Rattle.tcap_model.specs.Table.TableMove.{Setting}

-- What is around a dialogue at a history (own).
abbrev pub setting_at : History → Setting
setting_at h = record { clock = clock h.pairs; number = next_number h; limit = queue_limit }

-- Whether a request, where it is accepted, leaves its dialogue standing
-- (Q.774, Transaction state machine).
abbrev pub leaves_standing : Request → Bool
leaves_standing (Request.component asked) = true
leaves_standing (Request.dialogue (DialogueRequest.uni to context info)) = false
leaves_standing (Request.dialogue (DialogueRequest.begin to context info)) = true
leaves_standing (Request.dialogue (DialogueRequest.go_on context info)) = true
leaves_standing (Request.dialogue (DialogueRequest.finish ending context info)) = false
leaves_standing (Request.dialogue (DialogueRequest.u_abort why info)) = false

-- An event with the answer that is due to it, under the idle limit of the history (own).
abbrev pub due_pair : History → Event → Pair
due_pair h event = record { event = event; answer = reply h event; idle_ms = h.start.idle_ms }
