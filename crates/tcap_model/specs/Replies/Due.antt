-- The fault that is due for a request, by the history.
use Rattle.std.specs.Prelude.{ℕ, ℤ, List, length, Bool, false, Option, Some, None}
use Rattle.tcap_model.specs.Histories.Birth.{next_dialogue}
use Rattle.tcap_model.specs.Procedures.ComponentRequest.{identifier_of}
use Rattle.tcap_model.specs.Words.Fault.{Fault}
use Rattle.tcap_model.specs.Replies.Held.{held, pending}
use Rattle.tcap_model.specs.Histories.History.{History}
use Rattle.tcap_model.specs.Words.Identifiers.{birth_fault, are_numbers_spent}
use Rattle.tcap_model.specs.Invocations.Invocation.{next_number}
use Rattle.tcap_model.specs.Histories.Life.{Life, life, standing_dialogues}
use Rattle.tcap_model.specs.Histories.Pair.{Past}
use Rattle.tcap_model.specs.Replies.Queue.{queue}
use Rattle.tcap_model.specs.Procedures.QueueRules.{queue_limit}
use Rattle.tcap_model.specs.Procedures.Refusals.{Situation, due_on}
use Rattle.tcap_model.specs.Words.Request.{Request}
use Rattle.tcap_model.specs.Procedures.Standing.{Standing}
use Rattle.tcap_model.specs.Words.State.{State}

-- A dialogue that stands, as its history tells of it (own).
abbrev pub standing_of : ℕ → Past → State → Option (List ℕ) → Standing
standing_of dialogue past state context =
    record { identifier = dialogue; state = state; context = context; queue = queue dialogue past }

-- Whether an identifier is in use, where the request has one (own).
abbrev pub held_if_any : ℕ → ℕ → Past → Option ℤ → Bool
held_if_any reject_ms dialogue past None = false
held_if_any reject_ms dialogue past (Some id) = held reject_ms dialogue id past

-- The invocation that is Queued or Sent, where the request has an identifier (own).
abbrev pub pending_if_any : ℕ → Past → Option ℤ → Option ℕ
pending_if_any dialogue past None = None
pending_if_any dialogue past (Some id) = pending dialogue id past

-- What a request on a dialogue that stands is judged by, as the history tells it (own).
abbrev pub situation_of : History → ℕ → Standing → Request → Situation
situation_of h dialogue standing request = record {
  standing = standing;
  limit = queue_limit;
  is_in_use = held_if_any h.start.reject_ms dialogue h.pairs (identifier_of request);
  pending = pending_if_any dialogue h.pairs (identifier_of request);
  number = next_number h;
  is_spent = are_numbers_spent (next_number h);
}

-- The fault that is due for a request, by the dialogue's life: before it is created and once it is over
-- the dialogue is unknown (own).
abbrev pub due_by : History → ℕ → Request → Life → Option Fault
due_by h dialogue request Life.unborn = Some Fault.unknown_dialogue
due_by h dialogue request (Life.standing state context) =
    due_on (situation_of h dialogue (standing_of dialogue h.pairs state context) request) request
due_by h dialogue request Life.over = Some Fault.unknown_dialogue

-- The fault that is due for a request on a dialogue (own).
abbrev pub due : History → ℕ → Request → Option Fault
due h dialogue request = due_by h dialogue request (life dialogue h.pairs)

-- Why no dialogue can be created, if so (own).
abbrev pub birth_due : History → Option Fault
birth_due h = birth_fault h.start.max_dialogues (length (standing_dialogues h.pairs)) (next_dialogue h)
