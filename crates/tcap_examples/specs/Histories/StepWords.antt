-- Words for the engines and events of histories that are written step by step.
use Rattle.std.specs.Prelude.{ℕ, ℤ, List, [], ◌∷◌, Option, Some, None}
use Rattle.tcap_invocation.specs.Invocations.{Row}
use Rattle.tcap_invocation.specs.declared.class.Class.TheVariants.{One}
use Rattle.tcap_invocation.specs.declared.stage.Stage.{Stage}
use Rattle.tcap_model.specs.Words.Answer.{Answer}
use Rattle.tcap_model.specs.Table.Dialogue.{Dialogue}
use Rattle.tcap_model.specs.Words.Address.{Address}
use Rattle.tcap_model.specs.Words.Event.{Event}
use Rattle.tcap_examples.specs.Values.DialogueValues.{code}
use Rattle.tcap_model.specs.Histories.History.{Start}
use Rattle.tcap_model.specs.Words.Output.{Output}
use Rattle.tcap_model.specs.Procedures.QueueRules.{Queued}
use Rattle.tcap_model.specs.Words.Request.{Request}
use Rattle.tcap_model.specs.Words.State.{State}
use Rattle.tcap_model.specs.Table.World.{World}
use Rattle.tcap_examples.specs.Histories.Steps.{Step, Walk}
use Rattle.tcap_examples.specs.Values.Asked as asks
use Rattle.tcap_examples.specs.Values.Peer.{arrived, peer_address}

-- ---- engines

-- At most four dialogues, a second to wait for a Reject, no idle limit, and both counters at 1 (own).
abbrev pub steps_start : Start
steps_start = record { max_dialogues = 4; reject_ms = 1000; idle_ms = 0; next_dialogue = 1; next_number = 1 }

-- The engine before its first dialogue (own).
abbrev pub empty_engine : World
empty_engine = record {
  max_dialogues = 4;
  reject_ms = 1000;
  idle_ms = 0;
  next_dialogue = 1;
  next_number = 1;
  clock = 0;
  dialogues =
      [];
}

-- The engine once dialogue 1 was created, at this clock, with the number of the next invocation and the
-- dialogues that stand (own).
abbrev pub engine_with : ℕ → ℕ → List Dialogue → World
engine_with clock next_number dialogues =
    record {
      max_dialogues = 4;
      reject_ms = 1000;
      idle_ms = 0;
      next_dialogue = 2;
      next_number = next_number;
      clock =
          clock;
      dialogues = dialogues;
    }

-- The engine where dialogue 1 stands: the clock, the number of the next invocation, and the dialogue
-- (own).
abbrev pub engine_of_one : ℕ → ℕ → Dialogue → World
engine_of_one clock next_number dialogue = engine_with clock next_number (dialogue ∷ [])

-- The engine where dialogue 1 is over: the clock, and the number of the next invocation (own).
abbrev pub engine_after : ℕ → ℕ → World
engine_after clock next_number = engine_with clock next_number []

-- The address that a dialogue keeps whose peer is the one of examples: none before there is a peer (own).
abbrev pub kept_in : State → Address
kept_in State.fresh = []
kept_in State.sent = peer_address
kept_in (State.received peer) = peer_address
kept_in (State.active peer) = peer_address

-- Dialogue 1 in this state, with its application context, its queue and its invocations, last active at clock
-- 0 if at all (own).
abbrev pub dialogue_1 : State → Option (List ℕ) → List Queued → List Row → Dialogue
dialogue_1 state context queue rows = record {
  standing = record { identifier = 1; state = state; context = context; queue = queue };
  invocations = record { reject_ms = 1000; rows = rows };
  idle_ms = 0;
  touched = 0;
  kept = kept_in state;
}

-- An Invoke in the queue: its octets, and the number of its invocation, which is of class 1 (own).
abbrev pub invoke_queued : List ℕ → ℕ → Queued
invoke_queued octets number = record { octets = octets; invoking = Some (record { number = number; class = One }) }

-- A Reject in the queue, by its octets (own).
abbrev pub queued_reject : List ℕ → Queued
queued_reject octets = record { octets = octets; invoking = None }

-- An invocation of class 1: its invoke identifier, its number and its stage (own).
abbrev pub class_one_row : ℤ → ℕ → Stage → Row
class_one_row id number stage = (id, record { number = number; class = One; stage = stage })

-- ---- steps

-- These steps, from the engine before its first dialogue on (own).
abbrev pub walk : List Step → Walk
walk steps = record { start = steps_start; before = empty_engine; steps = steps }

-- A dialogue is asked for, and number 1 is created (own).
abbrev pub new_dialogue_1 : World → Step
new_dialogue_1 after = record { event = Event.new_dialogue; answer = Answer.new_dialogue 1; after = after }

-- A request on dialogue 1 (own).
abbrev pub request_step : Request → Answer → World → Step
request_step asked answer after = record { event = Event.on_dialogue 1 asked; answer = answer; after = after }

-- Bytes are received (own).
abbrev pub receive_step : List ℕ → List Output → World → Step
receive_step bytes outputs after =
    record { event = arrived bytes; answer = Answer.outputs outputs; after = after }

-- A moment is handed in (own).
abbrev pub moment_step : ℕ → List Output → World → Step
moment_step now outputs after = record { event = Event.moment now; answer = Answer.outputs outputs; after = after }

-- ---- requests

-- TC-INVOKE with this invoke identifier, operation and timeout, of class 1, without parameter and
-- linked identifier (own).
abbrev pub invoke_request : ℤ → ℕ → ℕ → Request
invoke_request id operation timeout = asks.invoke id One (code operation) None None timeout
