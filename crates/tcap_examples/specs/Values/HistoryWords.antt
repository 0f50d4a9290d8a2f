-- Words for the events and answers of worked histories.
use Rattle.std.specs.Prelude.{ℕ, ℤ, pos, List, [], ◌∷◌, None}
use Rattle.tcap_component.specs.Component.{CodeParts}
use Rattle.tcap_invocation.specs.declared.class.Class.{Class}
use Rattle.tcap_invocation.specs.declared.class.Class.TheVariants.{One}
use Rattle.tcap_model.specs.Words.Answer.{Answer}
use Rattle.tcap_model.specs.Words.Event.{Event}
use Rattle.tcap_model.specs.Words.Fault.{Fault}
use Rattle.tcap_examples.specs.Values.Hex.{hex}
use Rattle.tcap_model.specs.Histories.History.{Start}
use Rattle.tcap_model.specs.Words.Output.{Output, Closing}
use Rattle.tcap_model.specs.Histories.Pair.{Pair}
use Rattle.tcap_model.specs.Words.Request.{Request}
use Rattle.tcap_examples.specs.Values.Asked as asks
use Rattle.tcap_examples.specs.Values.Told as told
use Rattle.tcap_examples.specs.Values.Peer.{arrived, sent}

-- ---- events and answers, where there is no idle limit

-- A dialogue is asked for, and this one is created (own).
abbrev pub dialogue_born : ℕ → Pair
dialogue_born dialogue = record { event = Event.new_dialogue; answer = Answer.new_dialogue dialogue; idle_ms = 0 }

-- A dialogue is asked for, and refused (own).
abbrev pub birth_refused : Fault → Pair
birth_refused fault = record { event = Event.new_dialogue; answer = Answer.refused fault; idle_ms = 0 }

-- TC-INVOKE in a dialogue with this identifier, class, local operation code and timeout, without
-- parameter and linked identifier (own).
abbrev pub invoke_pair : ℕ → ℤ → Class → ℤ → ℕ → Answer → Pair
invoke_pair dialogue id class code timeout answer =
    record {
      event = Event.on_dialogue dialogue (asks.invoke id class (CodeParts.local code) None None timeout);
      answer = answer;
      idle_ms = 0;
    }

-- A request on a dialogue (own).
abbrev pub request_pair : ℕ → Request → Answer → Pair
request_pair dialogue r answer = record { event = Event.on_dialogue dialogue r; answer = answer; idle_ms = 0 }

-- Bytes are received, and this is sent and told (own).
abbrev pub received_pair : List ℕ → List Output → Pair
received_pair bytes outputs = record { event = arrived bytes; answer = Answer.outputs outputs; idle_ms = 0 }

-- A moment, and what is told (own).
abbrev pub moment_pair : ℕ → List Output → Pair
moment_pair now outputs = record { event = Event.moment now; answer = Answer.outputs outputs; idle_ms = 0 }

-- A moment is refused (own).
abbrev pub moment_refused : ℕ → Fault → Pair
moment_refused now fault = record { event = Event.moment now; answer = Answer.refused fault; idle_ms = 0 }

-- ---- requests without parameters

-- TC-BEGIN without application context (own).
abbrev pub begin_request : Request
begin_request = asks.begin None []

-- TC-CONTINUE without application context (own).
abbrev pub continue_request : Request
continue_request = asks.go_on None []

-- ---- outputs

-- TC-CONTINUE indication without application context (own).
abbrev pub continued : ℕ → Output
continued dialogue = told.go_on dialogue None []

-- TC-END indication without application context (own).
abbrev pub ended : ℕ → Output
ended dialogue = told.end dialogue None []

-- A result without a body (own).
abbrev pub empty_result : Closing
empty_result = Closing.result_last None

-- ---- starts and beginnings

-- An engine with at most four dialogues, a second to wait for a Reject, and no idle limit (own).
abbrev pub usual_start : Start
usual_start = record { max_dialogues = 4; reject_ms = 1000; idle_ms = 0; next_dialogue = 1; next_number = 1 }

-- Dialogue 1 is opened with one Invoke: identifier 1, class 1, operation 10, with this timeout; its
-- number is 1 (own).
abbrev pub opened_for : ℕ → List Pair → List Pair
opened_for timeout pairs =
    dialogue_born 1
    ∷ invoke_pair 1 (pos 1) One (pos 10) timeout (Answer.number 1)
    ∷ request_pair 1 begin_request (Answer.outputs
    (sent (hex 18 0x6210_480400000001_6C08_A106_020101_02010A) ∷ []))
    ∷ pairs

-- These pairs behind a Begin with an Invoke, whose timeout is a second (own).
abbrev pub opened_with_invoke : List Pair → List Pair
opened_with_invoke pairs = opened_for 1000 pairs
