-- What events mean for one identifier of a dialogue, line by line.
use Rattle.std.specs.Prelude.{◌≡◌, ℕ, pos, List, [], ◌∷◌, ◌++◌, map, None}
use Rattle.tcap_invocation.specs.declared.class.Class.TheVariants.{One}
use Rattle.tcap_model.specs.Words.Answer.{Answer}
use Rattle.tcap_model.specs.Words.Fault.{Fault}
use Rattle.tcap_model.specs.Words.Output.{Output, DialogueIndication}
use Rattle.tcap_model.specs.Words.Request.{Request, Ending, AbortReason, ComponentRequest, DialogueRequest}
use Rattle.tcap_examples.specs.Values.Asked as asks
use Rattle.tcap_model.specs.Histories.Pair.{Pair, Past}
use Rattle.tcap_model.specs.Invocations.Marks.{Mark, Noted, marks}
use Rattle.tcap_examples.specs.Histories.Closing.{accepting}
use Rattle.tcap_examples.specs.Values.DialogueValues.{aare, of_invoke, result_of_first, shown_begin}
use Rattle.tcap_examples.specs.Values.Hex.{hex}
use Rattle.tcap_examples.specs.Values.HistoryWords.{dialogue_born, invoke_pair, request_pair, received_pair}
use Rattle.tcap_examples.specs.Values.HistoryWords.{moment_pair}
use Rattle.tcap_examples.specs.Values.HistoryWords.{moment_refused, begin_request, continue_request}

-- A pair, what stands before it, and what it means for identifier 1 of dialogue 1, as it is stated (own).
pub record Meaning : Type 0 where
  pub before : Past
  pub pair : Pair
  pub made : List Mark

-- What a pair means after these pairs, in one line (own).
abbrev pub meaning : Past → Pair → List Mark → Meaning
meaning before pair made = record { before = before; pair = pair; made = made }

-- Each pair means what is stated (own).
abbrev pub MeanAsStated : List Meaning → Type 0
MeanAsStated rows =
    map (λ (r : Meaning). map (λ (noted : Noted). noted.mark) (marks 1 (pos 1) r.pair r.before)) rows
    ≡ map (λ (r : Meaning). r.made) rows

-- ---- what stands before

-- Dialogue 1 is Idle (own).
abbrev pub idle : Past
idle = invoke_pair 1 (pos 1) One (pos 10) 1000 (Answer.number 1) ∷ dialogue_born 1 ∷ []

-- A Begin without application context was sent (own).
abbrev pub begun : Past
begun = request_pair 1 begin_request (Answer.outputs []) ∷ idle

-- A Continue was received (own).
abbrev pub active : Past
active = received_pair (hex 14 0x650C_480400000005_490400000001) [] ∷ begun

-- A Begin was received, and nothing sent yet (own).
abbrev pub answering : Past
answering = received_pair shown_begin (Output.dialogue (DialogueIndication.begin 1 None []) ∷ []) ∷ []

-- The dialogue is over (own).
abbrev pub over : Past
over = received_pair (hex 8 0x6706_490400000001) [] ∷ active

-- An accepted request of the dialogue (own).
abbrev pub accepted : Request → Pair
accepted request = request_pair 1 request (Answer.outputs [])

-- A dialogue request without application context and user information (own).
abbrev pub ends_with : Ending → Request
ends_with ending = Request.dialogue (DialogueRequest.finish ending None [])

-- ---- the special rows

-- Requests that send, send and end, and give up (own).
abbrev pub requests : List Meaning
requests =
    meaning idle (accepted begin_request) (Mark.sent ∷ [])
    ∷ meaning active (accepted continue_request) (Mark.sent ∷ [])
    ∷ meaning idle (accepted (asks.uni None [])) (Mark.sent ∷ Mark.end ∷ [])
    ∷ meaning active (accepted (ends_with Ending.basic)) (Mark.sent ∷ Mark.end ∷ [])
    ∷ meaning active (request_pair 1 (Request.component (ComponentRequest.u_cancel (pos 1))) (Answer.given_up 1))
    (Mark.given_up ∷ [])
    ∷ meaning active (request_pair 1 (Request.component (ComponentRequest.u_cancel (pos 2))) (Answer.given_up 2)) []
    ∷ []

-- Moments, also of a dialogue that is over (own).
abbrev pub moments : List Meaning
moments =
    meaning active (moment_pair 5 []) (Mark.moment 5 ∷ [])
    ∷ meaning over (moment_pair 5 []) (Mark.moment 5 ∷ [])
    ∷ meaning active (moment_refused 5 Fault.moment_too_late) []
    ∷ meaning [] (moment_pair 5 []) []
    ∷ []

-- A part of a result, a Reject of the Invoke and one of a result, behind them what can't be read and a
-- result, and a result for another identifier before all (own).
abbrev pub many_components : List ℕ
many_components =
    hex 52 0x6532_480400000005_490400000001_6C24_A203020102_A703020101_A406020101810100_A406020101820100_A503020107_A203020101

-- Normal messages to a live dialogue: a Continue by its components, an End by its components and the end
-- (own).
abbrev pub normal_messages : List Meaning
normal_messages =
    meaning active (received_pair result_of_first []) (Mark.last None ∷ [])
    ∷ meaning begun (received_pair result_of_first []) (Mark.last None ∷ [])
    ∷ meaning active (received_pair many_components []) (Mark.more None ∷ Mark.reject (of_invoke 0) ∷ [])
    ∷ meaning active (received_pair (hex 15 0x640D_490400000001_6C05_A203_020101) []) (Mark.last None ∷ Mark.end ∷ [])
    ∷ []

-- ---- the default

-- All else that ends the dialogue: an abnormal Continue and an abnormal End with components, an Abort, a
-- faulty message, a prearranged end, and the user's abort (own).
abbrev pub other_ends : List Meaning
other_ends =
    meaning active (received_pair accepting []) (Mark.end ∷ [])
    ∷ meaning begun (received_pair (hex 8 0x6439_490400000001 ++ aare ++ hex 7 0x6C05_A203_020101) []) (Mark.end ∷ [])
    ∷ meaning active (received_pair (hex 8 0x6706_490400000001) []) (Mark.end ∷ [])
    ∷ meaning active (received_pair (hex 15 0x650D_480400000005_490400000001_6C) []) (Mark.end ∷ [])
    ∷ meaning active (accepted (ends_with Ending.prearranged)) (Mark.end ∷ [])
    ∷ meaning active (accepted (Request.dialogue (DialogueRequest.u_abort AbortReason.by_user []))) (Mark.end ∷ [])
    ∷ []

-- What means nothing: a refused request, other component requests, another dialogue's message, a message
-- to a dialogue that isn't live, and what comes after the end or before the birth (own).
abbrev pub nothing : List Meaning
nothing =
    meaning active (request_pair 1 begin_request (Answer.refused Fault.wrong_state)) []
    ∷ meaning active (invoke_pair 1 (pos 1) One (pos 10) 1000 (Answer.number 2)) []
    ∷ meaning active (request_pair 1 (Request.component (ComponentRequest.result_last (pos 1) None)) Answer.done) []
    ∷ meaning active (received_pair (hex 21 0x6513_480400000005_490400000002_6C05_A203020101) []) []
    ∷ meaning answering (received_pair result_of_first []) []
    ∷ meaning over (received_pair result_of_first []) []
    ∷ meaning over (received_pair (hex 8 0x6706_490400000001) []) []
    ∷ meaning [] (received_pair result_of_first []) []
    ∷ meaning active (dialogue_born 2) []
    ∷ []
