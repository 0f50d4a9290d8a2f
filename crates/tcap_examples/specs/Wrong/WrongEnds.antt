-- Histories in which an engine tells a wrong end of an invocation.
use Rattle.std.specs.Prelude.{pos, List, [], ◌∷◌, reverse, Some, None}
use Rattle.tcap_invocation.specs.declared.class.Class.{Class}
use Rattle.tcap_invocation.specs.declared.class.Class.TheVariants.{One, Two, Three}
use Rattle.tcap_model.specs.Words.Answer.{Answer}
use Rattle.tcap_examples.specs.Values.DialogueValues.{code, result_of_first, of_result}
use Rattle.tcap_examples.specs.Values.Hex.{hex}
use Rattle.tcap_model.specs.Words.Output.{Closing, Rejector}
use Rattle.tcap_model.specs.Histories.Pair.{Pair, Past}
use Rattle.tcap_examples.specs.Values.HistoryWords.{dialogue_born, invoke_pair, request_pair, received_pair, moment_pair, begin_request, continued, ended, empty_result, usual_start, opened_with_invoke}
use Rattle.tcap_examples.specs.Wrong.WrongHistories.{Wrong, wrong}
use Rattle.tcap_examples.specs.Values.Told as told
use Rattle.tcap_examples.specs.Values.Peer.{sent}

-- A result is received and told (own).
abbrev pub answered_once : List Pair → List Pair
answered_once pairs =
    opened_with_invoke (received_pair result_of_first (continued 1 ∷ told.closed 1 1 (pos 1) empty_result ∷ []) ∷ pairs)

-- A repeated result is told twice (own).
abbrev pub double_result : Wrong
double_result = wrong usual_start (answered_once [])
    (received_pair result_of_first (continued 1 ∷ told.closed 1 1 (pos 1) empty_result ∷ []))

-- A lapse is told after the result (own).
abbrev pub stale_timer : Wrong
stale_timer = wrong usual_start (answered_once [])
    (moment_pair 1000 (told.closed 1 1 (pos 1) Closing.lapsed ∷ []))

-- At a lapse an empty result is told (own).
abbrev pub empty_result_at_a_lapse : Wrong
empty_result_at_a_lapse = wrong usual_start (opened_with_invoke [])
    (moment_pair 1000 (told.closed 1 1 (pos 1) empty_result ∷ []))

-- An invocation ends as soon as its Invoke is sent (own).
abbrev pub ended_at_once : Wrong
ended_at_once = wrong usual_start (dialogue_born 1 ∷ invoke_pair 1 (pos 1) One (pos 10) 1000 (Answer.number 1) ∷ [])
    (request_pair 1 begin_request (Answer.outputs (
    sent (hex 18 0x6210_480400000001_6C08_A106_020101_02010A)
    ∷ told.closed 1 1 (pos 1) Closing.ended
    ∷ [])))

-- A lapse closes the invocations with the same identifier in all dialogues (own).
abbrev pub lapse_by_identifier : Wrong
lapse_by_identifier = wrong usual_start (opened_with_invoke (
    dialogue_born 2
    ∷ invoke_pair 2 (pos 1) One (pos 10) 5000 (Answer.number 2)
    ∷ request_pair 2 begin_request (Answer.outputs
    (sent (hex 18 0x6210_480400000002_6C08_A106_020101_02010A) ∷ []))
    ∷ []))
    (moment_pair 1000 (told.closed 1 1 (pos 1) Closing.lapsed ∷ told.closed 2 2 (pos 1) Closing.lapsed ∷ []))

-- An End closes the open invocations before its components are read (own).
abbrev pub end_before_components : Wrong
end_before_components = wrong usual_start (opened_with_invoke [])
    (received_pair (hex 15 0x640D_490400000001_6C05_A203_020101) (
    ended 1
    ∷ told.closed 1 1 (pos 1) Closing.ended
    ∷ told.local_reject (Some 1) (Some (pos 1)) (of_result 0)
    ∷ []))

-- Dialogue 1 is opened with one Invoke of this class (own).
abbrev pub opened_as : Class → List Pair
opened_as class =
    dialogue_born 1
    ∷ invoke_pair 1 (pos 1) class (pos 10) 1000 (Answer.number 1)
    ∷ request_pair 1 begin_request (
    Answer.outputs (sent (hex 18 0x6210_480400000001_6C08_A106_020101_02010A) ∷ []))
    ∷ []

-- A result of class 2 is told as a result (own).
abbrev pub class_two_result : Wrong
class_two_result = wrong usual_start (opened_as Two)
    (received_pair result_of_first (continued 1 ∷ told.closed 1 1 (pos 1) empty_result ∷ []))

-- A part of a result of class 2 is told as such, and closes nothing (own).
abbrev pub class_two_part : Wrong
class_two_part = wrong usual_start (opened_as Two)
    (received_pair (hex 21 0x6513_480400000005_490400000001_6C05_A703_020101) (
    continued 1 ∷ told.result_more 1 1 (pos 1) None ∷ []))

-- An error of class 3 is told as an error (own).
abbrev pub class_three_error : Wrong
class_three_error = wrong usual_start (opened_as Three)
    (received_pair (hex 24 0x6516_480400000005_490400000001_6C08_A306_020101_020101) (
    continued 1 ∷ told.closed 1 1 (pos 1) (Closing.error_back (code 1) None) ∷ []))

-- A Reject with a Return Result problem closes the invocation (own).
abbrev pub reject_of_a_result_closes : Wrong
reject_of_a_result_closes = wrong usual_start (opened_with_invoke [])
    (received_pair (hex 24 0x6516_480400000005_490400000001_6C08_A406_020101_820100) (
    continued 1
    ∷ told.closed 1 1 (pos 1) (Closing.rejected (of_result 0) Rejector.remote_provider)
    ∷ []))

-- The right result, told one event late (own).
abbrev pub result_told_late : Past
result_told_late = reverse (opened_with_invoke (
    received_pair result_of_first (continued 1 ∷ [])
    ∷ moment_pair 5 (told.closed 1 1 (pos 1) empty_result ∷ [])
    ∷ []))

-- The lapse, told one moment late (own).
abbrev pub lapse_told_late : Past
lapse_told_late = reverse (opened_with_invoke (
    moment_pair 1000 []
    ∷ moment_pair 1001 (told.closed 1 1 (pos 1) Closing.lapsed ∷ [])
    ∷ []))
