-- Worked histories: dialogues that stay idle too long.
use Rattle.std.specs.Prelude.{ℕ, pos, List, [], ◌∷◌, map, Some, None}
use Rattle.tcap_invocation.specs.declared.class.Class.TheVariants.{One}
use Rattle.tcap_model.specs.Words.Answer.{Answer}
use Rattle.tcap_examples.specs.Values.DialogueValues.{code, result_of_first, shown_begin}
use Rattle.tcap_model.specs.Words.Fault.{Fault}
use Rattle.tcap_examples.specs.Values.Hex.{hex}
use Rattle.tcap_model.specs.Histories.History.{Start}
use Rattle.tcap_model.specs.Words.Output.{Output, Closing, AbortCause}
use Rattle.tcap_model.specs.Histories.Pair.{Pair}
use Rattle.tcap_examples.specs.Histories.Worked.{Worked, Stated, worked, closed_at}
use Rattle.tcap_examples.specs.Values.HistoryWords.{dialogue_born, invoke_pair, request_pair, received_pair, moment_pair}
use Rattle.tcap_examples.specs.Values.HistoryWords.{begin_request, continue_request, continued, usual_start}
use Rattle.tcap_examples.specs.Values.HistoryWords.{opened_with_invoke}
use Rattle.tcap_examples.specs.Values.Told as told
use Rattle.tcap_examples.specs.Values.Peer.{sent}

-- ---- an engine with an idle limit

-- The engine of the other worked histories, with an idle limit of 500 milliseconds (own).
abbrev pub idle_start : Start
idle_start = record usual_start { idle_ms = 500 }

-- A pair of that engine (own).
abbrev pub limited : Pair → Pair
limited pair = record pair { idle_ms = 500 }

-- A worked history of that engine, written in order of time (own).
abbrev pub idle_worked : List Pair → List Stated → Worked
idle_worked pairs stated = worked idle_start (map limited pairs) stated

-- ---- what is told and sent

-- TC-P-ABORT of a dialogue that was idle too long (own).
abbrev pub idle_abort : ℕ → Output
idle_abort dialogue = told.p_abort dialogue AbortCause.idle

-- The invocation of dialogue 1 with this number is ended; its identifier is the same (own).
abbrev pub ended_in_1 : ℕ → Output
ended_in_1 number = told.closed 1 number (pos number) Closing.ended

-- A Begin of a dialogue without parameters, and the one message that it sends (own).
abbrev pub begin_sends : ℕ → List ℕ → Pair
begin_sends dialogue bytes = request_pair dialogue begin_request (Answer.outputs (sent bytes ∷ []))

-- A Continue without components from the peer to dialogue 1 (own).
abbrev pub empty_continue : List ℕ
empty_continue = hex 14 0x650C_480400000005_490400000001

-- A Continue without components that answers the shown Begin (own).
abbrev pub empty_answer : List ℕ
empty_answer = hex 14 0x650C_480400000001_490400000001

-- A Begin with two Invokes, identifiers 1 and 2 (own).
abbrev pub two_invokes_begun : List ℕ
two_invokes_begun = hex 26 0x6218_480400000001_6C10_A106_020101_02010A_A106_020102_02010A

-- What is told of the shown Begin (own).
abbrev pub begin_told : List Output
begin_told = told.begin 1 None [] ∷ told.invoked (Some 1) (pos 1) None (code 2) (Some (hex 5 0x3003_0401AA)) ∷ []

-- The shown Begin is received, and dialogue 1 is created of it (own).
abbrev pub begin_heard : Pair
begin_heard = received_pair shown_begin begin_told

-- ---- the limit

-- A dialogue is over when it has been idle for the limit after its Begin, not before: it tells so, and
-- its invocation is ended; a Continue finds none then (own).
abbrev pub idle_after_the_begin : Worked
idle_after_the_begin = idle_worked (opened_with_invoke (
    moment_pair 499 []
    ∷ moment_pair 500 (idle_abort 1 ∷ ended_in_1 1 ∷ [])
    ∷ received_pair result_of_first (sent (hex 11 0x6709_490400000005_4A0101) ∷ [])
    ∷ []))
    (closed_at 1 5 1 (pos 1) Closing.ended ∷ [])

-- An invocation whose deadline was reached lapses before its dialogue is over; the other one is ended
-- (own).
abbrev pub lapse_before_the_idle_end : Worked
lapse_before_the_idle_end = idle_worked (
    dialogue_born 1
    ∷ invoke_pair 1 (pos 1) One (pos 10) 300 (Answer.number 1)
    ∷ invoke_pair 1 (pos 2) One (pos 10) 1000 (Answer.number 2)
    ∷ begin_sends 1 two_invokes_begun
    ∷ moment_pair 500 (told.closed 1 1 (pos 1) Closing.lapsed ∷ idle_abort 1 ∷ ended_in_1 2 ∷ [])
    ∷ [])
    (closed_at 1 5 1 (pos 1) Closing.lapsed ∷ closed_at 2 5 1 (pos 2) Closing.ended ∷ [])

-- The limit runs anew from a Continue of the peer (own).
abbrev pub a_continue_renews_the_limit : Worked
a_continue_renews_the_limit = idle_worked (opened_with_invoke (
    moment_pair 400 []
    ∷ received_pair empty_continue (continued 1 ∷ [])
    ∷ moment_pair 899 []
    ∷ moment_pair 900 (idle_abort 1 ∷ ended_in_1 1 ∷ [])
    ∷ []))
    (closed_at 1 7 1 (pos 1) Closing.ended ∷ [])

-- Of two dialogues that are over at one moment, the one that was idle first is told first (own).
abbrev pub two_idle_dialogues_in_order : Worked
two_idle_dialogues_in_order = idle_worked (
    dialogue_born 1
    ∷ dialogue_born 2
    ∷ begin_sends 2 (hex 8 0x6206_480400000002)
    ∷ moment_pair 100 []
    ∷ begin_sends 1 (hex 8 0x6206_480400000001)
    ∷ moment_pair 600 (idle_abort 2 ∷ idle_abort 1 ∷ [])
    ∷ [])
    []

-- A dialogue that the peer began and that isn't answered yet has no limit (own).
abbrev pub no_idle_limit_in_received : Worked
no_idle_limit_in_received = idle_worked (begin_heard ∷ moment_pair 500 [] ∷ []) []

-- ---- what renews it, and what doesn't

-- An Invoke that waits doesn't renew the limit: its invocation is ended with the other one (own).
abbrev pub an_invoke_renews_nothing : Worked
an_invoke_renews_nothing = idle_worked (opened_with_invoke (
    moment_pair 400 []
    ∷ invoke_pair 1 (pos 2) One (pos 10) 1000 (Answer.number 2)
    ∷ moment_pair 500 (idle_abort 1 ∷ ended_in_1 1 ∷ ended_in_1 2 ∷ [])
    ∷ []))
    (closed_at 1 6 1 (pos 1) Closing.ended ∷ closed_at 2 6 1 (pos 2) Closing.ended ∷ [])

-- Nor does a Begin that is refused, since one was sent (own).
abbrev pub a_refused_request_renews_nothing : Worked
a_refused_request_renews_nothing = idle_worked (opened_with_invoke (
    moment_pair 400 []
    ∷ request_pair 1 begin_request (Answer.refused Fault.wrong_state)
    ∷ moment_pair 500 (idle_abort 1 ∷ ended_in_1 1 ∷ [])
    ∷ []))
    (closed_at 1 6 1 (pos 1) Closing.ended ∷ [])

-- The limit runs from the Begin, and not from the dialogue's birth (own).
abbrev pub no_idle_limit_before_the_begin : Worked
no_idle_limit_before_the_begin = idle_worked (
    dialogue_born 1
    ∷ moment_pair 700 []
    ∷ begin_sends 1 (hex 8 0x6206_480400000001)
    ∷ moment_pair 1199 []
    ∷ moment_pair 1200 (idle_abort 1 ∷ [])
    ∷ [])
    []

-- Where the peer began the dialogue, it runs from the first answer, and anew from each one after it
-- (own).
abbrev pub an_answer_renews_the_limit : Worked
an_answer_renews_the_limit = idle_worked (
    begin_heard
    ∷ moment_pair 700 []
    ∷ request_pair 1 continue_request (Answer.outputs (sent empty_answer ∷ []))
    ∷ moment_pair 1100 []
    ∷ request_pair 1 continue_request (Answer.outputs (sent empty_answer ∷ []))
    ∷ moment_pair 1599 []
    ∷ moment_pair 1600 (idle_abort 1 ∷ [])
    ∷ [])
    []

-- ---- several dialogues

-- What lapses is told before any dialogue that is over, though it is in another one (own).
abbrev pub lapse_in_another_dialogue : Worked
lapse_in_another_dialogue = idle_worked (
    dialogue_born 1
    ∷ begin_sends 1 (hex 8 0x6206_480400000001)
    ∷ moment_pair 100 []
    ∷ dialogue_born 2
    ∷ invoke_pair 2 (pos 1) One (pos 10) 400 (Answer.number 1)
    ∷ begin_sends 2 (hex 18 0x6210_480400000002_6C08_A106_020101_02010A)
    ∷ moment_pair 500 (told.closed 2 1 (pos 1) Closing.lapsed ∷ idle_abort 1 ∷ [])
    ∷ moment_pair 600 (idle_abort 2 ∷ [])
    ∷ [])
    (closed_at 1 7 2 (pos 1) Closing.lapsed ∷ [])

-- Where two reached the limit at one moment, the lesser identifier is told first, with its invocations
-- before the other dialogue (own).
abbrev pub idle_at_the_same_moment : Worked
idle_at_the_same_moment = idle_worked (
    dialogue_born 1
    ∷ dialogue_born 2
    ∷ begin_sends 2 (hex 8 0x6206_480400000002)
    ∷ invoke_pair 1 (pos 1) One (pos 10) 1000 (Answer.number 1)
    ∷ begin_sends 1 (hex 18 0x6210_480400000001_6C08_A106_020101_02010A)
    ∷ moment_pair 500 (idle_abort 1 ∷ ended_in_1 1 ∷ idle_abort 2 ∷ [])
    ∷ [])
    (closed_at 1 6 1 (pos 1) Closing.ended ∷ [])
