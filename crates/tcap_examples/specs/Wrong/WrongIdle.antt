-- Histories in which an engine judges wrongly which dialogues were idle too long, or tells it wrongly.
use Rattle.std.specs.Prelude.{pos, List, [], ◌∷◌, map}
use Rattle.tcap_invocation.specs.declared.class.Class.TheVariants.{One}
use Rattle.tcap_model.specs.Words.Answer.{Answer}
use Rattle.tcap_examples.specs.Values.Hex.{hex}
use Rattle.tcap_model.specs.Words.Output.{Closing}
use Rattle.tcap_model.specs.Histories.Pair.{Pair}
use Rattle.tcap_examples.specs.Histories.IdleLimit.{idle_start, limited, idle_abort, ended_in_1, begin_sends}
use Rattle.tcap_examples.specs.Histories.IdleLimit.{begin_heard, empty_continue, two_invokes_begun}
use Rattle.tcap_examples.specs.Values.HistoryWords.{dialogue_born, invoke_pair, received_pair, moment_pair}
use Rattle.tcap_examples.specs.Values.HistoryWords.{continued, opened_with_invoke}
use Rattle.tcap_examples.specs.Wrong.WrongHistories.{Wrong, wrong}
use Rattle.tcap_examples.specs.Values.Told as told
use Rattle.tcap_examples.specs.Values.Peer.{sent}

-- A history of an engine with an idle limit of 500 milliseconds, whose last answer is meant to be wrong
-- (own).
abbrev pub idle_wrong : List Pair → Pair → Wrong
idle_wrong pairs last = wrong idle_start (map limited pairs) (limited last)

-- Dialogue 1 is opened with two Invokes: the first lapses at 300, the second at 1000 (own).
abbrev pub opened_with_two : List Pair
opened_with_two =
    dialogue_born 1
    ∷ invoke_pair 1 (pos 1) One (pos 10) 300 (Answer.number 1)
    ∷ invoke_pair 1 (pos 2) One (pos 10) 1000 (Answer.number 2)
    ∷ begin_sends 1 two_invokes_begun
    ∷ []

-- An invocation past its deadline is told as ended, and not as lapsed (own).
abbrev pub ended_past_the_deadline : Wrong
ended_past_the_deadline = idle_wrong opened_with_two
    (moment_pair 500 (idle_abort 1 ∷ ended_in_1 1 ∷ ended_in_1 2 ∷ []))

-- The dialogues that are over are told before what lapses (own).
abbrev pub idle_ends_before_lapses : Wrong
idle_ends_before_lapses = idle_wrong opened_with_two
    (moment_pair 500 (idle_abort 1 ∷ ended_in_1 2 ∷ told.closed 1 1 (pos 1) Closing.lapsed ∷ []))

-- A dialogue in Initiation Received is over by the limit (own).
abbrev pub judged_in_received : Wrong
judged_in_received = idle_wrong (begin_heard ∷ []) (moment_pair 500 (idle_abort 1 ∷ []))

-- A dialogue that is Idle is over by the limit (own).
abbrev pub judged_before_the_begin : Wrong
judged_before_the_begin = idle_wrong (dialogue_born 1 ∷ []) (moment_pair 500 (idle_abort 1 ∷ []))

-- An Invoke that waits renews the limit, so that nothing is told at its end (own).
abbrev pub renewed_by_an_invoke : Wrong
renewed_by_an_invoke = idle_wrong (opened_with_invoke (
    moment_pair 400 []
    ∷ invoke_pair 1 (pos 2) One (pos 10) 1000 (Answer.number 2)
    ∷ []))
    (moment_pair 500 [])

-- A Continue doesn't renew it (own).
abbrev pub not_renewed_by_a_continue : Wrong
not_renewed_by_a_continue = idle_wrong (opened_with_invoke (
    moment_pair 400 []
    ∷ received_pair empty_continue (continued 1 ∷ [])
    ∷ []))
    (moment_pair 500 (idle_abort 1 ∷ ended_in_1 1 ∷ []))

-- An Abort is sent to the peer of the dialogue that is over (own).
abbrev pub a_message_is_sent : Wrong
a_message_is_sent = idle_wrong (opened_with_invoke (
    moment_pair 400 []
    ∷ received_pair empty_continue (continued 1 ∷ [])
    ∷ []))
    (moment_pair 900 (sent (hex 8 0x6706_490400000005) ∷ idle_abort 1 ∷ ended_in_1 1 ∷ []))

-- Of two dialogues that are over at one moment the lesser identifier is told first, though it reached the
-- limit later (own).
abbrev pub order_by_dialogue_alone : Wrong
order_by_dialogue_alone = idle_wrong (
    dialogue_born 1
    ∷ dialogue_born 2
    ∷ begin_sends 2 (hex 8 0x6206_480400000002)
    ∷ moment_pair 100 []
    ∷ begin_sends 1 (hex 8 0x6206_480400000001)
    ∷ [])
    (moment_pair 600 (idle_abort 1 ∷ idle_abort 2 ∷ []))

-- The dialogue is over one millisecond past the limit only (own).
abbrev pub over_past_the_limit : Wrong
over_past_the_limit = idle_wrong (opened_with_invoke []) (moment_pair 500 [])
