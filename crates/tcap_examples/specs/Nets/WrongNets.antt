-- Two engines of which one does what none may do: what is told then was asked for by nobody.
use Rattle.std.specs.Prelude.{ℕ, pos, List, [], ◌∷◌}
use Rattle.tcap_invocation.specs.declared.class.Class.TheVariants.{One}
use Rattle.tcap_model.specs.Words.Answer.{Answer}
use Rattle.tcap_model.specs.Statements.Net.{Net}
use Rattle.tcap_model.specs.Histories.Pair.{Pair}
use Rattle.tcap_examples.specs.Nets.Play.{begin_told}
use Rattle.tcap_examples.specs.Nets.Engines.{received_from_a}
use Rattle.tcap_examples.specs.Nets.PlayedNets.{answer, at_a, at_b, played, send_answer, send_to_a}
use Rattle.tcap_examples.specs.Values.Hex.{hex}
use Rattle.tcap_examples.specs.Values.HistoryWords.{dialogue_born, invoke_pair, request_pair, received_pair, moment_pair, begin_request, continue_request, continued, empty_result}
use Rattle.tcap_examples.specs.Values.Told as told

-- ---- an empty result at a lapse

-- At the deadline an empty result is told in place of the lapse (own).
abbrev pub empty_told : Pair
empty_told = moment_pair 1000 (told.closed 1 1 (pos 1) empty_result ∷ [])

-- The first engine does so, and nothing comes from the second (own).
abbrev pub empty_at_a_lapse : Net
empty_at_a_lapse = played (
    at_a (dialogue_born 1)
    ∷ at_a (invoke_pair 1 (pos 1) One (pos 10) 1000 (Answer.number 1))
    ∷ at_a (request_pair 1 begin_request (send_answer (hex 18 0x6210_480400000001_6C08_A106_020101_02010A)))
    ∷ at_a empty_told
    ∷ [])

-- ---- crossed queues

-- The Begins of the first engine's two dialogues, each with an Invoke with identifier 1 (own).
abbrev pub one_begin : List ℕ
one_begin = hex 18 0x6210_480400000001_6C08_A106_020101_02010A

-- The second of them (own).
abbrev pub other_begin : List ℕ
other_begin = hex 18 0x6210_480400000002_6C08_A106_020101_02010A

-- The Continue of the second engine's second dialogue, with the result of its first (own).
abbrev pub crossed_continue : List ℕ
crossed_continue = hex 21 0x6513_480400000002_490400000002_6C05_A203_020101

-- The first engine is told that result in its second dialogue (own).
abbrev pub crossed_told : Pair
crossed_told = received_pair crossed_continue (continued 2 ∷ told.closed 2 2 (pos 1) empty_result ∷ [])

-- The user of the second engine answers the Invoke of its first dialogue; the engine sends this in the
-- message of its second (own).
abbrev pub crossed_queues : Net
crossed_queues = played (
    at_a (dialogue_born 1)
    ∷ at_a (invoke_pair 1 (pos 1) One (pos 10) 1000 (Answer.number 1))
    ∷ at_a (request_pair 1 begin_request (send_answer one_begin))
    ∷ at_a (dialogue_born 2)
    ∷ at_a (invoke_pair 2 (pos 1) One (pos 10) 1000 (Answer.number 2))
    ∷ at_a (request_pair 2 begin_request (send_answer other_begin))
    ∷ at_b (received_from_a one_begin (begin_told 1))
    ∷ at_b (received_from_a other_begin (begin_told 2))
    ∷ at_b (request_pair 1 answer Answer.done)
    ∷ at_b (request_pair 2 continue_request (send_to_a crossed_continue))
    ∷ at_a crossed_told
    ∷ [])
