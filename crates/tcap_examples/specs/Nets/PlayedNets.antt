-- Two engines on which the statements about two ends are instantiated, and two pairs of engines that
-- break a premise of "after the Invoke".
use Rattle.std.specs.Prelude.{ℕ, ℤ, pos, List, [], ◌∷◌, reverse, drop, None, Some}
use Rattle.tcap_component.specs.Component.{CodeParts, BodyParts}
use Rattle.tcap_invocation.specs.declared.class.Class.TheVariants.{One, Four}
use Rattle.tcap_model.specs.Words.Answer.{Answer}
use Rattle.tcap_examples.specs.Values.DialogueValues.{code}
use Rattle.tcap_examples.specs.Values.Hex.{hex}
use Rattle.tcap_model.specs.Histories.History.{Start}
use Rattle.tcap_model.specs.Statements.Net.{Engine, Marked, Trace, side, Net}
use Rattle.tcap_model.specs.Words.Output.{Output, Closing}
use Rattle.tcap_model.specs.Histories.Pair.{Pair}
use Rattle.tcap_model.specs.Statements.Places.{Tells}
use Rattle.tcap_model.specs.Words.Request.{Request, Ending}
use Rattle.tcap_model.specs.Statements.TwoEnds.{WasSent}
use Rattle.tcap_model.specs.Statements.FarAnswer.{Happens, Hears, IsAnswer, IsFarRequest}
use Rattle.tcap_examples.specs.Nets.Play as play
use Rattle.tcap_examples.specs.Values.HistoryWords.{dialogue_born, invoke_pair, request_pair, received_pair, moment_pair, begin_request, continue_request, continued, empty_result}
use Rattle.tcap_examples.specs.Values.Asked as asks
use Rattle.tcap_examples.specs.Values.Told as told
use Rattle.tcap_examples.specs.Values.Peer.{sent}
use Rattle.tcap_examples.specs.Nets.Engines.{engine_a, engine_b, two_places, begin_to_a, sent_to_a, received_from_a}

-- The start of the engines of a play: at most 16 dialogues, a second to wait for a Reject, and no idle
-- limit (own).
abbrev pub play_start : Start
play_start = record { max_dialogues = 16; reject_ms = 1000; idle_ms = 0; next_dialogue = 1; next_number = 1 }

-- Two such engines, and what happens to both, in order of time (own).
abbrev pub played : List Marked → Net
played marked = record { start = λ engine. play_start; places = two_places; trace = reverse marked }

-- A pair of the first engine (own).
abbrev pub at_a : Pair → Marked
at_a pair = record { engine = engine_a; pair = pair }

-- A pair of the second engine (own).
abbrev pub at_b : Pair → Marked
at_b pair = record { engine = engine_b; pair = pair }

-- The first engine sends a message to the second (own).
abbrev pub send_answer : List ℕ → Answer
send_answer bytes = Answer.outputs (sent bytes ∷ [])

-- The second engine sends one to the first (own).
abbrev pub send_to_a : List ℕ → Answer
send_to_a bytes = Answer.outputs (sent_to_a bytes ∷ [])

-- The last result for identifier 1, without a body (own).
abbrev pub answer : Request
answer = asks.result_last (pos 1) None

-- The Continue that carries it (own).
abbrev pub result_continue : List ℕ
result_continue = hex 21 0x6513_480400000001_490400000001_6C05_A203_020101

-- A Continue of the first engine's second dialogue with an Invoke: identifier 1, operation 10 (own).
abbrev pub second_invoke : List ℕ
second_invoke = hex 24 0x6516_480400000002_490400000001_6C08_A106_020101_02010A

-- An Invoke with identifier 1 and operation 10 is told in a dialogue (own).
abbrev pub invoked : ℕ → Output
invoked dialogue = told.invoked (Some dialogue) (pos 1) None (CodeParts.local (pos 10)) None

-- An answer that is told of an invocation, and a far request that it may come from, which was made
-- before the invocation's Invoke was sent (own).
pub record IsAnsweredAhead (engine : Engine) (dialogue number : ℕ) (trace : Trace) : Type 0 where
  pub pair : Pair
  pub before : Trace
  pub id : ℤ
  pub output : Output
  pub request : Request
  pub asked : Pair
  pub earlier : Trace
  pub happens : Happens engine pair before trace
  pub tells : Tells pair.answer output
  pub is_answer : IsAnswer dialogue number id output request
  pub far : Engine
  pub hears : Hears two_places far pair.event
  pub was_asked : Happens far asked earlier before
  pub is_far_request : IsFarRequest two_places engine dialogue request far asked earlier
  pub not_sent : WasSent number (side engine earlier) → ⊥

-- ---- a repeated Begin

-- A Begin that is delivered twice, and an answer in each of the two dialogues (own).
abbrev pub repeated_begin : Net
repeated_begin = record { start = λ engine. play_start; places = two_places; trace = play.repeated_begin_played.trace }

-- What stands before the answer that closes the invocation (own).
abbrev pub before_the_answer : Trace
before_the_answer = drop 4 repeated_begin.trace

-- The body of the answer in the second dialogue (own).
abbrev pub second_body : BodyParts
second_body = play.result_body (hex 3 0x0401BB)

-- The request of the second engine's user that it comes from (own).
abbrev pub second_request : Request
second_request = asks.result_last (pos 1) (Some second_body)

-- The invocation is closed by it (own).
abbrev pub answer_closes : Output
answer_closes = told.closed 1 1 (pos 1) (Closing.result_last (Some second_body))

-- The first engine is told so (own).
abbrev pub answer_told : Pair
answer_told = received_pair play.second_answer (continued 1 ∷ answer_closes ∷ [])

-- What stands before the second delivery of the Begin (own).
abbrev pub before_the_repeat : Trace
before_the_repeat = drop 9 repeated_begin.trace

-- The second delivery of the Begin (own).
abbrev pub repeat_told : Pair
repeat_told = received_from_a play.first_begin (play.begin_told 2)

-- ---- an answer ahead

-- The user of the second engine answers identifier 1 before it was told any Invoke. Its answer arrives
-- when the first engine has sent an Invoke with that identifier (own).
abbrev pub answered_ahead : Net
answered_ahead = played (
    at_a (dialogue_born 1)
    ∷ at_a (request_pair 1 begin_request (send_answer (hex 8 0x6206_480400000001)))
    ∷ at_b (received_from_a (hex 8 0x6206_480400000001) (told.begin 1 None [] ∷ []))
    ∷ at_b (request_pair 1 continue_request (send_to_a (hex 14 0x650C_480400000001_490400000001)))
    ∷ at_a (received_pair (hex 14 0x650C_480400000001_490400000001) (continued 1 ∷ []))
    ∷ at_b (request_pair 1 answer Answer.done)
    ∷ at_b (request_pair 1 continue_request (send_to_a result_continue))
    ∷ at_a (invoke_pair 1 (pos 1) One (pos 10) 1000 (Answer.number 1))
    ∷ at_a (request_pair 1 continue_request (send_answer
    (hex 24 0x6516_480400000001_490400000001_6C08_A106_020101_02010A)))
    ∷ at_a (received_pair result_continue (continued 1 ∷ told.closed 1 1 (pos 1) empty_result ∷ []))
    ∷ [])

-- ---- an identifier used again

-- The first engine is told the result of its first Invoke; when the identifier is free again it sends a
-- second one with it, and the same Continue is delivered again (own).
abbrev pub used_again : Net
used_again = played (
    at_a (dialogue_born 1)
    ∷ at_a (invoke_pair 1 (pos 1) One (pos 10) 5000 (Answer.number 1))
    ∷ at_a (request_pair 1 begin_request (send_answer (hex 18 0x6210_480400000001_6C08_A106_020101_02010A)))
    ∷ at_b (received_from_a (hex 18 0x6210_480400000001_6C08_A106_020101_02010A) (told.begin 1 None [] ∷ invoked 1 ∷ []))
    ∷ at_b (request_pair 1 answer Answer.done)
    ∷ at_b (request_pair 1 continue_request (send_to_a result_continue))
    ∷ at_a (received_pair result_continue (continued 1 ∷ told.closed 1 1 (pos 1) empty_result ∷ []))
    ∷ at_a (moment_pair 1000 [])
    ∷ at_a (invoke_pair 1 (pos 1) One (pos 10) 5000 (Answer.number 2))
    ∷ at_a (request_pair 1 continue_request (send_answer
    (hex 24 0x6516_480400000001_490400000001_6C08_A106_020101_02010A)))
    ∷ at_a (received_pair result_continue (continued 1 ∷ told.closed 1 2 (pos 1) empty_result ∷ []))
    ∷ [])

-- ---- two dialogues heard as one

-- The second engine opens a dialogue, and its Begin is delivered twice. So one dialogue of the second
-- engine hears two of the first: it answers the Invoke of the one, and the answer goes to the other,
-- which has sent an Invoke with the same identifier in the meantime (own).
abbrev pub heard_as_one : Net
heard_as_one = played (
    at_b (dialogue_born 1)
    ∷ at_b (request_pair 1 begin_to_a (send_to_a (hex 8 0x6206_480400000001)))
    ∷ at_a (received_pair (hex 8 0x6206_480400000001) (told.begin 1 None [] ∷ []))
    ∷ at_a (received_pair (hex 8 0x6206_480400000001) (told.begin 2 None [] ∷ []))
    ∷ at_a (request_pair 1 continue_request (send_answer (hex 14 0x650C_480400000001_490400000001)))
    ∷ at_b (received_from_a (hex 14 0x650C_480400000001_490400000001) (continued 1 ∷ []))
    ∷ at_a (invoke_pair 2 (pos 1) One (pos 10) 1000 (Answer.number 1))
    ∷ at_a (request_pair 2 continue_request (send_answer second_invoke))
    ∷ at_b (received_from_a second_invoke (continued 1 ∷ invoked 1 ∷ []))
    ∷ at_b (request_pair 1 answer Answer.done)
    ∷ at_b (request_pair 1 continue_request (send_to_a result_continue))
    ∷ at_a (invoke_pair 1 (pos 1) One (pos 10) 1000 (Answer.number 2))
    ∷ at_a (request_pair 1 continue_request (send_answer
    (hex 24 0x6516_480400000001_490400000001_6C08_A106_020101_02010A)))
    ∷ at_a (received_pair result_continue (continued 1 ∷ told.closed 1 2 (pos 1) empty_result ∷ []))
    ∷ [])

-- ---- an Invoke that ends what carries it

-- A Unidirectional carries an Invoke of class 4 and operation 7, which ends with it (own).
abbrev pub alone_sent : List ℕ
alone_sent = hex 12 0x610A_6C08_A106_020101_020107

-- The Unidirectional is told, with its Invoke (own).
abbrev pub alone_told : Pair
alone_told = received_from_a alone_sent (told.uni None [] ∷ told.invoked None (pos 1) None (code 7) None ∷ [])

-- It goes from the first engine to the second (own).
abbrev pub in_a_unidirectional : Net
in_a_unidirectional = played (
    at_a (dialogue_born 1)
    ∷ at_a (invoke_pair 1 (pos 1) Four (pos 7) 1000 (Answer.number 1))
    ∷ at_a (request_pair 1 (asks.uni None []) (Answer.outputs
    (sent alone_sent ∷ told.closed 1 1 (pos 1) Closing.ended ∷ [])))
    ∷ at_b alone_told
    ∷ [])

-- An End carries an Invoke, which ends with it (own).
abbrev pub end_sent : List ℕ
end_sent = hex 18 0x6410_490400000001_6C08_A106_020101_02010A

-- The End is told, with its Invoke (own).
abbrev pub end_told : Pair
end_told = received_pair end_sent (told.end 1 None [] ∷ invoked 1 ∷ [])

-- The second engine ends a dialogue of the first with an End that has an Invoke (own).
abbrev pub in_an_end : Net
in_an_end = played (
    at_a (dialogue_born 1)
    ∷ at_a (request_pair 1 begin_request (send_answer (hex 8 0x6206_480400000001)))
    ∷ at_b (received_from_a (hex 8 0x6206_480400000001) (told.begin 1 None [] ∷ []))
    ∷ at_b (invoke_pair 1 (pos 1) One (pos 10) 1000 (Answer.number 1))
    ∷ at_b (request_pair 1 (asks.finish Ending.basic None [])
    (Answer.outputs (sent_to_a end_sent ∷ told.closed 1 1 (pos 1) Closing.ended ∷ [])))
    ∷ at_a end_told
    ∷ [])

-- ---- forged messages

-- The first engine hears a result that nobody sent, and the second an Invoke that nobody asked for: each
-- answers as it should, but what they hear isn't what the other sent (own).
abbrev pub forged : Net
forged = played (
    at_a (dialogue_born 1)
    ∷ at_a (request_pair 1 begin_request (send_answer (hex 8 0x6206_480400000001)))
    ∷ at_a (invoke_pair 1 (pos 1) One (pos 10) 1000 (Answer.number 1))
    ∷ at_a (received_pair (hex 14 0x650C_480400000001_490400000001) (continued 1 ∷ []))
    ∷ at_a (request_pair 1 continue_request (send_answer
    (hex 24 0x6516_480400000001_490400000001_6C08_A106_020101_02010A)))
    ∷ at_a (received_pair result_continue (continued 1 ∷ told.closed 1 1 (pos 1) empty_result ∷ []))
    ∷ at_b (received_from_a (hex 18 0x6210_480400000001_6C08_A106_020101_02010B)
    (told.begin 1 None [] ∷ told.invoked (Some 1) (pos 1) None (code 11) None ∷ []))
    ∷ [])
