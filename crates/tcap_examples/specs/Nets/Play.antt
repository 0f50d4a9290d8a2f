-- Worked histories: two engines, and a Begin that is delivered twice.
use Rattle.std.specs.Prelude.{ℕ, pos, List, [], ◌∷◌, ◌++◌, map, take, drop, reverse, Some, None}
use Rattle.tcap_component.specs.Component.{BodyParts}
use Rattle.tcap_model.specs.Words.Answer.{Answer}
use Rattle.tcap_examples.specs.Values.DialogueValues.{of_result, code}
use Rattle.tcap_examples.specs.Values.Hex.{hex}
use Rattle.tcap_model.specs.Statements.Net.{Engine, Marked, Net}
use Rattle.tcap_model.specs.Words.Output.{Output, Closing}
use Rattle.tcap_model.specs.Histories.Pair.{Pair}
use Rattle.tcap_examples.specs.Histories.Worked.{Worked, worked, closed_at}
use Rattle.tcap_examples.specs.Values.HistoryWords.{request_pair, received_pair, moment_pair, continue_request, continued, usual_start, opened_with_invoke}
use Rattle.tcap_examples.specs.Values.Asked as asks
use Rattle.tcap_examples.specs.Values.Told as told
use Rattle.tcap_examples.specs.Nets.Engines.{engine_a, engine_b, two_places, sent_to_a, received_from_a}

-- The body of a result with operation 10 and an OCTET STRING as its parameter (own).
abbrev pub result_body : List ℕ → BodyParts
result_body parameter = record { code = code 10; parameter = Some parameter }

-- The Begin of the first engine (own).
abbrev pub first_begin : List ℕ
first_begin = hex 18 0x6210_480400000001_6C08_A106_020101_02010A

-- What the second engine answers in its first dialogue (own).
abbrev pub first_answer : List ℕ
first_answer = hex 29 0x651B_480400000001_490400000001_6C0D_A20B_020101_3006_02010A_0401AA

-- What it answers in its second dialogue (own).
abbrev pub second_answer : List ℕ
second_answer = hex 29 0x651B_480400000002_490400000001_6C0D_A20B_020101_3006_02010A_0401BB

-- What happens at the first engine, in order of time: it opens a dialogue, and hears the second answer
-- before the first (own).
abbrev pub at_the_first : List Pair
at_the_first = opened_with_invoke (
    received_pair second_answer (continued 1 ∷ told.closed 1 1 (pos 1)
    (Closing.result_last (Some (result_body (hex 3 0x0401BB)))) ∷ [])
    ∷ received_pair first_answer (continued 1 ∷ told.local_reject (Some 1) (Some (pos 1)) (of_result 0) ∷ [])
    ∷ moment_pair 1000 []
    ∷ [])

-- What the second engine tells of the Begin (own).
abbrev pub begin_told : ℕ → List Output
begin_told dialogue =
    told.begin dialogue None []
    ∷ told.invoked (Some dialogue) (pos 1) None (code 10) None
    ∷ []

-- What happens at the second engine, in order of time: it hears the Begin twice, and answers in both
-- dialogues (own).
abbrev pub at_the_second : List Pair
at_the_second =
    received_from_a first_begin (begin_told 1)
    ∷ received_from_a first_begin (begin_told 2)
    ∷ request_pair 1 (asks.result_last (pos 1) (Some (result_body (hex 3 0x0401AA)))) Answer.done
    ∷ request_pair 1 continue_request (Answer.outputs (sent_to_a first_answer ∷ []))
    ∷ request_pair 2 (asks.result_last (pos 1) (Some (result_body (hex 3 0x0401BB)))) Answer.done
    ∷ request_pair 2 continue_request (Answer.outputs (sent_to_a second_answer ∷ []))
    ∷ moment_pair 1000 []
    ∷ []

-- The first engine: the answer that comes first is told, the other one is late, and no lapse follows
-- (own).
abbrev pub repeated_begin_at_the_first : Worked
repeated_begin_at_the_first = worked usual_start at_the_first
    (closed_at 1 4 1 (pos 1) (Closing.result_last (Some (result_body (hex 3 0x0401BB)))) ∷ [])

-- The second engine: a repeated Begin makes a second dialogue, and each has its own answer (own).
abbrev pub repeated_begin_at_the_second : Worked
repeated_begin_at_the_second = worked usual_start at_the_second []

-- Pairs of one of the engines (own).
abbrev pub on_engine : Engine → List Pair → List Marked
on_engine engine pairs = map (λ pair. record { engine = engine; pair = pair }) pairs

-- Both in order of time: the first sends its Begin, the second hears it twice and answers twice, the
-- first hears the answers, and then time passes (own).
abbrev pub repeated_begin_played : Net
repeated_begin_played = record {
  start = λ which. usual_start;
  places = two_places;
  trace = reverse (
      on_engine engine_a (take 3 at_the_first)
      ++ on_engine engine_b (take 6 at_the_second)
      ++ on_engine engine_a (drop 3 at_the_first)
      ++ on_engine engine_b (drop 6 at_the_second));
}
