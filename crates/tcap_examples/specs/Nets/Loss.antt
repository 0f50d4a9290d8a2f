-- A worked history of two engines: a result is delivered twice, and the End is lost.
use Rattle.std.specs.Prelude.{ℕ, pos, List, [], ◌∷◌, ◌++◌, take, drop, reverse, None, Some}
use Rattle.tcap_model.specs.Words.Answer.{Answer}
use Rattle.tcap_examples.specs.Values.Hex.{hex}
use Rattle.tcap_model.specs.Statements.Net.{Net}
use Rattle.tcap_model.specs.Words.Output.{Output, Closing}
use Rattle.tcap_model.specs.Histories.Pair.{Pair}
use Rattle.tcap_model.specs.Words.Request.{Ending}
use Rattle.tcap_examples.specs.Histories.Worked.{Worked, worked, closed_at}
use Rattle.tcap_examples.specs.Nets.Play.{result_body, begin_told, on_engine, first_begin}
use Rattle.tcap_examples.specs.Values.HistoryWords.{request_pair, received_pair, moment_pair, continue_request, continued, usual_start, opened_for}
use Rattle.tcap_examples.specs.Values.Asked as asks
use Rattle.tcap_examples.specs.Values.Told as told
use Rattle.tcap_examples.specs.Nets.Engines.{engine_a, engine_b, two_places, sent_to_a, received_from_a}

-- The Continue of the second engine, with a result that isn't the last (own).
abbrev pub part_of_the_result : List ℕ
part_of_the_result = hex 29 0x651B_480400000001_490400000001_6C0D_A70B_020101_3006_02010A_0401AA

-- What the first engine tells of it (own).
abbrev pub part_told : List Output
part_told = continued 1 ∷ told.result_more 1 1 (pos 1) (Some (result_body (hex 3 0x0401AA))) ∷ []

-- What happens at the first engine: its invocation lapses (own).
abbrev pub first_of_the_loss : List Pair
first_of_the_loss = opened_for 5000 (
    received_pair part_of_the_result part_told
    ∷ received_pair part_of_the_result part_told
    ∷ moment_pair 5000 (told.closed 1 1 (pos 1) Closing.lapsed ∷ [])
    ∷ request_pair 1 (asks.finish Ending.prearranged None []) (Answer.outputs [])
    ∷ [])

-- What happens at the second engine: it answers in a Continue and in an End (own).
abbrev pub second_of_the_loss : List Pair
second_of_the_loss =
    received_from_a first_begin (begin_told 1)
    ∷ request_pair 1 (asks.result_more (pos 1) (Some (result_body (hex 3 0x0401AA)))) Answer.done
    ∷ request_pair 1 continue_request (Answer.outputs (sent_to_a part_of_the_result ∷ []))
    ∷ request_pair 1 (asks.result_last (pos 1) (Some (result_body (hex 3 0x0401BB)))) Answer.done
    ∷ request_pair 1 (asks.finish Ending.basic None [])
    (Answer.outputs (sent_to_a (hex 23 0x6415_490400000001_6C0D_A20B_020101_3006_02010A_0401BB) ∷ []))
    ∷ moment_pair 5000 []
    ∷ []

-- The first engine (own).
abbrev pub lost_end_at_the_first : Worked
lost_end_at_the_first = worked usual_start first_of_the_loss (closed_at 1 6 1 (pos 1) Closing.lapsed ∷ [])

-- The second engine (own).
abbrev pub lost_end_at_the_second : Worked
lost_end_at_the_second = worked usual_start second_of_the_loss []

-- Both in order of time (own).
abbrev pub lost_end : Net
lost_end = record {
  start = λ which. usual_start;
  places = two_places;
  trace = reverse (
      on_engine engine_a (take 3 first_of_the_loss)
      ++ on_engine engine_b (take 3 second_of_the_loss)
      ++ on_engine engine_a (take 2 (drop 3 first_of_the_loss))
      ++ on_engine engine_b (take 2 (drop 3 second_of_the_loss))
      ++ on_engine engine_a (take 1 (drop 5 first_of_the_loss))
      ++ on_engine engine_b (drop 5 second_of_the_loss)
      ++ on_engine engine_a (drop 6 first_of_the_loss));
}
