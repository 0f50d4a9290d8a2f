-- Worked histories: what requests send.
use Rattle.std.specs.Prelude.{pos, List, [], ◌∷◌, Some, None}
use Rattle.tcap_invocation.specs.declared.class.Class.TheVariants.{Four}
use Rattle.tcap_model.specs.Words.Answer.{Answer}
use Rattle.tcap_examples.specs.Values.DialogueValues.{shown_begin, code}
use Rattle.tcap_examples.specs.Values.Hex.{hex}
use Rattle.tcap_model.specs.Words.Output.{Closing}
use Rattle.tcap_model.specs.Histories.Pair.{Pair}
use Rattle.tcap_model.specs.Words.Request.{Ending}
use Rattle.tcap_examples.specs.Histories.Worked.{Worked, worked, closed_at}
use Rattle.tcap_examples.specs.Values.HistoryWords.{dialogue_born, invoke_pair, request_pair, received_pair, continue_request, usual_start}
use Rattle.tcap_examples.specs.Values.Asked as asks
use Rattle.tcap_examples.specs.Values.Told as told
use Rattle.tcap_examples.specs.Values.Peer.{sent}

-- An Invoke of class 4 goes out in a Unidirectional, which ends its dialogue (own).
abbrev pub unidirectional_sent : Worked
unidirectional_sent = worked usual_start (
    dialogue_born 1
    ∷ invoke_pair 1 (pos 1) Four (pos 7) 1000 (Answer.number 1)
    ∷ request_pair 1 (asks.uni None []) (Answer.outputs
    (sent (hex 12 0x610A_6C08_A106_020101_020107) ∷ told.closed 1 1 (pos 1) Closing.ended ∷ []))
    ∷ [])
    (closed_at 1 3 1 (pos 1) Closing.ended ∷ [])

-- Another engine receives it (own).
abbrev pub unidirectional_received : Worked
unidirectional_received = worked usual_start (
    received_pair (hex 12 0x610A_6C08_A106_020101_020107)
    (told.uni None [] ∷ told.invoked None (pos 1) None (code 7) None ∷ [])
    ∷ [])
    []

-- A Begin with an Invoke is received (own).
abbrev pub opened_by_a_begin : List Pair → List Pair
opened_by_a_begin pairs =
    received_pair shown_begin (
    told.begin 1 None []
    ∷ told.invoked (Some 1) (pos 1) None (code 2) (Some (hex 5 0x3003_0401AA))
    ∷ [])
    ∷ pairs

-- A result that isn't the last and an error go out in a Continue (own).
abbrev pub answers_in_a_continue : Worked
answers_in_a_continue = worked usual_start (opened_by_a_begin (
    request_pair 1 (asks.result_more (pos 1) None) Answer.done
    ∷ request_pair 1 (asks.error_back (pos 1) (code 13) None) Answer.done
    ∷ request_pair 1 continue_request (Answer.outputs
    (sent (hex 29 0x651B_480400000001_490400000001_6C0D_A703_020101_A306_020101_02010D) ∷ []))
    ∷ []))
    []

-- A last result goes out in an End (own).
abbrev pub answer_in_an_end : Worked
answer_in_an_end = worked usual_start (opened_by_a_begin (
    request_pair 1 (asks.result_last (pos 1) None) Answer.done
    ∷ request_pair 1 (asks.finish Ending.basic None [])
    (Answer.outputs (sent (hex 15 0x640D_490400000001_6C05_A203_020101) ∷ []))
    ∷ []))
    []
