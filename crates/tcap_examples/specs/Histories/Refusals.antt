-- Worked histories: limits and refusals.
use Rattle.std.specs.Prelude.{ℕ, pos, List, [], ◌∷◌, ◌++◌, replicate, Some, None}
use Rattle.tcap_component.specs.Component.{CodeParts}
use Rattle.tcap_invocation.specs.declared.class.Class.TheVariants.{One}
use Rattle.tcap_model.specs.Words.Answer.{Answer}
use Rattle.tcap_examples.specs.Values.DialogueValues.{shown_begin, code}
use Rattle.tcap_model.specs.Words.Fault.{Fault}
use Rattle.tcap_examples.specs.Values.Hex.{hex}
use Rattle.tcap_model.specs.Words.Request.{Request}
use Rattle.tcap_examples.specs.Histories.Worked.{Worked, worked, not_closed}
use Rattle.tcap_examples.specs.Values.HistoryWords.{dialogue_born, birth_refused, invoke_pair, request_pair, received_pair, moment_pair, moment_refused, usual_start}
use Rattle.tcap_examples.specs.Values.Asked as asks
use Rattle.tcap_examples.specs.Values.Peer.{sent}

-- As many dialogues stand as may: neither the user nor a peer gets one (own).
abbrev pub dialogues_full : Worked
dialogues_full = worked (record usual_start { max_dialogues = 1 }) (
    dialogue_born 1
    ∷ birth_refused Fault.dialogues_full
    ∷ received_pair shown_begin (sent (hex 11 0x6709_490400000001_4A0104) ∷ [])
    ∷ [])
    []

-- The greatest dialogue identifier is never drawn (own).
abbrev pub dialogue_identifiers_spent : Worked
dialogue_identifiers_spent = worked (record usual_start { next_dialogue = 4294967294 }) (
    dialogue_born 4294967294
    ∷ birth_refused Fault.dialogue_ids_spent
    ∷ [])
    []

-- Nor is the greatest invocation number (own).
abbrev pub numbers_spent : Worked
numbers_spent = worked (record usual_start { next_number = 18446744073709551615 }) (
    dialogue_born 1
    ∷ invoke_pair 1 (pos 1) One (pos 10) 1000 (Answer.refused Fault.numbers_spent)
    ∷ [])
    []

-- A moment above the limit is refused (own).
abbrev pub moments : Worked
moments = worked usual_start (
    moment_refused 4611686018427387905 Fault.moment_too_late
    ∷ moment_pair 4611686018427387904 []
    ∷ [])
    []

-- An Invoke of class 1 with this code and parameter (own).
abbrev pub invoke_with : CodeParts → List ℕ → Request
invoke_with code parameter = asks.invoke (pos 1) One code (Some parameter) None 1000

-- An OCTET STRING of 60,000 octets (own).
abbrev pub longest_parameter : List ℕ
longest_parameter = hex 4 0x0482EA60 ++ replicate 60000 0

-- What a dialogue that is Idle refuses (own).
abbrev pub refusals : Worked
refusals = worked usual_start (
    dialogue_born 1
    ∷ invoke_pair 1 (pos 1) One (pos 10) 0 (Answer.refused Fault.bad_timeout)
    ∷ invoke_pair 9 (pos 1) One (pos 10) 0 (Answer.refused Fault.unknown_dialogue)
    ∷ request_pair 1 (asks.invoke (pos 1) One (CodeParts.global (0x80 ∷ [])) None None 1000)
    (Answer.refused Fault.bad_oid)
    ∷ request_pair 1 (invoke_with (code 10) (hex 3 0x0405AA)) (Answer.refused Fault.bad_parameter)
    ∷ request_pair 1 (invoke_with (code 10) longest_parameter) (Answer.refused Fault.too_long)
    ∷ request_pair 1 (asks.begin None (hex 2 0x2800)) (Answer.refused Fault.no_context)
    ∷ request_pair 1 (asks.begin None (hex 2 0x0400)) (Answer.refused Fault.bad_parameter)
    ∷ request_pair 1 (asks.go_on None []) (Answer.refused Fault.wrong_state)
    ∷ request_pair 1 (asks.result_last (pos 1) None) (Answer.refused Fault.wrong_state)
    ∷ request_pair 1 (asks.u_cancel (pos 1)) (Answer.refused Fault.no_such_invocation)
    ∷ request_pair 1 (asks.uni None []) (Answer.refused Fault.not_class_four)
    ∷ invoke_pair 1 (pos 1) One (pos 10) 1000 (Answer.number 1)
    ∷ request_pair 1 (asks.uni None []) (Answer.refused Fault.not_class_four)
    ∷ [])
    (not_closed 1 ∷ [])
