use Rattle.std.proofs.Common.{◌+◌, ℕ, List, [], ◌∷◌, ◌++◌, length, vec_capacity, ap, ◌∙◌, arith, refl}
use Rattle.ber_core.specs.Sequence.Field.{filled}
use Rattle.ber_core.specs.Written.{written_field, written_fields}
use Rattle.tcap_pdu.specs.DialogueDue.{external_front}
use Rattle.tcap_pdu.specs.DialogueSpelling.{structured_syntax}
use Rattle.tcap_pdu.specs.DialogueViews.{source}
use Rattle.tcap_pdu.specs.DialogueWritten.{opening_fields, result_field, diagnostic_field}
use Rattle.tcap_pdu.proofs.AppendedGrammar.{response-appended, response-length, room-behind}
use Rattle.tcap_pdu.proofs.dialogue_pdu.put.put_response.Goals as goal

pub put_front-requires-clause-room : goal.put_front-requires-clause-room
put_front-requires-clause-room g c =
    let n = c.opening_len.result + c.answer_len.result + c.information_len.result in
    let opening = written_fields (opening_fields c.args.version1 c.args.context.now []) in
    let left = length (written_fields (filled 0xbe c.args.info.now ∷ [])) in
    let all = response-length structured_syntax 0x61 n c.args.version1 c.args.context.now c.args.accepted (source c.args.diagnostic) c.args.info.now refl (omega (arith, c.opening_len.ensures, c.answer_len.ensures, c.information_len.ensures)) in
    omega (arith, all, c.requires.room)

pub put_opening-requires-clause-room : goal.put_opening-requires-clause-room
put_opening-requires-clause-room g c =
    let n = c.opening_len.result + c.answer_len.result + c.information_len.result in
    let opening = written_fields (opening_fields c.args.version1 c.args.context.now []) in
    let left = length (written_fields (filled 0xbe c.args.info.now ∷ [])) in
    let all = response-length structured_syntax 0x61 n c.args.version1 c.args.context.now c.args.accepted (source c.args.diagnostic) c.args.info.now refl (omega (arith, c.opening_len.ensures, c.answer_len.ensures, c.information_len.ensures)) in
    let first = room-behind c.args.out.now.items (external_front structured_syntax 0x61 n) c.put_front.new.out.items (length opening + (12 + left)) (vec_capacity c.args.out.now) (vec_capacity c.put_front.new.out) c.put_front.ensures.items (omega (arith, all, c.requires.room)) c.put_front.ensures.capacity in
    omega (arith, first)

pub put_result-requires : goal.put_result-requires
put_result-requires g c =
    let n = c.opening_len.result + c.answer_len.result + c.information_len.result in
    let opening = written_fields (opening_fields c.args.version1 c.args.context.now []) in
    let left = length (written_fields (filled 0xbe c.args.info.now ∷ [])) in
    let all = response-length structured_syntax 0x61 n c.args.version1 c.args.context.now c.args.accepted (source c.args.diagnostic) c.args.info.now refl (omega (arith, c.opening_len.ensures, c.answer_len.ensures, c.information_len.ensures)) in
    let first = room-behind c.args.out.now.items (external_front structured_syntax 0x61 n) c.put_front.new.out.items (length opening + (12 + left)) (vec_capacity c.args.out.now) (vec_capacity c.put_front.new.out) c.put_front.ensures.items (omega (arith, all, c.requires.room)) c.put_front.ensures.capacity in
    let second = room-behind c.put_front.new.out.items (opening) c.put_opening.new.out.items (12 + left) (vec_capacity c.put_front.new.out) (vec_capacity c.put_opening.new.out) c.put_opening.ensures.items (omega (arith, first)) c.put_opening.ensures.capacity in
    omega (arith, second)

pub put_diagnostic-requires : goal.put_diagnostic-requires
put_diagnostic-requires g c =
    let n = c.opening_len.result + c.answer_len.result + c.information_len.result in
    let opening = written_fields (opening_fields c.args.version1 c.args.context.now []) in
    let left = length (written_fields (filled 0xbe c.args.info.now ∷ [])) in
    let all = response-length structured_syntax 0x61 n c.args.version1 c.args.context.now c.args.accepted (source c.args.diagnostic) c.args.info.now refl (omega (arith, c.opening_len.ensures, c.answer_len.ensures, c.information_len.ensures)) in
    let first = room-behind c.args.out.now.items (external_front structured_syntax 0x61 n) c.put_front.new.out.items (length opening + (12 + left)) (vec_capacity c.args.out.now) (vec_capacity c.put_front.new.out) c.put_front.ensures.items (omega (arith, all, c.requires.room)) c.put_front.ensures.capacity in
    let second = room-behind c.put_front.new.out.items (opening) c.put_opening.new.out.items (12 + left) (vec_capacity c.put_front.new.out) (vec_capacity c.put_opening.new.out) c.put_opening.ensures.items (omega (arith, first)) c.put_opening.ensures.capacity in
    let third = room-behind c.put_opening.new.out.items (written_field (result_field c.args.accepted)) c.put_result.new.out.items (7 + left) (vec_capacity c.put_opening.new.out) (vec_capacity c.put_result.new.out) c.put_result.ensures.items (omega (arith, second)) c.put_result.ensures.capacity in
    omega (arith, third)

pub put_information-requires-clause-room : goal.put_information-requires-clause-room
put_information-requires-clause-room g c =
    let n = c.opening_len.result + c.answer_len.result + c.information_len.result in
    let opening = written_fields (opening_fields c.args.version1 c.args.context.now []) in
    let left = length (written_fields (filled 0xbe c.args.info.now ∷ [])) in
    let all = response-length structured_syntax 0x61 n c.args.version1 c.args.context.now c.args.accepted (source c.args.diagnostic) c.args.info.now refl (omega (arith, c.opening_len.ensures, c.answer_len.ensures, c.information_len.ensures)) in
    let first = room-behind c.args.out.now.items (external_front structured_syntax 0x61 n) c.put_front.new.out.items (length opening + (12 + left)) (vec_capacity c.args.out.now) (vec_capacity c.put_front.new.out) c.put_front.ensures.items (omega (arith, all, c.requires.room)) c.put_front.ensures.capacity in
    let second = room-behind c.put_front.new.out.items (opening) c.put_opening.new.out.items (12 + left) (vec_capacity c.put_front.new.out) (vec_capacity c.put_opening.new.out) c.put_opening.ensures.items (omega (arith, first)) c.put_opening.ensures.capacity in
    let third = room-behind c.put_opening.new.out.items (written_field (result_field c.args.accepted)) c.put_result.new.out.items (7 + left) (vec_capacity c.put_opening.new.out) (vec_capacity c.put_result.new.out) c.put_result.ensures.items (omega (arith, second)) c.put_result.ensures.capacity in
    let fourth = room-behind c.put_result.new.out.items (written_field (diagnostic_field (source c.args.diagnostic))) c.put_diagnostic.new.out.items (left) (vec_capacity c.put_result.new.out) (vec_capacity c.put_diagnostic.new.out) c.put_diagnostic.ensures.items (omega (arith, third)) c.put_diagnostic.ensures.capacity in
    omega (arith, fourth)

pub returns-clause-items : goal.returns-clause-items
returns-clause-items g c =
    let opening = written_fields (opening_fields c.args.version1 c.args.context.now []) in
    let result = written_field (result_field c.args.accepted) in
    let diagnostic = written_field (diagnostic_field (source c.args.diagnostic)) in
    let info = written_fields (filled 0xbe c.args.info.now ∷ []) in
    c.put_information.ensures.items
    ∙ (ap (λ (w : List ℕ). w ++ info) (c.put_diagnostic.ensures.items ∙ ap (λ (w : List ℕ). w ++ diagnostic) (c.put_result.ensures.items ∙ ap (λ (w : List ℕ). w ++ result) (c.put_opening.ensures.items ∙ ap (λ (w : List ℕ). w ++ opening) c.put_front.ensures.items)))
    ∙ response-appended c.args.out.now.items structured_syntax 0x61 _ c.args.version1 c.args.context.now c.args.accepted (source c.args.diagnostic) c.args.info.now refl (omega (arith, c.opening_len.ensures, c.answer_len.ensures, c.information_len.ensures)))
