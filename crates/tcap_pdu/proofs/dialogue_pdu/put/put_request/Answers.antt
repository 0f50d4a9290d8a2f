use Rattle.std.proofs.Common.{◌+◌, ℕ, List, [], ◌∷◌, ◌++◌, length, vec_capacity, ap, ◌∙◌, arith}
use Rattle.ber_core.specs.Sequence.Field.{filled}
use Rattle.ber_core.specs.Written.{written_fields}
use Rattle.tcap_pdu.specs.DialogueWritten.{opening_fields}
use Rattle.tcap_pdu.specs.DialogueDue.{external_front}
use Rattle.tcap_pdu.proofs.AppendedGrammar.{request-appended, request-length, room-behind}
use Rattle.tcap_pdu.proofs.dialogue_pdu.put.put_request.Goals as goal

pub put_front-requires-clause-room : goal.put_front-requires-clause-room
put_front-requires-clause-room g c =
    let n = c.opening_len.result + c.information_len.result in
    let all = request-length c.args.syntax.now c.args.tag n c.args.version1 c.args.context.now c.args.info.now c.requires.syntax (omega (arith, c.opening_len.ensures, c.information_len.ensures)) in
    omega (arith, all, c.requires.room)

pub put_opening-requires-clause-room : goal.put_opening-requires-clause-room
put_opening-requires-clause-room g c =
    let n = c.opening_len.result + c.information_len.result in
    let left = length (written_fields (opening_fields c.args.version1 c.args.context.now [])) + length (written_fields (filled 0xbe c.args.info.now ∷ [])) in
    let all = request-length c.args.syntax.now c.args.tag n c.args.version1 c.args.context.now c.args.info.now c.requires.syntax (omega (arith, c.opening_len.ensures, c.information_len.ensures)) in
    let first = room-behind c.args.out.now.items (external_front c.args.syntax.now c.args.tag n) c.put_front.new.out.items left (vec_capacity c.args.out.now) (vec_capacity c.put_front.new.out) c.put_front.ensures.items (omega (arith, all, c.requires.room)) c.put_front.ensures.capacity in
    omega (arith, first)

pub put_information-requires-clause-room : goal.put_information-requires-clause-room
put_information-requires-clause-room g c =
    let n = c.opening_len.result + c.information_len.result in
    let opening = written_fields (opening_fields c.args.version1 c.args.context.now []) in
    let left = length (written_fields (filled 0xbe c.args.info.now ∷ [])) in
    let all = request-length c.args.syntax.now c.args.tag n c.args.version1 c.args.context.now c.args.info.now c.requires.syntax (omega (arith, c.opening_len.ensures, c.information_len.ensures)) in
    let first = room-behind c.args.out.now.items (external_front c.args.syntax.now c.args.tag n) c.put_front.new.out.items (length opening + left) (vec_capacity c.args.out.now) (vec_capacity c.put_front.new.out) c.put_front.ensures.items (omega (arith, all, c.requires.room)) c.put_front.ensures.capacity in
    let second = room-behind c.put_front.new.out.items opening c.put_opening.new.out.items left (vec_capacity c.put_front.new.out) (vec_capacity c.put_opening.new.out) c.put_opening.ensures.items (omega (arith, first)) c.put_opening.ensures.capacity in
    omega (arith, second)

pub returns-clause-items : goal.returns-clause-items
returns-clause-items g c =
    let opening = written_fields (opening_fields c.args.version1 c.args.context.now []) in
    let info = written_fields (filled 0xbe c.args.info.now ∷ []) in
    c.put_information.ensures.items
    ∙ (ap (λ (w : List ℕ). w ++ info) (c.put_opening.ensures.items ∙ ap (λ (w : List ℕ). w ++ opening) c.put_front.ensures.items)
    ∙ request-appended c.args.out.now.items c.args.syntax.now c.args.tag _ c.args.version1 c.args.context.now c.args.info.now c.requires.syntax (omega (arith, c.opening_len.ensures, c.information_len.ensures)))
