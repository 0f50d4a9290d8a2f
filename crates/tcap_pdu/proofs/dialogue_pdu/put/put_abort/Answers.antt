use Rattle.std.proofs.Common.{◌+◌, ℕ, List, [], ◌∷◌, ◌++◌, length, vec_capacity, ap, ◌∙◌, arith, refl}
use Rattle.ber_core.specs.Sequence.Field.{filled}
use Rattle.ber_core.specs.Written.{written, written_fields}
use Rattle.tcap_pdu.specs.DialogueDue.{external_front}
use Rattle.tcap_pdu.specs.DialogueSpelling.{structured_syntax, abort_source}
use Rattle.tcap_pdu.proofs.AppendedGrammar.{abort-appended, abort-length, room-behind}
use Rattle.tcap_pdu.proofs.dialogue_pdu.put.put_abort.Goals as goal

pub put_front-requires-clause-room : goal.put_front-requires-clause-room
put_front-requires-clause-room g c =
    let n = c.element_len.result + c.information_len.result in
    let all = abort-length structured_syntax 0x64 n c.args.by_provider c.args.info.now refl (omega (arith, c.element_len.ensures, c.information_len.ensures)) in
    omega (arith, all, c.requires.room)

pub put_source-requires : goal.put_source-requires
put_source-requires g c =
    let n = c.element_len.result + c.information_len.result in
    let left = length (written_fields (filled 0xbe c.args.info.now ∷ [])) in
    let all = abort-length structured_syntax 0x64 n c.args.by_provider c.args.info.now refl (omega (arith, c.element_len.ensures, c.information_len.ensures)) in
    let first = room-behind c.args.out.now.items (external_front structured_syntax 0x64 n) c.put_front.new.out.items (3 + left) (vec_capacity c.args.out.now) (vec_capacity c.put_front.new.out) c.put_front.ensures.items (omega (arith, all, c.requires.room)) c.put_front.ensures.capacity in
    omega (arith, first)

pub put_information-requires-clause-room : goal.put_information-requires-clause-room
put_information-requires-clause-room g c =
    let n = c.element_len.result + c.information_len.result in
    let left = length (written_fields (filled 0xbe c.args.info.now ∷ [])) in
    let all = abort-length structured_syntax 0x64 n c.args.by_provider c.args.info.now refl (omega (arith, c.element_len.ensures, c.information_len.ensures)) in
    let first = room-behind c.args.out.now.items (external_front structured_syntax 0x64 n) c.put_front.new.out.items (3 + left) (vec_capacity c.args.out.now) (vec_capacity c.put_front.new.out) c.put_front.ensures.items (omega (arith, all, c.requires.room)) c.put_front.ensures.capacity in
    let second = room-behind c.put_front.new.out.items (written (0x80 ∷ []) (abort_source c.args.by_provider ∷ [])) c.put_source.new.out.items left (vec_capacity c.put_front.new.out) (vec_capacity c.put_source.new.out) c.put_source.ensures.items (omega (arith, first)) c.put_source.ensures.capacity in
    omega (arith, second)

pub returns-clause-items : goal.returns-clause-items
returns-clause-items g c =
    let source = written (0x80 ∷ []) (abort_source c.args.by_provider ∷ []) in
    let info = written_fields (filled 0xbe c.args.info.now ∷ []) in
    c.put_information.ensures.items
    ∙ (ap (λ (w : List ℕ). w ++ info) (c.put_source.ensures.items ∙ ap (λ (w : List ℕ). w ++ source) c.put_front.ensures.items)
    ∙ abort-appended c.args.out.now.items structured_syntax 0x64 _ c.args.by_provider c.args.info.now refl (omega (arith, c.element_len.ensures, c.information_len.ensures)))
