use Rattle.std.proofs.Common.{◌+◌, ℕ, List, [], ◌∷◌, ◌++◌, length, vec_capacity, ap, ◌∙◌, arith, refl}
use Rattle.std.specs.Prelude.{option_copied}
use Rattle.ber_core.specs.Sequence.Field.{may}
use Rattle.ber_core.specs.Written.{written_head, written_field, written_fields}
use Rattle.tcap_pdu.specs.FrameLength.{dialogue_of}
use Rattle.tcap_pdu.specs.FrameParts.{identifier_fields, closing_fields}
use Rattle.tcap_pdu.specs.FrameSpelling.{message_tag}
use Rattle.tcap_pdu.specs.FrameViews.{message}
use Rattle.tcap_pdu.proofs.AppendedGrammar.{room-behind}
use Rattle.tcap_pdu.proofs.FrameAppended.{frame-appended, frame-room}
use Rattle.tcap_pdu.proofs.frame.put.append_frame.Goals as goal

pub put_front-requires-clause-room : goal.put_front-requires-clause-room
put_front-requires-clause-room g c =
    let m = message c.args.frame.now in
    let all = frame-room m c.args.len.contents (dialogue_of m) c.requires.measured.is_contents refl in
    omega (arith, all, c.requires.room)

pub put_dialogue-requires-clause-short : goal.put_dialogue-requires-clause-short
put_dialogue-requires-clause-short g c =
    let all = frame-room (message c.args.frame.now) c.args.len.contents (option_copied c.dialogue.result) c.requires.measured.is_contents c.dialogue.ensures.exact in
    omega (arith, all, c.requires.measured.is_within)

pub put_dialogue-requires-clause-room : goal.put_dialogue-requires-clause-room
put_dialogue-requires-clause-room g c =
    let m = message c.args.frame.now in
    let dialogue = written_field (may 0x6b (option_copied c.dialogue.result)) in
    let closing = written_fields (closing_fields m) in
    let all = frame-room m c.args.len.contents (option_copied c.dialogue.result) c.requires.measured.is_contents c.dialogue.ensures.exact in
    let first = room-behind c.args.out.now.items (written_head (message_tag m ∷ []) c.args.len.contents ++ written_fields (identifier_fields m)) c.put_front.new.out.items (length dialogue + length closing) (vec_capacity c.args.out.now) (vec_capacity c.put_front.new.out) c.put_front.ensures.items (omega (arith, all, c.requires.room)) c.put_front.ensures.capacity in
    omega (arith, first)

pub put_closing-requires-clause-short : goal.put_closing-requires-clause-short
put_closing-requires-clause-short g c =
    let all = frame-room (message c.args.frame.now) c.args.len.contents (option_copied c.dialogue.result) c.requires.measured.is_contents c.dialogue.ensures.exact in
    omega (arith, all, c.requires.measured.is_within)

pub put_closing-requires-clause-room : goal.put_closing-requires-clause-room
put_closing-requires-clause-room g c =
    let m = message c.args.frame.now in
    let dialogue = written_field (may 0x6b (option_copied c.dialogue.result)) in
    let closing = written_fields (closing_fields m) in
    let all = frame-room m c.args.len.contents (option_copied c.dialogue.result) c.requires.measured.is_contents c.dialogue.ensures.exact in
    let first = room-behind c.args.out.now.items (written_head (message_tag m ∷ []) c.args.len.contents ++ written_fields (identifier_fields m)) c.put_front.new.out.items (length dialogue + length closing) (vec_capacity c.args.out.now) (vec_capacity c.put_front.new.out) c.put_front.ensures.items (omega (arith, all, c.requires.room)) c.put_front.ensures.capacity in
    let second = room-behind c.put_front.new.out.items dialogue c.put_dialogue.new.out.items (length closing) (vec_capacity c.put_front.new.out) (vec_capacity c.put_dialogue.new.out) c.put_dialogue.ensures.items (omega (arith, first)) c.put_dialogue.ensures.capacity in
    omega (arith, second)

pub returns-clause-items : goal.returns-clause-items
returns-clause-items g c =
    let m = message c.args.frame.now in
    let dialogue = written_field (may 0x6b (option_copied c.dialogue.result)) in
    let closing = written_fields (closing_fields m) in
    c.put_closing.ensures.items
    ∙ (ap (λ (w : List ℕ). w ++ closing) (c.put_dialogue.ensures.items ∙ ap (λ (w : List ℕ). w ++ dialogue) c.put_front.ensures.items)
    ∙ frame-appended m c.args.len.contents (option_copied c.dialogue.result) c.requires.measured.is_contents c.dialogue.ensures.exact c.args.out.now.items)
