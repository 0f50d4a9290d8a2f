use Rattle.std.proofs.Common.{◌≡◌, ◌+◌, ◌≤◌, ℕ, List, [], ◌∷◌, ◌++◌, length, Option, vec_capacity, vec_len, ap, ◌∙◌, arith, refl}
use Rattle.std.specs.Prelude.{option_copied, option_map}
use Rattle.ber_core.specs.Sequence.Field.{may}
use Rattle.ber_core.specs.Written.{written_head, written_field, written_fields}
use Rattle.tcap_pdu.specs.DialogueViews.{pdu_value}
use Rattle.tcap_pdu.specs.FrameLength.{dialogue_of}
use Rattle.tcap_pdu.specs.FrameMeasured.{carrying}
use Rattle.tcap_pdu.specs.FrameParts.{identifier_fields, closing_fields}
use Rattle.tcap_pdu.specs.FrameSpelling.{message_tag}
use Rattle.tcap_pdu.specs.FrameViews.{message}
use Rattle.tcap_pdu.proofs.AppendedGrammar.{room-behind}
use Rattle.tcap_pdu.proofs.FrameAppended.{message-appended, message-room}
use Rattle.tcap_pdu.proofs.FrameCarrying.{context-good}
use Rattle.tcap_pdu.proofs.frame.put.append_message.Goals as goal
use Rattle.tcap_pdu.proofs.frame.put.append_message.Goals.{in-None, in-Some}

pub put_front-requires-clause-room : goal.put_front-requires-clause-room
put_front-requires-clause-room g c =
    let all = message-room (option_map pdu_value (option_copied c.args.pdu)) (message c.args.frame.now) c.args.len.contents c.requires.measured.is_contents in
    omega (arith, all, c.requires.room)

pub put_carried-requires-clause-context : goal.put_carried-requires-clause-context
put_carried-requires-clause-context g c =
    let good = rw (c.in-Some.is) at c.requires.good in
    context-good (pdu_value c.in-Some.pdu.now) good

pub put_closing-requires-clause-short : goal.put_closing-requires-clause-short
put_closing-requires-clause-short g c =
    let all = message-room (option_map pdu_value (option_copied c.args.pdu)) (message c.args.frame.now) c.args.len.contents c.requires.measured.is_contents in
    omega (arith, all, c.requires.measured.is_within)

pub put_closing-requires-clause-room : goal.put_closing-requires-clause-room
put_closing-requires-clause-room g c =
    let m = message c.args.frame.now in
    let p = option_map pdu_value (option_copied c.args.pdu) in
    let portion = written_field (may 0x6b (dialogue_of (carrying p m))) in
    let closing = length (written_fields (closing_fields m)) in
    let all = message-room p m c.args.len.contents c.requires.measured.is_contents in
    let first = room-behind c.args.out.now.items (written_head (message_tag m ∷ []) c.args.len.contents ++ written_fields (identifier_fields m)) c.put_front.new.out.items (length portion + closing) (vec_capacity c.args.out.now) (vec_capacity c.put_front.new.out) c.put_front.ensures.items (omega (arith, all, c.requires.room)) c.put_front.ensures.capacity in
    let behind : vec_len c.match-pdu.out + closing ≤ vec_capacity c.match-pdu.out = elim c.match-pdu.branch [
      | in-None w ↦
          let is : w.put_dialogue.new.out.items ≡ c.put_front.new.out.items ++ portion = w.put_dialogue.ensures.items ∙ ap (λ (d : Option (List ℕ)). c.put_front.new.out.items ++ written_field (may 0x6b d)) w.dialogue.ensures.exact ∙ rw w.in-None.is refl in
          let left = room-behind c.put_front.new.out.items portion w.put_dialogue.new.out.items closing (vec_capacity c.put_front.new.out) (vec_capacity w.put_dialogue.new.out) is (omega (arith, first)) w.put_dialogue.ensures.capacity in
          rw w.out-is (omega (arith, left))
      | in-Some w ↦
          let is : w.put_carried.new.out.items ≡ c.put_front.new.out.items ++ portion = w.put_carried.ensures.items ∙ rw w.in-Some.is refl in
          let left = room-behind c.put_front.new.out.items portion w.put_carried.new.out.items closing (vec_capacity c.put_front.new.out) (vec_capacity w.put_carried.new.out) is (omega (arith, first)) w.put_carried.ensures.capacity in
          rw w.out-is (omega (arith, left))
    ] in
    behind

pub returns-clause-items : goal.returns-clause-items
returns-clause-items g c =
    let m = message c.args.frame.now in
    let p = option_map pdu_value (option_copied c.args.pdu) in
    let portion = written_field (may 0x6b (dialogue_of (carrying p m))) in
    let closing = written_fields (closing_fields m) in
    let is : c.match-pdu.out.items ≡ c.put_front.new.out.items ++ portion = elim c.match-pdu.branch [
      | in-None w ↦ rw w.out-is (w.put_dialogue.ensures.items ∙ ap (λ (d : Option (List ℕ)). c.put_front.new.out.items ++ written_field (may 0x6b d)) w.dialogue.ensures.exact ∙ rw w.in-None.is refl)
      | in-Some w ↦ rw w.out-is (w.put_carried.ensures.items ∙ rw w.in-Some.is refl)
    ] in
    c.put_closing.ensures.items
    ∙ (ap (λ (w : List ℕ). w ++ closing) (is ∙ ap (λ (w : List ℕ). w ++ portion) c.put_front.ensures.items)
    ∙ message-appended p m c.args.len.contents c.requires.measured.is_contents c.args.out.now.items)
