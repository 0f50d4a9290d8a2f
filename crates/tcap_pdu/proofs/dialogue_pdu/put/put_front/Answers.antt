use Rattle.std.proofs.Common.{◌+◌, ℕ, List, [], ◌∷◌, ◌++◌, length, vec_capacity, ap, ◌∙◌, arith, refl}
use Rattle.ber_core.specs.Written.{written, written_head}
use Rattle.ber_core.specs.WrittenLength.{element_length}
use Rattle.tcap_pdu.proofs.AppendedGrammar.{front-appended, front-length, room-behind}
use Rattle.tcap_pdu.proofs.dialogue_pdu.put.put_front.Goals as goal

pub put_head-requires-clause-room : goal.put_head-requires-clause-room
put_head-requires-clause-room g c =
    let all = front-length c.args.syntax.now c.args.tag c.args.contents c.held_len.result (element_length c.args.contents) c.held_len.ensures refl in
    omega (arith, all, c.requires.room)

pub put_few-requires-clause-room : goal.put_few-requires-clause-room
put_few-requires-clause-room g c =
    let all = front-length c.args.syntax.now c.args.tag c.args.contents c.held_len.result (element_length c.args.contents) c.held_len.ensures refl in
    let left = length (written_head (0xa0 ∷ []) (element_length c.args.contents)) + length (written_head (c.args.tag ∷ []) c.args.contents) in
    let first = room-behind c.args.out.now.items (written_head (0x28 ∷ []) c.held_len.result) c.put_head.new.out.items (length (written (0x06 ∷ []) c.args.syntax.now) + left) (vec_capacity c.args.out.now) (vec_capacity c.put_head.new.out) c.put_head.ensures.items (omega (arith, all, c.requires.room)) c.put_head.ensures.capacity in
    omega (arith, first)

pub put_head-requires-2-clause-room : goal.put_head-requires-2-clause-room
put_head-requires-2-clause-room g c =
    let all = front-length c.args.syntax.now c.args.tag c.args.contents c.held_len.result c.element_len.result c.held_len.ensures c.element_len.ensures in
    let left = length (written_head (0xa0 ∷ []) c.element_len.result) + length (written_head (c.args.tag ∷ []) c.args.contents) in
    let first = room-behind c.args.out.now.items (written_head (0x28 ∷ []) c.held_len.result) c.put_head.new.out.items (length (written (0x06 ∷ []) c.args.syntax.now) + left) (vec_capacity c.args.out.now) (vec_capacity c.put_head.new.out) c.put_head.ensures.items (omega (arith, all, c.requires.room)) c.put_head.ensures.capacity in
    let second = room-behind c.put_head.new.out.items (written (0x06 ∷ []) c.args.syntax.now) c.put_few.new.out.items left (vec_capacity c.put_head.new.out) (vec_capacity c.put_few.new.out) c.put_few.ensures.items (omega (arith, first)) c.put_few.ensures.capacity in
    omega (arith, second)

pub put_head-requires-3-clause-room : goal.put_head-requires-3-clause-room
put_head-requires-3-clause-room g c =
    let all = front-length c.args.syntax.now c.args.tag c.args.contents c.held_len.result c.element_len.result c.held_len.ensures c.element_len.ensures in
    let last = length (written_head (c.args.tag ∷ []) c.args.contents) in
    let left = length (written_head (0xa0 ∷ []) c.element_len.result) + last in
    let first = room-behind c.args.out.now.items (written_head (0x28 ∷ []) c.held_len.result) c.put_head.new.out.items (length (written (0x06 ∷ []) c.args.syntax.now) + left) (vec_capacity c.args.out.now) (vec_capacity c.put_head.new.out) c.put_head.ensures.items (omega (arith, all, c.requires.room)) c.put_head.ensures.capacity in
    let second = room-behind c.put_head.new.out.items (written (0x06 ∷ []) c.args.syntax.now) c.put_few.new.out.items left (vec_capacity c.put_head.new.out) (vec_capacity c.put_few.new.out) c.put_few.ensures.items (omega (arith, first)) c.put_few.ensures.capacity in
    let third = room-behind c.put_few.new.out.items (written_head (0xa0 ∷ []) c.element_len.result) c.put_head-2.new.out.items last (vec_capacity c.put_few.new.out) (vec_capacity c.put_head-2.new.out) c.put_head-2.ensures.items (omega (arith, second)) c.put_head-2.ensures.capacity in
    omega (arith, third)

pub returns-clause-items : goal.returns-clause-items
returns-clause-items g c =
    let syntax = written (0x06 ∷ []) c.args.syntax.now in
    let within = written_head (0xa0 ∷ []) c.element_len.result in
    let head = written_head (c.args.tag ∷ []) c.args.contents in
    c.put_head-3.ensures.items
    ∙ (ap (λ (w : List ℕ). w ++ head) (c.put_head-2.ensures.items ∙ ap (λ (w : List ℕ). w ++ within) (c.put_few.ensures.items ∙ ap (λ (w : List ℕ). w ++ syntax) c.put_head.ensures.items))
    ∙ front-appended c.args.out.now.items c.args.syntax.now c.args.tag c.args.contents c.held_len.result c.element_len.result c.held_len.ensures c.element_len.ensures)
