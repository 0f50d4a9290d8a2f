-- Room for Rejects.
use Rattle.std.proofs.Common.{◌≡◌, ◌≤◌, ◌<◌, ◌-◌, ℕ, List, Some, length, slice_get, slice_index_or, inl, inr, ap, arith, rules, ◌∙◌}
use Rattle.std.proofs.lemmas.Option.{get_or_from_slice_get, slice_get_within}
use Rattle.tcap_dialogue.specs.RejectRoom.{FindRejectRoom}
use Rattle.tcap_dialogue.specs.declared.dialogue.spares.Spares.{Spares}
use Rattle.tcap_primitives.specs.declared.queue.Queue.{Queue}

-- Where so many find room, fewer do.
pub fewer : {A : Type 0} (spares : Spares A) (queue : Queue A) (few many : ℕ) → few ≤ many → FindRejectRoom spares queue many → FindRejectRoom spares queue few
fewer spares queue few many less (inl has) = inl (omega (arith, less, has.0), omega (arith, less, has.1))
fewer spares queue few many less (inr lent) = inr (record { left = lent.left; is_last = lent.is_last; octets = omega (arith, less, lent.octets); parts = omega (arith, less, lent.parts); is_bare = lent.is_bare })

-- What is taken out last is what stands last.
pub taken-is-last : {X : Type 0} (items : List X) (taken left : X) (n : ℕ) → n ≡ length items → slice_get items (length items - 1) ≡ Some left →
    ((d : X) → 0 < n → Some taken ≡ Some (slice_index_or items (n - 1) d)) → taken ≡ left
taken-is-last items taken left n is last at =
    let some : 0 < n = omega (arith, is, slice_get_within items (length items - 1) left last) in
    let there : slice_index_or items (n - 1) left ≡ left = rw is (get_or_from_slice_get items (length items - 1) left left last) in
    let same : Some taken ≡ Some left = at left some ∙ ap Some there in
    search (rules, same)
