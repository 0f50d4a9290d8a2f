-- Where the parts of an element lie.
use Rattle.std.proofs.Common.{◌≡◌, ◌+◌, ◌-◌, ◌<◌, ◌≤◌, List, ℕ, length, take, drop, Ok, refl, ap, ◌∙◌, arith}
use Rattle.std.proofs.lemmas.List.{take_rest, length-drop}
use Rattle.ber_core.specs.HeadReading.{head_at}
use Rattle.ber_core.specs.Place.{Slice, AtFront, AtEnd, IsAt, head_length}
use Rattle.ber_core.proofs.HeadGrammar.{HeadRead}

-- what begins where the head's rest begins lies behind the head
pub behind_head : (content rest bytes : Slice) (h : HeadRead) → head_at bytes.now ≡ Ok h → h.3 ≡ rest.now → length rest.now < length bytes.now → AtEnd rest bytes → AtFront content rest → IsAt (head_length bytes.now) content bytes
unfolding head_length
behind_head content rest bytes h e is lt at front =
    let count : head_length bytes.now ≡ length bytes.now - length rest.now = rw (e, is) refl in
    let octet : content.ref_ptr.1 ≡ rest.ref_ptr.1 = ap (λ (p : ℕ × ℕ). p.1) front in
    (ap (λ (p : ℕ × ℕ). p.0) front ∙ at.0, omega (arith, octet, at.1, count, lt))

-- what is cut off behind n octets ends where the bytes end
pub ends : (n : ℕ) (bytes : List ℕ) → n ≤ length bytes → n + length (take (length bytes - n) (drop n bytes)) ≡ length bytes
ends n bytes le = omega (arith, ap length (take_rest bytes n), length-drop n bytes, le)
