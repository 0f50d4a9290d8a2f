-- The length of what is written.
use Rattle.std.proofs.Common.{◌≡◌, ℕ, ◌+◌, ◌≤◌, ltb, List, [], ◌∷◌, length, inl, inr, arith}
use Rattle.std.proofs.lemmas.Bool.{cases_Bool}
use Rattle.ber_core.specs.Written.{written}
use Rattle.ber_core.specs.WrittenLength.{element_length}

pub element_length-least : (n : ℕ) → n + 2 ≤ element_length n
element_length-least n = elim (cases_Bool (ltb n 128)) [
  | inl a ↦ rw a (omega arith)
  | inr a ↦ elim (cases_Bool (ltb n 256)) [
    | inl b ↦ rw (a, b) (omega arith)
    | inr b ↦ rw (a, b) (omega arith)
  ]
]

pub element_length-most : (n : ℕ) → element_length n ≤ n + 4
element_length-most n = elim (cases_Bool (ltb n 128)) [
  | inl a ↦ rw a (omega arith)
  | inr a ↦ elim (cases_Bool (ltb n 256)) [
    | inl b ↦ rw (a, b) (omega arith)
    | inr b ↦ rw (a, b) (omega arith)
  ]
]

pub length-written : (tag : ℕ) (content : List ℕ) → length (written (tag ∷ []) content) ≡ element_length (length content)
length-written tag content = elim (cases_Bool (ltb (length content) 128)) [
  | inl a ↦ rw a (omega arith)
  | inr a ↦ elim (cases_Bool (ltb (length content) 256)) [
    | inl b ↦ rw (a, b) (omega arith)
    | inr b ↦ rw (a, b) (omega arith)
  ]
]
