-- The octets of a queue from which the Invoke of an invocation is taken out.
use Rattle.std.proofs.Common.{◌≡◌, ℕ, ◌+◌, ◌≤◌, ◌<◌, ◌-◌, Bool, true, false, not, List, [], ◌∷◌, ◌++◌, length, take, drop, filter, refl, sym, ap, subst, ◌∙◌, arith, length-append, slice_index_or, add-one, suc}
use Rattle.std.proofs.Math.Seq.{drop-cons, drop-drop, length-paste, take-append_seam, drop-append_seam, drop-paste, paste}
use Rattle.std.proofs.lemmas.List.{length-drop, length-take-le, append_assoc}
use Rattle.std.proofs.lemmas.List.Edits.{take-paste}
use Rattle.std.specs.List.{copy_within}
use Rattle.std.specs.Option.{option_map}
use Rattle.tcap_model.specs.Procedures.QueueRules.{Queued, asks_for, joined, without_invoke}
use Rattle.tcap_primitives.specs.declared.queue.Part.{Part}
use Rattle.tcap_primitives.specs.Parts.{total}
use Rattle.tcap_primitives.specs.QueueViews.{cut, part_view, invoking_view}

-- What a copy to the front leaves up to its end, and after the copied octets.
copied-front : (all : List ℕ) (kept from len : ℕ) → kept ≤ length all → from + len ≤ length all →
    take (kept + len) (copy_within all from (from + len) kept) ≡ take kept all ++ take len (drop from all)
copied-front all kept from len within enough =
    let count : from + len - from ≡ len = omega arith in
    subst (λ (n : ℕ). take (kept + len) (paste all kept (drop from all) n) ≡ take kept all ++ take len (drop from all)) (sym count)
    (take-paste all kept (drop from all) len within (omega (arith, enough, length-drop from all)))

copied-back : (all : List ℕ) (kept from len : ℕ) → kept ≤ from → from + len ≤ length all →
    drop (from + len) (copy_within all from (from + len) kept) ≡ drop len (drop from all)
copied-back all kept from len within enough =
    let count : from + len - from ≡ len = omega arith in
    let far : kept + len + (from - kept) ≡ from + len = omega (arith, within) in
    let made : List ℕ = paste all kept (drop from all) len in
    let same : drop (kept + len) made ≡ drop (kept + len) all = drop-paste all kept (drop from all) len (omega (arith, within, enough)) (omega (arith, enough, length-drop from all)) in
    let after : drop (from + len) made ≡ drop (from + len) all =
    ap (λ (n : ℕ). drop n made) (sym far) ∙ sym (drop-drop (from - kept) (kept + len) made) ∙ ap (drop (from - kept)) same ∙ drop-drop (from - kept) (kept + len) all ∙ ap (λ (n : ℕ). drop n all) far in
    subst (λ (n : ℕ). drop (from + len) (paste all kept (drop from all) n) ≡ drop len (drop from all)) (sym count) (after ∙ sym (drop-drop len from all))

-- Whether a component stays when an invocation is given up.
abbrev pub stays : ℕ → Part → Bool
stays number p = not (asks_for number (option_map invoking_view p.invoking))

module _ (number : ℕ) where
  -- The octets of the components that stay.
  abbrev pub left : List Part → List ℕ → List ℕ
  left parts octets = joined (without_invoke number (cut parts octets))

  left-kept : (p : Part) (parts : List Part) (octets : List ℕ) → stays number p ≡ true → left (p ∷ parts) octets ≡ take p.len octets ++ left parts (drop p.len octets)
  left-kept p parts octets e = rw e refl

  left-passed : (p : Part) (parts : List Part) (octets : List ℕ) → stays number p ≡ false → left (p ∷ parts) octets ≡ left parts (drop p.len octets)
  left-passed p parts octets e = rw e refl

  -- A component that stays moves to the front.
  pub moved : (p : Part) (parts : List Part) (all : List ℕ) (kept from : ℕ) → stays number p ≡ true → kept ≤ from → total (p ∷ parts) + from ≡ length all →
      take (kept + p.len) (copy_within all from (from + p.len) kept) ++ left parts (drop (from + p.len) (copy_within all from (from + p.len) kept)) ≡ take kept all ++ left (p ∷ parts) (drop from all)
  moved p parts all kept from e within whole =
      let front = copied-front all kept from p.len (omega (arith, whole, within)) (omega (arith, whole)) in
      let back = copied-back all kept from p.len within (omega (arith, whole)) in
      let joined_up = append_assoc (take kept all) (take p.len (drop from all)) (left parts (drop p.len (drop from all))) in
      rw (front, back) (joined_up ∙ ap (λ (o : List ℕ). take kept all ++ o) (sym (left-kept p parts (drop from all) e)))

  -- One that is given up is passed over.
  pub passed : (p : Part) (parts : List Part) (all : List ℕ) (kept from : ℕ) → stays number p ≡ false →
      take kept all ++ left parts (drop (from + p.len) all) ≡ take kept all ++ left (p ∷ parts) (drop from all)
  passed p parts all kept from e = rw (left-passed p parts (drop from all) e, drop-drop p.len from all) refl

  -- What is true where so many components were looked at, of which so many octets were kept.
  abbrev pub Holds : (parts : List Part) (start all : List ℕ) (index kept from : ℕ) → Type 0
  Holds parts start all index kept from =
      (take kept all ++ left (drop index parts) (drop from all) ≡ left parts start)
      × (kept ≤ from)
      × (total (drop index parts) + from ≡ length all)

  next_moved : (p : Part) (rest : List Part) (result all : List ℕ) (kept from : ℕ) → stays number p ≡ true →
      take kept all ++ left (p ∷ rest) (drop from all) ≡ result → kept ≤ from → total (p ∷ rest) + from ≡ length all →
      (take (kept + p.len) (copy_within all from (from + p.len) kept) ++ left rest (drop (from + p.len) (copy_within all from (from + p.len) kept)) ≡ result)
      × (kept + p.len ≤ from + p.len)
      × (total rest + (from + p.len) ≡ length (copy_within all from (from + p.len) kept))
  next_moved p rest result all kept from e is within whole =
      let count : from + p.len - from ≡ p.len = omega arith in
      let len : length (copy_within all from (from + p.len) kept) ≡ length all =
      subst (λ (n : ℕ). length (paste all kept (drop from all) n) ≡ length all) (sym count) (length-paste all kept (drop from all) p.len (omega (arith, within, whole)) (omega (arith, whole, length-drop from all))) in
      (moved p rest all kept from e within whole ∙ is, omega (arith, within), omega (arith, whole, len))

  -- The next component stays.
  pub holds-moved : (parts : List Part) (start all : List ℕ) (index kept from : ℕ) (d : Part) → index < length parts → stays number (slice_index_or parts index d) ≡ true → Holds parts start all index kept from →
      Holds parts start (copy_within all from (from + (slice_index_or parts index d).len) kept) (index + 1) (kept + (slice_index_or parts index d).len) (from + (slice_index_or parts index d).len)
  holds-moved parts start all index kept from d lt e h =
      let now = drop-cons parts index d lt in
      let is = rw now at h.0 in
      let whole = rw now at h.2 in
      rw (add-one index) (next_moved (slice_index_or parts index d) (drop (suc index) parts) (left parts start) all kept from e is h.1 whole)

  -- The next component is the Invoke.
  pub holds-passed : (parts : List Part) (start all : List ℕ) (index kept from : ℕ) (d : Part) → index < length parts → stays number (slice_index_or parts index d) ≡ false → Holds parts start all index kept from →
      Holds parts start all (index + 1) kept (from + (slice_index_or parts index d).len)
  holds-passed parts start all index kept from d lt e h =
      let p : Part = slice_index_or parts index d in
      let now = drop-cons parts index d lt in
      let is = rw now at h.0 in
      let whole : total (p ∷ drop (suc index) parts) + from ≡ length all = rw now at h.2 in
      rw (add-one index) (passed p (drop (suc index) parts) all kept from e ∙ is, omega (arith, h.1), omega (arith, whole))

  -- What stays, cut from its octets.
  pub cut-filtered : (parts : List Part) (octets : List ℕ) → total parts ≡ length octets → cut (filter (stays number) parts) (left parts octets) ≡ without_invoke number (cut parts octets)
  cut-filtered [] octets whole = refl
  cut-filtered (p ∷ parts) octets whole =
      let within : p.len ≤ length octets = omega (arith, whole) in
      let rest : total parts ≡ length (drop p.len octets) = omega (arith, whole, length-drop p.len octets) in
      go (stays number p) refl (length-take-le p.len octets within) (cut-filtered parts (drop p.len octets) rest)
    where
      go : (b : Bool) → stays number p ≡ b → length (take p.len octets) ≡ p.len → cut (filter (stays number) parts) (left parts (drop p.len octets)) ≡ without_invoke number (cut parts (drop p.len octets)) →
          cut (filter (stays number) (p ∷ parts)) (left (p ∷ parts) octets) ≡ without_invoke number (cut (p ∷ parts) octets)
      go true e len ih =
          let front : take p.len (take p.len octets ++ left parts (drop p.len octets)) ≡ take p.len octets = subst (λ (n : ℕ). take n (take p.len octets ++ left parts (drop p.len octets)) ≡ take p.len octets) len (take-append_seam (take p.len octets) (left parts (drop p.len octets))) in
          let back : drop p.len (take p.len octets ++ left parts (drop p.len octets)) ≡ left parts (drop p.len octets) = subst (λ (n : ℕ). drop n (take p.len octets ++ left parts (drop p.len octets)) ≡ left parts (drop p.len octets)) len (drop-append_seam (take p.len octets) (left parts (drop p.len octets))) in
          rw e (rw (front, back) (ap (λ (qs : List Queued). part_view p octets ∷ qs) ih))
      go false e len ih = rw e ih

  -- And how many octets it has.
  pub total-filtered : (parts : List Part) (octets : List ℕ) → total parts ≡ length octets → total (filter (stays number) parts) ≡ length (left parts octets)
  total-filtered [] octets whole = refl
  total-filtered (p ∷ parts) octets whole =
      let within : p.len ≤ length octets = omega (arith, whole) in
      let rest : total parts ≡ length (drop p.len octets) = omega (arith, whole, length-drop p.len octets) in
      go (stays number p) refl (length-take-le p.len octets within) (total-filtered parts (drop p.len octets) rest)
    where
      go : (b : Bool) → stays number p ≡ b → length (take p.len octets) ≡ p.len → total (filter (stays number) parts) ≡ length (left parts (drop p.len octets)) →
          total (filter (stays number) (p ∷ parts)) ≡ length (left (p ∷ parts) octets)
      go true e len ih = rw e (omega (arith, len, ih, length-append (take p.len octets) (left parts (drop p.len octets))))
      go false e len ih = rw e ih
