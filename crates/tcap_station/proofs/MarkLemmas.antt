-- The outputs that wait, where an event comes or an output goes.
use Rattle.std.proofs.Common.{◌≡◌, ℕ, zero, suc, ◌<◌, ◌≤◌, true, false, is_some, nat_eq, List, [], ◌∷◌, ◌++◌, length, take, drop, Option, Some, None, refl, sym, ap, ◌∙◌, subst, arith, tests}
use Rattle.std.proofs.lemmas.List.{append-nil, length-append, append_assoc, drop-append-le, take-append-le, take_all, drop_all}
use Rattle.std.specs.List.{slice_get}
use Rattle.std.specs.Option.{option_map}
use Rattle.tcap_model.specs.Words.Output.{Output}
use Rattle.tcap_station.specs.Marks.{AreMarked, marked, with_first, with_mark}
use Rattle.tcap_station.specs.WaitingOutput.{WaitingOutput, is_any, numbered_outputs}
use Rattle.tcap_station.specs.WaitingViews.{output_of}
use Rattle.tcap_station.specs.declared.line.marks.Mark.{Mark}

-- The output that comes next is the first one, with the number of the first event; it is the last where one is left.
pub first-marked : (m : Mark) (ms : List Mark) (os : List Output) (o : Output) → AreMarked (m ∷ ms) os → slice_get os 0 ≡ Some o
    → slice_get (marked (m ∷ ms) os) 0 ≡ Some (record { output = o; event = m.event; is_last = nat_eq m.left 1 })
first-marked m ms os o h first = go m.left os h.0.some h.0.within first
  where
    go : (n : ℕ) (os : List Output) → 0 < n → n ≤ length os → slice_get os 0 ≡ Some o
        → slice_get (numbered_outputs m.event (take n os) ++ marked ms (drop n os)) 0 ≡ Some (record { output = o; event = m.event; is_last = nat_eq n 1 })
    go zero os some within first = absurd (omega (arith, some))
    go (suc n) [] some within first = absurd (omega (arith, within))
    go (suc zero) (p ∷ os) some within first = ap (λ (x : Option Output). elim x as (λ _. Option WaitingOutput) [ None ↦ None | Some y ↦ Some (record { output = y; event = m.event; is_last = true }) ]) first
    go (suc (suc n)) (p ∷ []) some within first = absurd (omega (arith, within))
    go (suc (suc n)) (p ∷ (q ∷ os)) some within first =
        let many : nat_eq (suc (suc n)) 1 ≡ false = search (tests, arith) in
        rw many (ap (λ (x : Option Output). elim x as (λ _. Option WaitingOutput) [ None ↦ None | Some y ↦ Some (record { output = y; event = m.event; is_last = false }) ]) first)

-- An event comes: its outputs stand behind the others.
pub added-are : (ms : List Mark) (os told : List Output) (event n : ℕ) → AreMarked ms os → n ≡ length told → AreMarked (with_mark ms event n) (os ++ told)
added-are ms os told event n h is = go n told is ms os h
  where
    last : (n : ℕ) (told : List Output) → suc n ≡ length told → (ms : List Mark) (os : List Output) → AreMarked ms os
        → AreMarked (ms ++ record { event = event; left = suc n } ∷ []) (os ++ told)
    last n told is [] os h = rw h (record { some = omega arith; within = omega (arith, is) }, drop_all (suc n) told (omega (arith, is)))
    last n told is (m ∷ ms) os h = (
      record { some = h.0.some; within = omega (arith, h.0.within, length-append os told) },
      subst (AreMarked (ms ++ record { event = event; left = suc n } ∷ [])) (sym (drop-append-le m.left os told h.0.within)) (last n told is ms (drop m.left os) h.1),
    )

    go : (n : ℕ) (told : List Output) → n ≡ length told → (ms : List Mark) (os : List Output) → AreMarked ms os → AreMarked (with_mark ms event n) (os ++ told)
    go zero [] is ms os h = rw (append-nil os) h
    go zero (t ∷ told) is ms os h = absurd (omega (arith, is))
    go (suc n) told is ms os h = last n told is ms os h

-- It is numbered behind the others.
pub added-marked : (ms : List Mark) (os told : List Output) (event n : ℕ) → AreMarked ms os → n ≡ length told
    → marked (with_mark ms event n) (os ++ told) ≡ marked ms os ++ numbered_outputs event told
added-marked ms os told event n h is = go n told is ms os h
  where
    last : (n : ℕ) (told : List Output) → suc n ≡ length told → (ms : List Mark) (os : List Output) → AreMarked ms os
        → marked (ms ++ record { event = event; left = suc n } ∷ []) (os ++ told) ≡ marked ms os ++ numbered_outputs event told
    last n told is [] os h = rw h (append-nil (numbered_outputs event (take (suc n) told)) ∙ ap (numbered_outputs event) (take_all (suc n) told (omega (arith, is))))
    last n told is (m ∷ ms) os h =
        rw (take-append-le m.left os told h.0.within, drop-append-le m.left os told h.0.within, last n told is ms (drop m.left os) h.1)
        (sym (append_assoc (numbered_outputs m.event (take m.left os)) (marked ms (drop m.left os)) (numbered_outputs event told)))

    go : (n : ℕ) (told : List Output) → n ≡ length told → (ms : List Mark) (os : List Output) → AreMarked ms os
        → marked (with_mark ms event n) (os ++ told) ≡ marked ms os ++ numbered_outputs event told
    go zero [] is ms os h = rw (append-nil os) (sym (append-nil (marked ms os)))
    go zero (t ∷ told) is ms os h = absurd (omega (arith, is))
    go (suc n) told is ms os h = last n told is ms os h

-- Where an output comes next, it is the first one, with the number of the first event.
pub first-waits : (first : Option Mark) (others : List Mark) (os : List Output) (m : Mark) (o : Output) → AreMarked (with_first first others) os
    → first ≡ Some m → Some o ≡ slice_get os 0
    → Some (record { output = o; event = m.event; is_last = nat_eq m.left 1 }) ≡ slice_get (marked (with_first first others) os) 0
first-waits None others os m o h is next = absurd cc
first-waits (Some k) others os m o h is next =
    let same : m ≡ k = cc in
    ap (λ (x : Mark). Some (record { output = o; event = x.event; is_last = nat_eq x.left 1 })) same ∙ sym (first-marked k others os o h (sym next))

-- Whatever waits first is the first output.
pub first-output : (ms : List Mark) (os : List Output) → AreMarked ms os → option_map output_of (slice_get (marked ms os) 0) ≡ slice_get os 0
first-output [] os h = rw h refl
first-output (m ∷ ms) os h = go m.left os h.0.some h.0.within
  where
    go : (n : ℕ) (os : List Output) → 0 < n → n ≤ length os
        → option_map output_of (slice_get (numbered_outputs m.event (take n os) ++ marked ms (drop n os)) 0) ≡ slice_get os 0
    go zero os some within = absurd (omega (arith, some))
    go (suc n) [] some within = absurd (omega (arith, within))
    go (suc n) (o ∷ os) some within = refl

-- Something waits where there is an event of which outputs wait.
pub any-waits : (first : Option Mark) (others : List Mark) (os : List Output) → AreMarked (with_first first others) os
    → is_some first ≡ is_any (marked (with_first first others) os)
any-waits None others os h = refl
any-waits (Some k) others [] h = absurd (omega (arith, h.0.some, h.0.within))
any-waits (Some k) others (o ∷ os) h = go k.left h.0.some
  where
    go : (n : ℕ) → 0 < n → true ≡ is_any (numbered_outputs k.event (take n (o ∷ os)) ++ marked others (drop n (o ∷ os)))
    go zero some = absurd (omega (arith, some))
    go (suc n) some = refl
