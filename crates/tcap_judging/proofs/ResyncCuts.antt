-- Octets at which a good message begins or may begin, as more come.
use Rattle.std.proofs.Common.{◌≡◌, ◌≤◌, ◌<◌, ◌+◌, ◌-◌, ◌++◌, ◌∙◌, ◌∷◌, ℕ, zero, suc, Bool, true, false, List, [], length, map, if◌then◌else◌, take, drop, Option, Some, None, refl, sym, ap, arith, append-nil}
use Rattle.std.proofs.Math.ListN.{drop_of_length-le}
use Rattle.std.proofs.Math.Seq.{take-length}
use Rattle.std.proofs.lemmas.List.{drop-append-le, drop-drop, length-append, length-drop}
use Rattle.ber_core.proofs.CallerLemmas.{after_messages, cut-faulty, cut-longer, cut_takes, IsElement-longer}
use Rattle.ber_core.specs.declared.fault.FeedFault.{FeedFault}
use Rattle.ber_core.specs.Element.{Parts, depth_limit, joined}
use Rattle.ber_core.specs.Stream.{Cut, IsMessage, cut_into, cut_of}
use Rattle.std.specs.List.{AllByRecursion}
use Rattle.std.specs.Option.{unwrap_or}
use Rattle.tcap_judging.proofs.MessageFronts.{begins_not, goes-longer}
use Rattle.tcap_judging.specs.Resync.{first_of, first_place, is_found, may_be_good, may_begin, may_go_on, passed_in}

-- ---- what is known of a front stays, as more come

bad-messages : (ends : Bool) (o : ℕ) (os more : List ℕ) (ms : List (List ℕ)) (f : Option FeedFault) → (cut_of (o ∷ os)).messages ≡ ms → (cut_of (o ∷ os)).fault ≡ f → may_be_good false (may_go_on (o ∷ os)) ms f ≡ false → may_begin ends (o ∷ (os ++ more)) ≡ false
bad-messages ends o os more (m ∷ ms) f p q h =
    let longer = cut-longer (o ∷ os) more ∙ ap (λ l. after_messages l (cut_of ((cut_of (o ∷ os)).rest ++ more))) p in
    ap (λ (c : Cut). may_be_good ends (may_go_on (o ∷ (os ++ more))) c.messages c.fault) longer ∙ h
bad-messages ends o os more [] None p q h = begins_not ends (o ∷ (os ++ more)) (goes-longer o os more h)
bad-messages ends o os more [] (Some why) p q h =
    let longer : cut_of (o ∷ (os ++ more)) ≡ cut_into [] ((cut_of (o ∷ os)).rest ++ more) (Some why) = cut-faulty (o ∷ os) more why q ∙ ap (λ l. cut_into l ((cut_of (o ∷ os)).rest ++ more) (Some why)) p in
    ap (λ (c : Cut). may_be_good ends (may_go_on (o ∷ (os ++ more))) c.messages c.fault) longer ∙ by ends (may_go_on (o ∷ (os ++ more)))
  where
    by : (ends goes : Bool) → may_be_good ends goes [] (Some why) ≡ false
    by true goes = refl
    by false goes = refl

bad-stays : (ends : Bool) (o : ℕ) (os more : List ℕ) → may_begin false (o ∷ os) ≡ false → may_begin ends (o ∷ (os ++ more)) ≡ false
bad-stays ends o os more h = bad-messages ends o os more _ _ refl refl h

good-messages : (ends : Bool) (s more : List ℕ) (ms : List (List ℕ)) (f : Option FeedFault) → (cut_of s).messages ≡ ms → may_be_good true (may_go_on s) ms f ≡ true → may_begin ends (s ++ more) ≡ true
good-messages ends s more [] f p h = absurd cc
good-messages ends s more (m ∷ ms) f p h =
    let longer = cut-longer s more ∙ ap (λ l. after_messages l (cut_of ((cut_of s).rest ++ more))) p in
    ap (λ (c : Cut). may_be_good ends (may_go_on (s ++ more)) c.messages c.fault) longer ∙ h

pub good-stays : (ends : Bool) (s more : List ℕ) → may_begin true s ≡ true → may_begin ends (s ++ more) ≡ true
good-stays ends s more h = good-messages ends s more _ _ refl h

-- ---- first places

pub place-within : (holds : List ℕ → Bool) (octets : List ℕ) → first_place holds octets ≤ length octets
place-within holds [] = omega arith
place-within holds (o ∷ os) = let more = place-within holds os in by (holds (o ∷ os)) more where
  by : (b : Bool) → first_place holds os ≤ length os → (if b then 0 else suc (first_place holds os)) ≤ suc (length os)
  by true h = omega arith
  by false h = omega (arith, h)

-- where it holds at once
pub place-first : (holds : List ℕ → Bool) (octets : List ℕ) → holds octets ≡ true → first_place holds octets ≡ 0
place-first holds [] h = refl
place-first holds (o ∷ os) h = ap (λ (b : Bool). if b then 0 else suc (first_place holds os)) h

-- behind what was passed over, nothing more is
pub place-again : (holds : List ℕ → Bool) (octets : List ℕ) → first_place holds (drop (first_place holds octets) octets) ≡ 0
place-again holds [] = refl
place-again holds (o ∷ os) = let others = place-again holds os in by (holds (o ∷ os)) refl others where
  by : (b : Bool) → holds (o ∷ os) ≡ b → first_place holds (drop (first_place holds os) os) ≡ 0 → first_place holds (drop (if b then 0 else suc (first_place holds os)) (o ∷ os)) ≡ 0
  by true e h = place-first holds (o ∷ os) e
  by false e h = h

-- what was passed over stays so, as more come
pub passed-longer : (ends : Bool) (octets more : List ℕ) → passed_in ends (octets ++ more) ≡ passed_in false octets + passed_in ends (drop (passed_in false octets) octets ++ more)
passed-longer ends [] more = let e : passed_in ends more ≡ 0 + passed_in ends more = omega arith in e
passed-longer ends (o ∷ os) more = let others = passed-longer ends os more in by (may_begin false (o ∷ os)) refl others where
  by : (b : Bool) → may_begin false (o ∷ os) ≡ b → passed_in ends (os ++ more) ≡ passed_in false os + passed_in ends (drop (passed_in false os) os ++ more)
      → passed_in ends (o ∷ (os ++ more)) ≡ (if b then 0 else suc (passed_in false os)) + passed_in ends (drop (if b then 0 else suc (passed_in false os)) (o ∷ os) ++ more)
  by true e h = let same : passed_in ends (o ∷ (os ++ more)) ≡ 0 + passed_in ends (o ∷ (os ++ more)) = omega arith in same
  by false e h =
      let sums : suc (passed_in ends (os ++ more)) ≡ suc (passed_in false os) + passed_in ends (drop (passed_in false os) os ++ more) = omega (arith, h) in
      ap (λ (b : Bool). if b then 0 else suc (passed_in ends (os ++ more))) (bad-stays ends o os more e) ∙ sums

pub passed-behind : (ends : Bool) (octets more : List ℕ) → drop (passed_in ends (octets ++ more)) (octets ++ more) ≡ drop (passed_in ends (drop (passed_in false octets) octets ++ more)) (drop (passed_in false octets) octets ++ more)
passed-behind ends octets more =
    let p = passed_in false octets in
    let q = passed_in ends (drop p octets ++ more) in
    ap (λ n. drop n (octets ++ more)) (passed-longer ends octets more) ∙ sym (drop-drop q p (octets ++ more)) ∙ ap (drop q) (drop-append-le p octets more (place-within (may_begin false) octets))

-- ---- the first message of a cut

pub first-longer : (s more m : List ℕ) → first_of (cut_of s).messages ≡ Some m → first_of (cut_of (s ++ more)).messages ≡ Some m
first-longer s more m h = ap (λ (c : Cut). first_of c.messages) (cut-longer s more) ∙ by (cut_of s).messages (cut_of ((cut_of s).rest ++ more)).messages h where
  by : (ms others : List (List ℕ)) → first_of ms ≡ Some m → first_of (ms ++ others) ≡ Some m
  by [] others k = absurd cc
  by (n ∷ ms) others k = k

pub first-sizes : (s m : List ℕ) → first_of (cut_of s).messages ≡ Some m → (0 < length m) × (length m ≤ length s)
first-sizes s m h = let t = cut_takes s in by t.elements t.each (sym (ap first_of t.are_messages) ∙ h) t.is_joined where
  by : (es : List Parts) → AllByRecursion IsMessage es → first_of (map (λ (e : Parts). e.whole) es) ≡ Some m → s ≡ joined es ++ (cut_of s).rest → (0 < length m) × (length m ≤ length s)
  by [] each k is = absurd cc
  by (e ∷ es) each k is =
      let same : length e.whole ≡ length m = ap (λ (o : Option (List ℕ)). length (unwrap_or o m)) k in
      let filled : length {A = ℕ} [] < length e.whole = IsElement-longer depth_limit e [] e.whole each.0.0 (sym (append-nil e.whole)) in
      let sizes : length s ≡ length (e.whole ++ joined es) + length (cut_of s).rest = ap length is ∙ length-append (e.whole ++ joined es) (cut_of s).rest in
      (omega (arith, filled, same), omega (arith, same, sizes, length-append e.whole (joined es)))

-- without a message, all is left
rest-all : (s : List ℕ) → (cut_of s).messages ≡ [] → (cut_of s).rest ≡ s
rest-all s none = let h = cut_takes s in by h.elements (sym none ∙ h.are_messages) h.is_joined where
  by : (es : List Parts) → [] ≡ map (λ (e : Parts). e.whole) es → s ≡ joined es ++ (cut_of s).rest → (cut_of s).rest ≡ s
  by [] e is = sym is
  by (x ∷ es) e is = absurd cc

pub cut-none : (s : List ℕ) → (cut_of s).messages ≡ [] → cut_of s ≡ cut_into [] s (cut_of s).fault
cut-none s none = ap (λ (ms : List (List ℕ)). cut_into ms (cut_of s).rest (cut_of s).fault) none ∙ ap (λ (r : List ℕ). cut_into [] r (cut_of s).fault) (rest-all s none)

-- ---- places one after the other

-- all that stands from a place on
pub rest-from : (octets : List ℕ) (n : ℕ) → take (length octets - n) (drop n octets) ≡ drop n octets
rest-from octets n = ap (λ k. take k (drop n octets)) (sym (length-drop n octets)) ∙ take-length (drop n octets)

pub place-next : (holds : List ℕ → Bool) (octets : List ℕ) (n : ℕ) → n < length octets → holds (drop n octets) ≡ false → first_place holds (drop n octets) ≡ 1 + first_place holds (drop (n + 1) octets)
place-next holds [] n low h = absurd (omega (arith, low))
place-next holds (o ∷ os) zero low h = let one : suc (first_place holds os) ≡ 1 + first_place holds os = omega arith in ap (λ (b : Bool). if b then 0 else suc (first_place holds os)) h ∙ one
place-next holds (o ∷ os) (suc n) low h =
    let next : suc n + 1 ≡ suc (n + 1) = omega arith in
    place-next holds os n (grind (arith, low)) h ∙ ap (λ m. 1 + first_place holds (drop m (o ∷ os))) (sym next)

-- behind all octets nothing begins
none-begins : may_begin true [] ≡ false
none-begins = begins_not true [] refl

pub found-end : (ends : Bool) (octets : List ℕ) (n : ℕ) → length octets ≤ n → ends ≡ is_found ends (drop n octets)
found-end ends octets n all = by ends where
  by : (ends : Bool) → ends ≡ is_found ends (drop n octets)
  by true = refl
  by false = sym (ap (may_begin true) (drop_of_length-le octets all) ∙ none-begins)
