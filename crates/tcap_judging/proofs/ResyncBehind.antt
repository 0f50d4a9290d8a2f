-- The end of a stream within a faulty message, behind octets at which no good one begins.
use Rattle.std.proofs.Common.{◌≡◌, ◌≤◌, ◌<◌, ◌+◌, ◌-◌, ◌∙◌, ◌∷◌, ◌||◌, ℕ, Bool, true, false, List, length, min, drop, Option, Result, Ok, Err, nat_lt, refl, sym, ap, subst, arith}
use Rattle.std.proofs.lemmas.List.{length-drop}
use Rattle.std.specs.Prelude.{MatchResult}
use Rattle.tcap_judging.proofs.ResyncCuts.{place-again}
use Rattle.tcap_judging.specs.Entry.{Entry, passed}
use Rattle.tcap_judging.specs.Form.{Form}
use Rattle.tcap_judging.specs.Resync.{Tells, may_begin, passed_in}
use Rattle.tcap_judging.specs.Resync.Tells.{searches_within, finds_within, finds_none}
use Rattle.tcap_judging.specs.ResyncSteps.{IsEndUntold, StandsBehind, WritesEnd, has_more}
use Rattle.tcap_judging.specs.declared.fault.JudgingFault.{JudgingFault}
use Rattle.tcap_judging.specs.declared.fault.JudgingFault.TheVariants as fault
use Rattle.tcap_judging.specs.declared.place.Place.{Place}
use Rattle.tcap_judging.specs.declared.place.Place.TheVariants.{Reading, Within}

-- where a good message begins in the faulty one
found-later : (first count left n : ℕ) (octets rest : List ℕ) (es : List Entry) → n ≡ passed_in true octets → rest ≡ drop n octets → n < left
    → Tells true (Within first (count + n) (left - n)) rest es → Tells true (Within first count left) octets es
found-later first count left n octets rest es is behind few (searches_within _ _ _ _ _ low h) = absurd cc
found-later first count left n octets rest es is behind few (finds_within _ _ _ _ _ others low h t) =
    let p = passed_in true octets in
    let none : passed_in true rest ≡ 0 = ap (passed_in true) (behind ∙ ap (λ m. drop m octets) is) ∙ place-again (may_begin true) octets in
    let sum : (count + n) + passed_in true rest ≡ count + p = omega (arith, none, is) in
    let at : drop (passed_in true rest) rest ≡ drop p octets = ap (λ m. drop m rest) none ∙ behind ∙ ap (λ m. drop m octets) is in
    let low : p < left = omega (arith, is, few) in
    let there = subst (λ w. Tells true (Reading (first + (count + p))) w others) at (subst (λ m. Tells true (Reading (first + m)) (drop (passed_in true rest) rest) others) sum t) in
    subst (λ m. Tells true (Within first count left) octets (passed first m ∷ others)) (sym sum) (finds_within true first count left octets others low refl there)
found-later first count left n octets rest es is behind few (finds_none _ _ _ _ _ _ many t) =
    let none : passed_in true rest ≡ 0 = ap (passed_in true) (behind ∙ ap (λ m. drop m octets) is) ∙ place-again (may_begin true) octets in
    absurd (omega (arith, none, many, few))

-- where none does
none-later : (first count left : ℕ) (octets rest : List ℕ) (es : List Entry) → left ≤ passed_in true octets → rest ≡ drop left octets
    → Tells true (Within first (count + left) (left - left)) rest es → Tells true (Within first count left) octets es
none-later first count left octets rest es many behind (searches_within _ _ _ _ _ low h) = absurd cc
none-later first count left octets rest es many behind (finds_within _ _ _ _ _ others low h t) = absurd (omega (arith, low))
none-later first count left octets rest es many behind (finds_none _ _ _ _ _ _ none t) =
    let zero : left - left ≡ 0 = omega arith in
    let sum : (count + left) + (left - left) ≡ count + left = omega arith in
    let at : drop (left - left) rest ≡ drop left octets = ap (λ m. drop m rest) zero ∙ behind in
    let there = subst (λ w. Tells true (Reading (first + (count + left))) w es) at (subst (λ m. Tells true (Reading (first + m)) (drop (left - left) rest) es) sum t) in
    finds_none true first count left octets es many there

or-true : (b : Bool) → (b || true) ≡ true
or-true true = refl
or-true false = refl

-- the octets that a search passes over, at most all that are left of the message
pub stands-behind : (first count left n : ℕ) (octets rest : List ℕ) → n ≡ min left (passed_in true octets) → rest ≡ drop n octets → n ≤ length octets → StandsBehind (Within first count left) octets (Within first (count + n) (left - n)) rest
stands-behind first count left n octets rest is behind within = by (nat_lt (passed_in true octets) left) refl where
  by : (few : Bool) → nat_lt (passed_in true octets) left ≡ few → StandsBehind (Within first count left) octets (Within first (count + n) (left - n)) rest
  by true e =
      let low : passed_in true octets < left = grind (arith, e) in
      let same : n ≡ passed_in true octets = omega (arith, is, low) in
      record {
        tells = λ es t. found-later first count left n octets rest es same behind (omega (arith, same, low)) t;
        no_more = λ more. ap (λ (b : Bool). nat_lt left (length octets) || b) e ∙ or-true (nat_lt left (length octets));
      }
  by false e =
      let many : left ≤ passed_in true octets = grind (arith, e) in
      let same : n ≡ left = omega (arith, is, many) in
      record {
        tells = λ es t. none-later first count left octets rest es many (behind ∙ ap (λ m. drop m octets) same) (subst (λ m. Tells true (Within first (count + m) (left - m)) rest es) same t);
        no_more = λ more. still (nat_lt left (length octets)) refl more same;
      }
    where
      still : (b : Bool) → nat_lt left (length octets) ≡ b → has_more (Within first (count + n) (left - n)) rest ≡ true → n ≡ left → has_more (Within first count left) octets ≡ true
      still true k more same = ap (λ (b : Bool). b || nat_lt (passed_in true octets) left) k
      still false k more same =
          let all : length octets ≤ left = grind (arith, k) in
          let size : length rest ≡ length octets - n = ap length behind ∙ length-drop n octets in
          absurd (grind (arith, more, all, size, same))

-- ---- what was written there was written here

module _ (form : Form) (place : Place) (octets : List ℕ) (later : Place) (rest : List ℕ) (s : StandsBehind place octets later rest) (old new : Option (List ℕ)) where
  untold-behind : (f : JudgingFault) → IsEndUntold form later rest old new f → IsEndUntold form place octets old new f
  untold-behind fault.OutOfMemory u = (u.0, s.no_more u.1)
  untold-behind fault.Read u = u
  untold-behind fault.Write u = record { made = u.made; tells = s.tells u.made u.tells; written = u.written }
  untold-behind fault.TooLong u = u

  pub ends-behind : (good : Bool) (r : Result Bool JudgingFault) → MatchResult r (λ ends. WritesEnd form later rest old new good ends) (λ f. IsEndUntold form later rest old new f)
      → MatchResult r (λ ends. WritesEnd form place octets old new good ends) (λ f. IsEndUntold form place octets old new f)
  ends-behind good (Ok ends) w = record { made = w.made; tells = s.tells w.made w.tells; written = w.written; verdict = w.verdict }
  ends-behind good (Err f) u = untold-behind f u
