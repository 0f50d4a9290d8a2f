-- A search within a faulty message.
use Rattle.std.proofs.Common.{◌≡◌, ◌≤◌, ◌<◌, ◌+◌, ◌-◌, ◌++◌, ◌∙◌, ◌∷◌, ℕ, Bool, true, false, List, [], drop, refl, sym, ap, subst, arith, append-nil}
use Rattle.std.proofs.lemmas.List.{drop-append-le, drop-drop}
use Rattle.tcap_judging.proofs.EntryLists.{text-alone}
use Rattle.tcap_judging.proofs.ResyncCuts.{good-stays, passed-behind, passed-longer, place-again, place-first, place-within}
use Rattle.tcap_judging.specs.Entry.{Entry, passed}
use Rattle.tcap_judging.specs.EntryText.{entry_text}
use Rattle.tcap_judging.specs.Form.{Form}
use Rattle.tcap_judging.specs.Resync.{Tells, is_found, may_begin, passed_in}
use Rattle.tcap_judging.specs.Resync.Tells.{searches_within, finds_within, finds_none}
use Rattle.tcap_judging.specs.ResyncSteps.{AddsSteps, IsAhead}
use Rattle.tcap_judging.specs.declared.place.Place.{Place}
use Rattle.tcap_judging.specs.declared.place.Place.TheVariants.{Reading, Within}

module _ (first count left : ℕ) where
  finds-at : (ends : Bool) (octets : List ℕ) (n total : ℕ) (rest : List ℕ) (others : List Entry) → passed_in ends octets ≡ n → n < left → count + n ≡ total → drop n octets ≡ rest → is_found ends rest ≡ true
      → Tells ends (Reading (first + total)) rest others → Tells ends (Within first count left) octets (passed first total ∷ others)
  finds-at ends octets n total rest others is few sums behind h t =
      let same : drop (passed_in ends octets) octets ≡ rest = ap (λ m. drop m octets) is ∙ behind in
      let all : count + passed_in ends octets ≡ total = ap (λ m. count + m) is ∙ sums in
      subst (λ m. Tells ends (Within first count left) octets (passed first m ∷ others)) all
      (finds_within ends first count left octets others (omega (arith, is, few)) (ap (is_found ends) same ∙ h)
      (subst (λ m. Tells ends (Reading (first + m)) (drop (passed_in ends octets) octets) others) (sym all) (subst (λ w. Tells ends (Reading (first + total)) w others) (sym same) t)))

  -- as more octets come
  within-more : (ends : Bool) (octets more : List ℕ) (others : List Entry) → passed_in false octets < left
      → Tells ends (Within first (count + passed_in false octets) (left - passed_in false octets)) (drop (passed_in false octets) octets ++ more) others → Tells ends (Within first count left) (octets ++ more) others
  within-more ends octets more _ low (searches_within _ _ _ _ _ few h) =
      let sums = passed-longer ends octets more in
      searches_within ends first count left (octets ++ more) (omega (arith, few, low, sums)) (ap (is_found ends) (passed-behind ends octets more) ∙ h)
  within-more ends octets more _ low (finds_within _ _ _ _ _ es few h deeper) =
      let p = passed_in false octets in
      let rest = drop p octets ++ more in
      let q = passed_in ends rest in
      let sums : count + (p + q) ≡ (count + p) + q = omega arith in
      finds-at ends (octets ++ more) (p + q) ((count + p) + q) (drop q rest) es (passed-longer ends octets more) (omega (arith, few, low)) sums (sym (ap (λ n. drop n (octets ++ more)) (passed-longer ends octets more)) ∙ passed-behind ends octets more) h deeper
  within-more ends octets more _ low (finds_none _ _ _ _ _ es many deeper) =
      let p = passed_in false octets in
      let longer = passed-longer ends octets more in
      let all : (count + p) + (left - p) ≡ count + left = omega (arith, low) in
      let size : p + (left - p) ≡ left = omega (arith, low) in
      let behind : drop (left - p) (drop p octets ++ more) ≡ drop left (octets ++ more) =
      ap (drop (left - p)) (sym (drop-append-le p octets more (place-within (may_begin false) octets))) ∙ drop-drop (left - p) p (octets ++ more) ∙ ap (λ n. drop n (octets ++ more)) size in
      finds_none ends first count left (octets ++ more) es (omega (arith, many, low, longer))
      (subst (λ w. Tells ends (Reading (first + (count + left))) w es) behind (subst (λ n. Tells ends (Reading (first + n)) (drop (left - p) (drop p octets ++ more)) es) all deeper))

  -- it goes on
  within-waits : (form : Form) (ends : Bool) (octets old : List ℕ) → passed_in ends octets < left → is_found ends (drop (passed_in ends octets) octets) ≡ false
      → AddsSteps form ends (Within first count left) octets (Within first (count + passed_in ends octets) (left - passed_in ends octets)) (drop (passed_in ends octets) octets) true old old true
  within-waits form true octets old few h = absurd cc
  within-waits form false octets old few h =
      let n = passed_in false octets in
      let again : passed_in false (drop n octets) ≡ 0 = place-again (may_begin false) octets in
      record {
        made = [];
        leads = record {
          goes = λ more later_ends others ahead t. within-more later_ends octets more others few t;
          over = λ o. searches_within false first (count + n) (left - n) (drop n octets) (omega (arith, few, again)) (ap (λ m. is_found false (drop m (drop n octets))) again ∙ h);
        };
        added = sym (append-nil old);
        verdict = refl;
      }

  find-more : (ends later_ends : Bool) (octets more : List ℕ) (others : List Entry) → passed_in ends octets < left → is_found ends (drop (passed_in ends octets) octets) ≡ true → IsAhead ends more later_ends
      → Tells later_ends (Reading (first + (count + passed_in ends octets))) (drop (passed_in ends octets) octets ++ more) others → Tells later_ends (Within first count left) (octets ++ more) (passed first (count + passed_in ends octets) ∷ others)
  find-more true later_ends octets more others few h ahead t =
      let n = passed_in true octets in
      let at : Place = Reading (first + (count + n)) in
      let come : Tells later_ends at (drop n octets) others = subst (λ w. Tells later_ends at w others) (append-nil (drop n octets)) (subst (λ m. Tells later_ends at (drop n octets ++ m) others) ahead.0 t) in
      let found = finds_within true first count left octets others few h (subst (λ e. Tells e at (drop n octets) others) ahead.1 come) in
      let all : octets ≡ octets ++ more = sym (append-nil octets) ∙ ap (λ m. octets ++ m) (sym ahead.0) in
      subst (λ e. Tells e (Within first count left) (octets ++ more) (passed first (count + n) ∷ others)) (sym ahead.1) (subst (λ w. Tells true (Within first count left) w (passed first (count + n) ∷ others)) all found)
  find-more false ends octets more others few h ahead t =
      let n = passed_in false octets in
      let rest = drop n octets ++ more in
      let none : passed_in ends rest ≡ 0 = place-first (may_begin ends) rest (good-stays ends (drop n octets) more h) in
      let same : passed_in ends (octets ++ more) ≡ n = passed-longer ends octets more ∙ ap (λ m. n + m) none ∙ omega arith in
      finds-at ends (octets ++ more) n (count + n) rest others same few refl (drop-append-le n octets more (place-within (may_begin false) octets)) (by ends (good-stays true (drop n octets) more h)) t
    where
      by : (e : Bool) → may_begin true (drop (passed_in false octets) octets ++ more) ≡ true → is_found e (drop (passed_in false octets) octets ++ more) ≡ true
      by true k = refl
      by false k = k

  none-more : (ends later_ends : Bool) (octets more : List ℕ) (others : List Entry) → left ≤ passed_in ends octets → IsAhead ends more later_ends
      → Tells later_ends (Reading (first + (count + left))) (drop left octets ++ more) others → Tells later_ends (Within first count left) (octets ++ more) others
  none-more true later_ends octets more others many ahead t =
      let at : Place = Reading (first + (count + left)) in
      let come : Tells later_ends at (drop left octets) others = subst (λ w. Tells later_ends at w others) (append-nil (drop left octets)) (subst (λ m. Tells later_ends at (drop left octets ++ m) others) ahead.0 t) in
      let none = finds_none true first count left octets others many (subst (λ e. Tells e at (drop left octets) others) ahead.1 come) in
      let all : octets ≡ octets ++ more = sym (append-nil octets) ∙ ap (λ m. octets ++ m) (sym ahead.0) in
      subst (λ e. Tells e (Within first count left) (octets ++ more) others) (sym ahead.1) (subst (λ w. Tells true (Within first count left) w others) all none)
  none-more false ends octets more others many ahead t =
      let longer = passed-longer ends octets more in
      let within = place-within (may_begin false) octets in
      let behind : drop left (octets ++ more) ≡ drop left octets ++ more = drop-append-le left octets more (omega (arith, many, within)) in
      finds_none ends first count left (octets ++ more) others (omega (arith, many, longer)) (subst (λ w. Tells ends (Reading (first + (count + left))) w others) (sym behind) t)

  -- ---- the same, at the octets as the search leaves them

  module _ (form : Form) (ends : Bool) (octets : List ℕ) (n : ℕ) (rest : List ℕ) (behind : rest ≡ drop n octets) where
    pub within-waits-at : (old : List ℕ) → n ≡ passed_in ends octets → n < left → is_found ends rest ≡ false → AddsSteps form ends (Within first count left) octets (Within first (count + n) (left - n)) rest true old old true
    within-waits-at old is few h =
        let same : rest ≡ drop (passed_in ends octets) octets = behind ∙ ap (λ m. drop m octets) is in
        subst (λ m. AddsSteps form ends (Within first count left) octets (Within first (count + m) (left - m)) rest true old old true) (sym is)
        (subst (λ w. AddsSteps form ends (Within first count left) octets (Within first (count + passed_in ends octets) (left - passed_in ends octets)) w true old old true) (sym same) (within-waits form ends octets old (omega (arith, is, few)) (ap (is_found ends) (sym same) ∙ h)))

    pub within-finds : (old new : List ℕ) → n ≡ passed_in ends octets → n < left → is_found ends rest ≡ true → new ≡ old ++ entry_text form (passed first (count + n))
        → AddsSteps form ends (Within first count left) octets (Reading (first + (count + n))) rest false old new false
    within-finds old new is few h added =
        let p = passed_in ends octets in
        let same : rest ≡ drop p octets = behind ∙ ap (λ m. drop m octets) is in
        let low : p < left = omega (arith, is, few) in
        let over : is_found ends (drop p octets) ≡ true = ap (is_found ends) (sym same) ∙ h in
        let entry = passed first (count + p) in
        let steps : AddsSteps form ends (Within first count left) octets (Reading (first + (count + p))) (drop p octets) false old new false = record {
          made = entry ∷ [];
          leads = record { goes = λ more later_ends others ahead t. find-more ends later_ends octets more others low over ahead t; over = λ o. absurd cc };
          added = added ∙ ap (λ m. old ++ entry_text form (passed first (count + m))) is ∙ ap (λ t. old ++ t) (sym (text-alone form entry));
          verdict = refl;
        } in
        subst (λ m. AddsSteps form ends (Within first count left) octets (Reading (first + (count + m))) rest false old new false) (sym is)
        (subst (λ w. AddsSteps form ends (Within first count left) octets (Reading (first + (count + p))) w false old new false) (sym same) steps)

    pub within-none : (old : List ℕ) → n ≡ left → left ≤ passed_in ends octets → AddsSteps form ends (Within first count left) octets (Reading (first + (count + n))) rest false old old true
    within-none old is many =
        let steps : AddsSteps form ends (Within first count left) octets (Reading (first + (count + left))) (drop left octets) false old old true = record {
          made = [];
          leads = record { goes = λ more later_ends others ahead t. none-more ends later_ends octets more others many ahead t; over = λ o. absurd cc };
          added = sym (append-nil old);
          verdict = refl;
        } in
        subst (λ m. AddsSteps form ends (Within first count left) octets (Reading (first + (count + m))) rest false old old true) (sym is)
        (subst (λ w. AddsSteps form ends (Within first count left) octets (Reading (first + (count + left))) w false old old true) (sym (behind ∙ ap (λ m. drop m octets) is)) steps)
