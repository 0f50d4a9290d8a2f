-- Steps of a stream that goes on behind its faults.
use Rattle.std.proofs.Common.{◌≡◌, ◌≤◌, ◌<◌, ◌+◌, ◌-◌, ◌++◌, ◌∙◌, ◌∷◌, ◌&&◌, ℕ, Bool, true, false, List, [], length, drop, Option, Some, None, refl, sym, ap, subst, arith, append_assoc, append-nil}
use Rattle.std.proofs.lemmas.Bool.{lt-ltb}
use Rattle.std.proofs.lemmas.List.{drop-append-le, length-append, take-append-le}
use Rattle.ber_core.proofs.CallerLemmas.{cut-faulty}
use Rattle.ber_core.specs.declared.fault.FeedFault.{FeedFault}
use Rattle.ber_core.specs.declared.fault.FeedFault.TheVariants.{OutOfMemory, Ber, TooLong}
use Rattle.ber_core.specs.Stream.{Cut, cut_into, cut_of}
use Rattle.tcap_judging.proofs.EntryLists.{good-alone, good-more, text-alone, text-append}
use Rattle.tcap_judging.proofs.ResyncCuts.{first-longer, good-stays, passed-behind, passed-longer, place-again, place-first, place-within}
use Rattle.tcap_judging.specs.Entry.{Entry, broken, judged_by, message, passed}
use Rattle.tcap_judging.specs.EntryText.{entries_text, entry_text, is_good_entry}
use Rattle.tcap_judging.specs.Resync.{Tells, first_of, is_found, is_known, judged_of, may_begin, passed_in}
use Rattle.tcap_judging.specs.Resync.Tells.{stays, faults, reads, doubts, searches, finds}
use Rattle.tcap_judging.specs.ResyncSteps.{AddsSteps, IsAhead, Leads}
use Rattle.tcap_words.specs.Show.{show_is_good}
use Rattle.tcap_judging.specs.Form.{Form}
use Rattle.tcap_judging.specs.declared.place.Place.{Place}
use Rattle.tcap_judging.specs.declared.place.Place.TheVariants.{Reading, Searching, Within}

-- ---- what is known of octets at which no message begins stays known

record IsStillKnown (ends : Bool) (rest more : List ℕ) (fault : Option FeedFault) : Type 0 where
  later : Option FeedFault
  is_cut : cut_of (rest ++ more) ≡ cut_into [] (rest ++ more) later
  is_known_so : is_known ends (rest ++ more) later ≡ true
  is_judged : judged_of (rest ++ more) later ≡ judged_of rest fault

below : (why : FeedFault) → judged_by why ≤ 65536
below OutOfMemory = omega arith
below (Ber why) = omega arith
below TooLong = omega arith

known-filled : (ends : Bool) (rest : List ℕ) (fault : Option FeedFault) → is_known ends rest fault ≡ true → 0 < length rest
known-filled true rest fault k = grind (arith, k)
known-filled false rest None k = absurd cc
known-filled false rest (Some why) k = grind (arith, k)

still-known : (ends later_ends : Bool) (rest more : List ℕ) (fault : Option FeedFault) → cut_of rest ≡ cut_into [] rest fault → is_known ends rest fault ≡ true → IsAhead ends more later_ends → IsStillKnown later_ends rest more fault
still-known true later_ends rest more fault is k ahead =
    let same = sym (append-nil rest) in
    subst (λ e. IsStillKnown e rest more fault) (sym ahead.1) (subst (λ m. IsStillKnown true rest m fault) (sym ahead.0) (record {
      later = fault;
      is_cut = subst (λ r. cut_of r ≡ cut_into [] r fault) same is;
      is_known_so = subst (λ r. is_known true r fault ≡ true) same k;
      is_judged = ap (λ r. judged_of r fault) (append-nil rest);
    }))
still-known false later_ends rest more None is k ahead = absurd cc
still-known false later_ends rest more (Some why) is k ahead =
    let many : 65535 < length rest = grind (arith, k) in
    let longer : length (rest ++ more) ≡ length rest + length more = length-append rest more in
    record {
      later = Some why;
      is_cut = cut-faulty rest more why (ap (λ (c : Cut). c.fault) is) ∙ ap (λ (c : Cut). cut_into c.messages (c.rest ++ more) (Some why)) is;
      is_known_so = by later_ends (omega (arith, many, longer));
      is_judged = let low = below why in take-append-le (judged_by why) rest more (omega (arith, low, many));
    }
  where
    by : (later_ends : Bool) → 65535 < length (rest ++ more) → is_known later_ends (rest ++ more) (Some why) ≡ true
    by true h = lt-ltb 0 (length (rest ++ more)) (omega (arith, h))
    by false h = lt-ltb 65535 (length (rest ++ more)) h

-- ---- steps

-- no step yet
pub no-steps : (form : Form) (ends : Bool) (place : Place) (octets old : List ℕ) → AddsSteps form ends place octets place octets false old old true
no-steps form ends place octets old = record {
  made = [];
  leads = record { goes = λ more later_ends others ahead t. t; over = λ o. absurd cc };
  added = sym (append-nil old);
  verdict = refl;
}

pub leads-then : (ends : Bool) (place mid last : Place) (octets rest left : List ℕ) (made more : List Entry) (over : Bool) → Leads ends place octets made mid rest false → Leads ends mid rest more last left over → Leads ends place octets (made ++ more) last left over
leads-then ends place mid last octets rest left made more over one two = record {
  goes = λ come later_ends others ahead t. subst (Tells later_ends place (octets ++ come)) (sym (append_assoc made more others)) (one.goes come later_ends (more ++ others) ahead (two.goes come later_ends others ahead t));
  over = two.over;
}

-- one more
pub steps-then : (form : Form) (ends : Bool) (place mid last : Place) (octets rest left old was new : List ℕ) (good judged over : Bool) → AddsSteps form ends place octets mid rest false old was good → AddsSteps form ends mid rest last left over was new judged → AddsSteps form ends place octets last left over old new (good && judged)
steps-then form ends place mid last octets rest left old was new good judged over one two = record {
  made = one.made ++ two.made;
  leads = leads-then ends place mid last octets rest left one.made two.made over one.leads two.leads;
  added = two.added ∙ ap (λ t. t ++ entries_text form two.made) one.added ∙ append_assoc old (entries_text form one.made) (entries_text form two.made) ∙ ap (λ t. old ++ t) (sym (text-append form one.made two.made));
  verdict = good-more one.made two.made good judged one.verdict two.verdict;
}

-- ---- the first message

module _ (form : Form) (ends : Bool) (offset : ℕ) (octets m : List ℕ) (is_first : first_of (cut_of octets).messages ≡ Some m) (filled : 0 < length m) (within : length m ≤ length octets) where
  reads-lead : show_is_good m ≡ true → Leads ends (Reading offset) octets (message offset m ∷ []) (Reading (offset + length m)) (drop (length m) octets) false
  reads-lead good = record {
    goes = λ more later_ends others ahead t.
        let behind : drop (length m) (octets ++ more) ≡ drop (length m) octets ++ more = drop-append-le (length m) octets more within in
        reads later_ends offset (octets ++ more) m others (first-longer octets more m is_first) good (subst (λ w. Tells later_ends (Reading (offset + length m)) w others) (sym behind) t);
    over = λ o. absurd cc;
  }

  doubts-lead : show_is_good m ≡ false → Leads ends (Reading offset) octets (message offset m ∷ []) (Within offset 1 (length m - 1)) (drop 1 octets) false
  doubts-lead bad = record {
    goes = λ more later_ends others ahead t.
        let behind : drop 1 (octets ++ more) ≡ drop 1 octets ++ more = drop-append-le 1 octets more (omega (arith, filled, within)) in
        doubts later_ends offset (octets ++ more) m others (first-longer octets more m is_first) bad (subst (λ w. Tells later_ends (Within offset 1 (length m - 1)) w others) (sym behind) t);
    over = λ o. absurd cc;
  }

  first-told : (later : Place) (rest left old new : List ℕ) (good : Bool) → left ≡ rest → new ≡ old ++ entry_text form (message offset m) → good ≡ show_is_good m → Leads ends (Reading offset) octets (message offset m ∷ []) later rest false → AddsSteps form ends (Reading offset) octets later left false old new good
  first-told later rest left old new good is_left added judged leads = subst (λ w. AddsSteps form ends (Reading offset) octets later w false old new good) (sym is_left) (record {
    made = message offset m ∷ [];
    leads = leads;
    added = added ∙ ap (λ t. old ++ t) (sym (text-alone form (message offset m)));
    verdict = judged ∙ sym (good-alone (message offset m));
  })

  -- it is good
  pub first-reads : (left old new : List ℕ) → left ≡ drop (length m) octets → new ≡ old ++ entry_text form (message offset m) → true ≡ show_is_good m → AddsSteps form ends (Reading offset) octets (Reading (offset + length m)) left false old new true
  first-reads left old new is_left added good = first-told (Reading (offset + length m)) (drop (length m) octets) left old new true is_left added good (reads-lead (sym good))

  -- it isn't
  pub first-doubts : (left old new : List ℕ) → left ≡ drop 1 octets → new ≡ old ++ entry_text form (message offset m) → false ≡ show_is_good m → AddsSteps form ends (Reading offset) octets (Within offset 1 (length m - 1)) left false old new false
  first-doubts left old new is_left added bad = first-told (Within offset 1 (length m - 1)) (drop 1 octets) left old new false is_left added bad (doubts-lead (sym bad))

-- ---- no message

module _ (form : Form) (ends : Bool) (offset : ℕ) (octets : List ℕ) (fault : Option FeedFault) (is_cut : cut_of octets ≡ cut_into [] octets fault) where
  -- no more is known
  pub none-stays : (old : List ℕ) → is_known ends octets fault ≡ false → AddsSteps form ends (Reading offset) octets (Reading offset) octets true old old true
  none-stays old unknown = record {
    made = [];
    leads = record { goes = λ more later_ends others ahead t. t; over = λ o. stays ends offset octets fault is_cut unknown };
    added = sym (append-nil old);
    verdict = refl;
  }

  fault-leads : is_known ends octets fault ≡ true → Leads ends (Reading offset) octets (broken offset (judged_of octets fault) ∷ []) (Searching offset 1) (drop 1 octets) false
  fault-leads known = record {
    goes = λ more later_ends others ahead t.
        let still = still-known ends later_ends octets more fault is_cut known ahead in
        let filled = known-filled ends octets fault known in
        let behind : drop 1 (octets ++ more) ≡ drop 1 octets ++ more = drop-append-le 1 octets more (omega (arith, filled)) in
        let told = faults later_ends offset (octets ++ more) still.later others still.is_cut still.is_known_so (subst (λ w. Tells later_ends (Searching offset 1) w others) (sym behind) t) in
        subst (λ e. Tells later_ends (Reading offset) (octets ++ more) (e ∷ others)) (ap (broken offset) still.is_judged) told;
    over = λ o. absurd cc;
  }

  -- a fault is told
  pub none-faults : (left old new : List ℕ) (judged : Bool) → left ≡ drop 1 octets → is_known ends octets fault ≡ true → new ≡ old ++ entry_text form (broken offset (judged_of octets fault)) → judged ≡ is_good_entry (broken offset (judged_of octets fault)) → AddsSteps form ends (Reading offset) octets (Searching offset 1) left false old new judged
  none-faults left old new judged is_left known added judges =
      let entry = broken offset (judged_of octets fault) in
      subst (λ w. AddsSteps form ends (Reading offset) octets (Searching offset 1) w false old new judged) (sym is_left) (record {
        made = entry ∷ [];
        leads = fault-leads known;
        added = added ∙ ap (λ t. old ++ t) (sym (text-alone form entry));
        verdict = judges ∙ sym (good-alone entry);
      })

-- ---- a search

module _ (first count : ℕ) where
  finds-at : (ends : Bool) (octets : List ℕ) (n total : ℕ) (rest : List ℕ) (others : List Entry) → passed_in ends octets ≡ n → count + n ≡ total → drop n octets ≡ rest → is_found ends rest ≡ true
      → Tells ends (Reading (first + total)) rest others → Tells ends (Searching first count) octets (passed first total ∷ others)
  finds-at ends octets n total rest others is sums left h t =
      let same : drop (passed_in ends octets) octets ≡ rest = ap (λ m. drop m octets) is ∙ left in
      let all : count + passed_in ends octets ≡ total = ap (λ m. count + m) is ∙ sums in
      subst (λ m. Tells ends (Searching first count) octets (passed first m ∷ others)) all
      (finds ends first count octets others (ap (is_found ends) same ∙ h)
      (subst (λ m. Tells ends (Reading (first + m)) (drop (passed_in ends octets) octets) others) (sym all) (subst (λ w. Tells ends (Reading (first + total)) w others) (sym same) t)))

  -- as more octets come
  search-more : (ends : Bool) (octets more : List ℕ) (others : List Entry) → Tells ends (Searching first (count + passed_in false octets)) (drop (passed_in false octets) octets ++ more) others → Tells ends (Searching first count) (octets ++ more) others
  search-more ends octets more _ (searches _ _ _ _ h) = searches ends first count (octets ++ more) (ap (is_found ends) (passed-behind ends octets more) ∙ h)
  search-more ends octets more _ (finds _ _ _ _ es h deeper) =
      let p = passed_in false octets in
      let rest = drop p octets ++ more in
      let q = passed_in ends rest in
      let sums : count + (p + q) ≡ (count + p) + q = omega arith in
      finds-at ends (octets ++ more) (p + q) ((count + p) + q) (drop q rest) es (passed-longer ends octets more) sums (sym (ap (λ n. drop n (octets ++ more)) (passed-longer ends octets more)) ∙ passed-behind ends octets more) h deeper

  -- it goes on
  search-waits : (form : Form) (ends : Bool) (octets old : List ℕ) → is_found ends (drop (passed_in ends octets) octets) ≡ false
      → AddsSteps form ends (Searching first count) octets (Searching first (count + passed_in ends octets)) (drop (passed_in ends octets) octets) true old old true
  search-waits form true octets old h = absurd cc
  search-waits form false octets old h =
      let n = passed_in false octets in
      let again : passed_in false (drop n octets) ≡ 0 = place-again (may_begin false) octets in
      record {
        made = [];
        leads = record {
          goes = λ more later_ends others ahead t. search-more later_ends octets more others t;
          over = λ o. searches false first (count + n) (drop n octets) (ap (λ m. is_found false (drop m (drop n octets))) again ∙ h);
        };
        added = sym (append-nil old);
        verdict = refl;
      }

  find-more : (ends later_ends : Bool) (octets more : List ℕ) (others : List Entry) → is_found ends (drop (passed_in ends octets) octets) ≡ true → IsAhead ends more later_ends
      → Tells later_ends (Reading (first + (count + passed_in ends octets))) (drop (passed_in ends octets) octets ++ more) others → Tells later_ends (Searching first count) (octets ++ more) (passed first (count + passed_in ends octets) ∷ others)
  find-more true later_ends octets more others h ahead t =
      let n = passed_in true octets in
      let at : Place = Reading (first + (count + n)) in
      let come : Tells later_ends at (drop n octets) others = subst (λ w. Tells later_ends at w others) (append-nil (drop n octets)) (subst (λ m. Tells later_ends at (drop n octets ++ m) others) ahead.0 t) in
      let found = finds true first count octets others h (subst (λ e. Tells e at (drop n octets) others) ahead.1 come) in
      let all : octets ≡ octets ++ more = sym (append-nil octets) ∙ ap (λ m. octets ++ m) (sym ahead.0) in
      subst (λ e. Tells e (Searching first count) (octets ++ more) (passed first (count + n) ∷ others)) (sym ahead.1) (subst (λ w. Tells true (Searching first count) w (passed first (count + n) ∷ others)) all found)
  find-more false ends octets more others h ahead t =
      let n = passed_in false octets in
      let rest = drop n octets ++ more in
      let none : passed_in ends rest ≡ 0 = place-first (may_begin ends) rest (good-stays ends (drop n octets) more h) in
      let same : passed_in ends (octets ++ more) ≡ n = passed-longer ends octets more ∙ ap (λ m. n + m) none ∙ omega arith in
      finds-at ends (octets ++ more) n (count + n) rest others same refl (drop-append-le n octets more (place-within (may_begin false) octets)) (by ends (good-stays true (drop n octets) more h)) t
    where
      by : (e : Bool) → may_begin true (drop (passed_in false octets) octets ++ more) ≡ true → is_found e (drop (passed_in false octets) octets ++ more) ≡ true
      by true k = refl
      by false k = k

  -- it is over
  search-finds : (form : Form) (ends : Bool) (octets old new : List ℕ) → is_found ends (drop (passed_in ends octets) octets) ≡ true → new ≡ old ++ entry_text form (passed first (count + passed_in ends octets))
      → AddsSteps form ends (Searching first count) octets (Reading (first + (count + passed_in ends octets))) (drop (passed_in ends octets) octets) false old new false
  search-finds form ends octets old new h added =
      let entry = passed first (count + passed_in ends octets) in
      record {
        made = entry ∷ [];
        leads = record { goes = λ more later_ends others ahead t. find-more ends later_ends octets more others h ahead t; over = λ o. absurd cc };
        added = added ∙ ap (λ t. old ++ t) (sym (text-alone form entry));
        verdict = refl;
      }

  -- the same, at the octets as the search leaves them
  pub waits-at : (form : Form) (ends : Bool) (octets old : List ℕ) (n : ℕ) (rest : List ℕ) → n ≡ passed_in ends octets → rest ≡ drop n octets → is_found ends rest ≡ false
      → AddsSteps form ends (Searching first count) octets (Searching first (count + n)) rest true old old true
  waits-at form ends octets old n rest is left h =
      let same : rest ≡ drop (passed_in ends octets) octets = left ∙ ap (λ m. drop m octets) is in
      subst (λ m. AddsSteps form ends (Searching first count) octets (Searching first (count + m)) rest true old old true) (sym is)
      (subst (λ w. AddsSteps form ends (Searching first count) octets (Searching first (count + passed_in ends octets)) w true old old true) (sym same) (search-waits form ends octets old (ap (is_found ends) (sym same) ∙ h)))

  pub finds-left : (form : Form) (ends : Bool) (octets old new : List ℕ) (n : ℕ) (rest : List ℕ) → n ≡ passed_in ends octets → rest ≡ drop n octets → is_found ends rest ≡ true → new ≡ old ++ entry_text form (passed first (count + n))
      → AddsSteps form ends (Searching first count) octets (Reading (first + (count + n))) rest false old new false
  finds-left form ends octets old new n rest is left h added =
      let same : rest ≡ drop (passed_in ends octets) octets = left ∙ ap (λ m. drop m octets) is in
      subst (λ m. AddsSteps form ends (Searching first count) octets (Reading (first + (count + m))) rest false old new false) (sym is)
      (subst (λ w. AddsSteps form ends (Searching first count) octets (Reading (first + (count + passed_in ends octets))) w false old new false) (sym same)
      (search-finds form ends octets old new (ap (is_found ends) (sym same) ∙ h) (added ∙ ap (λ m. old ++ entry_text form (passed first (count + m))) is)))
