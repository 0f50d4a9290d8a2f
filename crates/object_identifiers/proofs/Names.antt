-- What a text names, and the octets that it names.
use Rattle.std.proofs.Common.{inl, inr, ◌≡◌, ◌≢◌, ℕ, ◌+◌, ◌-◌, ◌*◌, ◌/◌, ◌<◌, ◌≤◌, true, false, ltb, List, [], ◌∷◌, ◌++◌, length, length-append, get_or, suc, map, refl, sym, ap, subst, ◌∙◌, arith, Some, Result, Ok}
use Rattle.std.specs.Prelude.{◌&&◌, option_map}
use Rattle.std.specs.List.{flat_map, AllByRecursion}
use Rattle.std.proofs.lemmas.Bool.{cases_Bool, lt-ltb, le-ltb, ltb-true, ltb-false}
use Rattle.ber_core.specs.ObjectIdentifier.{IsSeries, IsSubidentifier, IsObjectIdentifier, is_object_identifier}
use Rattle.ber_core.specs.Results.{◌>>=◌}
use Rattle.ber_core.proofs.CallerLemmas.{bind_read, guard_read, object_identifier_takes, object_identifier_again}
use Rattle.object_identifiers.specs.declared.fault.ObjectIdentifierFault.{ObjectIdentifierFault}
use Rattle.object_identifiers.specs.Arcs.{AreArcs, NamesOctets, SpellsArcs, number_of, number_limit, numbers_of_arcs, dotted_text}
use Rattle.object_identifiers.specs.Contents.{arcs_of_numbers, contents_at, dotted_at, first_arc, first_number_of, fitting, numbers_at, numbers_from, object_identifier_at, subidentifier}
use Rattle.object_identifiers.specs.TextReading.{arcs_at}
use Rattle.object_identifiers.proofs.FittingLemmas.{fits, short_fits}
use Rattle.object_identifiers.proofs.OctetGrammar.{AreOctets, AreSmall, joined, numbers_read, numbers_small, subidentifier-is, subidentifier-number, subidentifier-octets, subidentifier-again}
use Rattle.object_identifiers.proofs.TextGrammar.{text_read, text_takes}

-- ---- arcs and the numbers of subidentifiers

arcs_again : (arcs : List ℕ) → AreArcs arcs → arcs_of_numbers (numbers_of_arcs arcs) ≡ arcs
arcs_again [] h = absurd h
arcs_again (x ∷ []) h = absurd h
arcs_again (x ∷ (y ∷ more)) (inl h) =
    let low : x * 40 + y < 80 = omega (arith, h.0, h.1) in
    let first : (x * 40 + y) / 40 ≡ x = omega (arith, h.1) in
    let is : first_arc (x * 40 + y) ≡ x = rw (lt-ltb (x * 40 + y) 80 low) first in
    let second : x * 40 + y - x * 40 ≡ y = omega arith in
    ap (λ (a : ℕ). a ∷ ((x * 40 + y - a * 40) ∷ more)) is ∙ ap (λ (b : ℕ). x ∷ (b ∷ more)) second
arcs_again (x ∷ (y ∷ more)) (inr h) =
    let high : 80 ≤ x * 40 + y = omega (arith, h) in
    let is : first_arc (x * 40 + y) ≡ x = rw (le-ltb (x * 40 + y) 80 high) (sym h) in
    let second : x * 40 + y - x * 40 ≡ y = omega arith in
    ap (λ (a : ℕ). a ∷ ((x * 40 + y - a * 40) ∷ more)) is ∙ ap (λ (b : ℕ). x ∷ (b ∷ more)) second

arcs_are : (n : ℕ) (more : List ℕ) → AreArcs (arcs_of_numbers (n ∷ more))
arcs_are n more = elim (cases_Bool (ltb n 80)) [
  | inl low ↦
      let below = ltb-true n 80 low in
      let is : first_arc n ≡ n / 40 = rw low refl in
      inl (omega (arith, is, below), omega (arith, is, below))
  | inr high ↦ inr (rw high refl)
]

first_within : (n : ℕ) → first_arc n * 40 ≤ n
first_within n = elim (cases_Bool (ltb n 80)) [
  | inl low ↦
      let is : first_arc n ≡ n / 40 = rw low refl in
      omega (arith, is)
  | inr high ↦
      let is : first_arc n ≡ 2 = rw high refl in
      omega (arith, is, ltb-false n 80 high)
]

numbers_again : (n : ℕ) (more : List ℕ) → numbers_of_arcs (arcs_of_numbers (n ∷ more)) ≡ n ∷ more
numbers_again n more =
    let within = first_within n in
    let whole : first_arc n * 40 + (n - first_arc n * 40) ≡ n = omega (arith, within) in
    ap (λ (m : ℕ). m ∷ more) whole

-- ---- subidentifiers of numbers

joined-map : (ns : List ℕ) → flat_map subidentifier ns ≡ joined (map subidentifier ns)
joined-map [] = refl
joined-map (n ∷ ns) = ap (λ (w : List ℕ). subidentifier n ++ w) (joined-map ns)

each_is : (ns : List ℕ) → AllByRecursion IsSubidentifier (map subidentifier ns)
each_is [] = tt
each_is (n ∷ ns) = (subidentifier-is n, each_is ns)

numbers-are : (ns : List ℕ) → map number_of (map subidentifier ns) ≡ ns
numbers-are [] = refl
numbers-are (n ∷ ns) = ap (λ (m : ℕ). m ∷ map number_of (map subidentifier ns)) (subidentifier-number n) ∙ ap (λ (w : List ℕ). n ∷ w) (numbers-are ns)

octets_joined : (s t : List ℕ) → AreOctets s → AreOctets t → AreOctets (s ++ t)
octets_joined [] t hs ht = ht
octets_joined (b ∷ s) t hs ht = (hs.0, octets_joined s t hs.1 ht)

octets_of : (ns : List ℕ) → AreOctets (flat_map subidentifier ns)
octets_of [] = tt
octets_of (n ∷ ns) = octets_joined (subidentifier n) (flat_map subidentifier ns) (subidentifier-octets n) (octets_of ns)

octets_parted : (s t : List ℕ) → AreOctets (s ++ t) → AreOctets s × AreOctets t
octets_parted [] t h = (tt, h)
octets_parted (b ∷ s) t h = let r = octets_parted s t h.1 in ((h.0, r.0), r.1)

all_again : (ss : List (List ℕ)) → AllByRecursion IsSubidentifier ss → AreOctets (joined ss) → flat_map subidentifier (map number_of ss) ≡ joined ss
all_again [] h bytes = refl
all_again (s ∷ ss) h bytes =
    let p = octets_parted s (joined ss) bytes in
    ap (λ (w : List ℕ). w ++ flat_map subidentifier (map number_of ss)) (subidentifier-again s h.0 p.0)
    ∙ ap (λ (w : List ℕ). s ++ w) (all_again ss h.1 p.1)

series_filled : (s : List ℕ) → IsSeries s → 0 < length s
series_filled [] h = absurd h
series_filled (b ∷ s) h = omega arith

no_more : (ss : List (List ℕ)) → AllByRecursion IsSubidentifier ss → length (map number_of ss) ≤ length (joined ss)
no_more [] h = omega arith
no_more (s ∷ ss) h =
    let one = series_filled s h.0.0 in
    let rest = no_more ss h.1 in
    omega (arith, one, rest, length-append s (joined ss))

some_numbers : (arcs : List ℕ) → AreArcs arcs → numbers_of_arcs arcs ≢ []
some_numbers [] h e = absurd h
some_numbers (x ∷ []) h e = absurd h
some_numbers (x ∷ (y ∷ more)) h e = cc

-- ---- octets that spell arcs are an object identifier

empty_of : (ss : List (List ℕ)) → AllByRecursion IsSubidentifier ss → joined ss ≡ [] → map number_of ss ≡ []
empty_of [] h e = refl
empty_of (s ∷ ss) h e =
    let one = series_filled s h.0.0 in
    absurd (omega (arith, one, length-append s (joined ss), ap length e))

pub arcs-identify : (arcs octets : List ℕ) → SpellsArcs arcs octets → IsObjectIdentifier octets
arcs-identify arcs octets h = record {
  subidentifiers = h.subidentifiers;
  each = h.each;
  is_joined = h.is_joined;
  filled = λ none. some_numbers arcs h.are_arcs (sym h.are_numbers ∙ empty_of h.subidentifiers h.each (sym h.is_joined ∙ none));
  is_short = h.is_short;
}

-- ---- from a text to octets

pub arcs_by : (x y : ℕ) (more : List ℕ) → x ≤ 2 → (ltb x 2 && ltb 39 y) ≡ false → AreArcs (x ∷ (y ∷ more))
arcs_by x y more first tested = elim (cases_Bool (ltb x 2)) [
  | inl low ↦
      let tested = tested in
      let second : ltb 39 y ≡ false = rw low at tested in
      inl (omega (arith, ltb-true x 2 low), ltb-false 39 y second)
  | inr high ↦ inr (omega (arith, first, ltb-false x 2 high))
]

contents_takes : (arcs octets : List ℕ) → contents_at arcs ≡ Ok octets → AreArcs arcs × (octets ≡ flat_map subidentifier (numbers_of_arcs arcs)) × (length octets ≤ 255) × (AreSmall arcs → AreSmall (numbers_of_arcs arcs))
unfolding contents_at
contents_takes [] octets e = absurd cc
contents_takes (x ∷ []) octets e = absurd cc
contents_takes (x ∷ (y ∷ more)) octets e =
    let b = bind_read (first_number_of x y) (λ n. fitting (flat_map subidentifier (n ∷ more))) octets e in
    let g = guard_read (ltb 2 x) _ _ b.0 b.1 in
    let k = guard_read (ltb x 2 && ltb 39 y) _ _ b.0 g.1 in
    let l = guard_read (ltb number_limit (x * 40 + y)) _ _ b.0 k.1 in
    let is : x * 40 + y ≡ b.0 = (let e = l.1 in cc) in
    let f = fits (flat_map subidentifier (b.0 ∷ more)) octets b.2 in
    let first = ltb-false 2 x g.0 in
    let small = ltb-false number_limit (x * 40 + y) l.0 in (
      arcs_by x y more first k.0,
      sym f.0 ∙ ap (λ (n : ℕ). flat_map subidentifier (n ∷ more)) (sym is),
      omega (arith, f.1, ap length f.0),
      λ all. (small, all.1.1),
    )

pub named : (text arcs octets : List ℕ) → arcs_at text ≡ Ok arcs → contents_at arcs ≡ Ok octets → NamesOctets text octets
named text arcs octets read written =
    let t = text_takes text arcs read in
    let c = contents_takes arcs octets written in
    let whole : arcs ≡ t.first ∷ t.more = t.is_whole in
    let small : AreSmall arcs = rw whole t.are_small in
    record {
      arcs = arcs;
      is_text = t.is_text ∙ ap dotted_text (sym whole);
      spelled = record {
        subidentifiers = map subidentifier (numbers_of_arcs arcs);
        each = each_is (numbers_of_arcs arcs);
        is_joined = c.1 ∙ joined-map (numbers_of_arcs arcs);
        are_numbers = numbers-are (numbers_of_arcs arcs);
        are_arcs = c.0;
        are_octets = rw c.1 (octets_of (numbers_of_arcs arcs));
        is_short = c.2;
      };
      are_small = c.3 small;
    }

arcs_small : (arcs : List ℕ) → AreArcs arcs → AreSmall (numbers_of_arcs arcs) → AreSmall arcs
arcs_small [] h small = absurd h
arcs_small (x ∷ []) h small = absurd h
arcs_small (x ∷ (y ∷ more)) h small = (omega (arith, small.0), (omega (arith, small.0), small.1))

length-numbers : (arcs : List ℕ) → AreArcs arcs → length arcs ≡ length (numbers_of_arcs arcs) + 1
length-numbers [] h = absurd h
length-numbers (x ∷ []) h = absurd h
length-numbers (x ∷ (y ∷ more)) h = omega arith

first_number-is : (x y : ℕ) (more : List ℕ) → AreArcs (x ∷ (y ∷ more)) → x * 40 + y ≤ number_limit → first_number_of x y ≡ Ok (x * 40 + y)
first_number-is x y more (inl h) small =
    rw (le-ltb 2 x (omega (arith, h.0)), lt-ltb x 2 (omega (arith, h.0)), le-ltb 39 y h.1, le-ltb number_limit (x * 40 + y) small) refl
first_number-is x y more (inr h) small =
    rw (le-ltb 2 x (omega (arith, h)), le-ltb x 2 (omega (arith, h)), le-ltb number_limit (x * 40 + y) small) refl

contents_again : (arcs : List ℕ) → AreArcs arcs → AreSmall (numbers_of_arcs arcs) → length (flat_map subidentifier (numbers_of_arcs arcs)) ≤ 255 → contents_at arcs ≡ Ok (flat_map subidentifier (numbers_of_arcs arcs))
unfolding contents_at
contents_again [] h small short = absurd h
contents_again (x ∷ []) h small short = absurd h
contents_again (x ∷ (y ∷ more)) h small short =
    ap (λ (r : Result ℕ ObjectIdentifierFault). r >>= (λ n. fitting (flat_map subidentifier (n ∷ more)))) (first_number-is x y more h small.0)
    ∙ short_fits (flat_map subidentifier ((x * 40 + y) ∷ more)) short

arcs_read : (arcs : List ℕ) → AreArcs arcs → AreSmall arcs → length arcs ≤ 256 → arcs_at (dotted_text arcs) ≡ Ok arcs
arcs_read [] h small few = absurd h
arcs_read (x ∷ more) h small few = text_read x more [] small (omega (arith, few))

pub named_again : (text octets : List ℕ) → NamesOctets text octets → object_identifier_at text ≡ Ok octets
named_again text octets h =
    let s = h.spelled in
    let bytes = s.are_octets in
    let octets-are : flat_map subidentifier (numbers_of_arcs h.arcs) ≡ octets =
    ap (flat_map subidentifier) (sym s.are_numbers) ∙ (all_again s.subidentifiers s.each (rw s.is_joined at bytes) ∙ sym s.is_joined) in
    let count = no_more s.subidentifiers s.each in
    let few : length h.arcs ≤ 256 = omega (arith, count, s.is_short, length-numbers h.arcs s.are_arcs, ap length s.is_joined, ap length s.are_numbers) in
    let read : arcs_at text ≡ Ok h.arcs = ap arcs_at h.is_text ∙ arcs_read h.arcs s.are_arcs (arcs_small h.arcs s.are_arcs h.are_small) few in
    let short : length (flat_map subidentifier (numbers_of_arcs h.arcs)) ≤ 255 = omega (arith, s.is_short, ap length octets-are) in
    ap (λ (r : Result (List ℕ) ObjectIdentifierFault). r >>= contents_at) read
    ∙ (contents_again h.arcs s.are_arcs h.are_small short ∙ ap (λ (w : List ℕ). Ok w) octets-are)

-- ---- from octets to a text

pub no_numbers : (ss : List (List ℕ)) → map number_of ss ≡ [] → joined ss ≡ []
no_numbers [] e = refl
no_numbers (s ∷ ss) e = absurd cc

pub by_numbers : (octets ns : List ℕ) (h : IsObjectIdentifier octets) → AreOctets octets → map number_of h.subidentifiers ≡ ns → AreSmall ns → NamesOctets (dotted_text (arcs_of_numbers ns)) octets
by_numbers octets [] h bytes are small = absurd (h.filled (h.is_joined ∙ no_numbers h.subidentifiers are))
by_numbers octets (n ∷ more) h bytes are small = record {
  arcs = arcs_of_numbers (n ∷ more);
  is_text = refl;
  spelled = record {
    subidentifiers = h.subidentifiers;
    each = h.each;
    is_joined = h.is_joined;
    are_numbers = are ∙ sym (numbers_again n more);
    are_arcs = arcs_are n more;
    are_octets = bytes;
    is_short = h.is_short;
  };
  are_small = subst (λ (w : List ℕ). AreSmall w) (sym (numbers_again n more)) small;
}

pub from_identifier : (octets ns : List ℕ) → AreOctets octets → IsObjectIdentifier octets → numbers_from [] 0 octets ≡ Some ns → NamesOctets (dotted_text (arcs_of_numbers ns)) octets
from_identifier octets ns bytes h read =
    let joined-read : numbers_from [] 0 (joined h.subidentifiers) ≡ Some ns = ap (numbers_from [] 0) (sym h.is_joined) ∙ read in
    let small = numbers_small h.subidentifiers [] ns h.each joined-read in
    let are : map number_of h.subidentifiers ≡ ns = (let both = sym (numbers_read h.subidentifiers [] h.each small) ∙ joined-read in cc) in
    by_numbers octets ns h bytes are (rw are at small)

pub numbers_named : (octets ns : List ℕ) → AreOctets octets → numbers_at octets ≡ Some ns → NamesOctets (dotted_text (arcs_of_numbers ns)) octets
unfolding numbers_at
numbers_named octets ns bytes e = elim (cases_Bool (is_object_identifier octets)) [
  | inl is ↦
      let e = e in
      let read : numbers_from [] 0 octets ≡ Some ns = rw is at e in
      from_identifier octets ns bytes (object_identifier_takes octets is) read
  | inr other ↦ let e = e in absurd (let bad = (rw other at e) in cc)
]

pub numbers_of_named : (text octets : List ℕ) (h : NamesOctets text octets) → numbers_at octets ≡ Some (numbers_of_arcs h.arcs)
unfolding numbers_at
numbers_of_named text octets h =
    let s = h.spelled in
    let is : is_object_identifier octets ≡ true = object_identifier_again octets (arcs-identify h.arcs octets s) in
    let small = h.are_small in
    let read : numbers_from [] 0 octets ≡ Some (numbers_of_arcs h.arcs) =
    ap (numbers_from [] 0) s.is_joined ∙ (numbers_read s.subidentifiers [] s.each (rw (← s.are_numbers) at small) ∙ ap (λ (w : List ℕ). Some w) s.are_numbers) in
    rw is read

pub dotted_again : (text octets : List ℕ) → NamesOctets text octets → dotted_at octets ≡ Some text
dotted_again text octets h =
    ap (option_map (λ (numbers : List ℕ). dotted_text (arcs_of_numbers numbers))) (numbers_of_named text octets h)
    ∙ ap (λ (w : List ℕ). Some w) (ap dotted_text (arcs_again h.arcs h.spelled.are_arcs) ∙ sym h.is_text)

-- ---- the octets of a slice

pub octets-are : (octets : List ℕ) → ((i : ℕ) → get_or octets i 0 < 256) → AreOctets octets
octets-are [] h = tt
octets-are (b ∷ octets) h = (h 0, octets-are octets (λ (i : ℕ). h (suc i)))
