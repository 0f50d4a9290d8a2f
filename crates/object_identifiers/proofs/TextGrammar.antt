-- Dotted texts: what is read is the text, and the other way round.
use Rattle.std.proofs.Common.{inl, inr, ◌≡◌, ◌⊎◌, ℕ, ◌+◌, ◌-◌, ◌*◌, ◌/◌, ◌%◌, ◌<◌, ◌≤◌, Bool, true, false, cond, ltb, leb, eqb, List, [], ◌∷◌, ◌++◌, length, length-append, refl, sym, ap, ◌∙◌, arith, append_assoc, Option, Some, None, Result, Ok, Err}
use Rattle.std.specs.Prelude.{◌&&◌}
use Rattle.std.specs.Fmt.{decimal}
use Rattle.std.proofs.lemmas.Bool.{cases_Bool, lt-ltb, le-ltb, le-leb, ltb-false, leb-true, ne_eqb, eqb-true, eqb-false}
use Rattle.std.proofs.lemmas.List.{append-nil}
use Rattle.std.proofs.lemmas.Fmt.{decimal_by_steps, decimal_step, decimal_digit}
use Rattle.object_identifiers.specs.Arcs.{dotted_text, number_limit}
use Rattle.object_identifiers.specs.TextReading.{arcs_from, with_arc, character_after, digit_after}
use Rattle.ber_core.specs.Results.{◌>>=◌}
use Rattle.ber_core.proofs.CallerLemmas.{bind_read, guard_read, chosen_by}
use Rattle.object_identifiers.proofs.OctetGrammar.{AreSmall}

at_stop : (arcs more text : List ℕ) (n : ℕ) → with_arc arcs (Some n) ≡ Ok more → arcs_from arcs (Some n) (46 ∷ text) ≡ arcs_from more None text
unfolding arcs_from
at_stop arcs more text n w = rw w refl

at_digit : (arcs text : List ℕ) (number : Option ℕ) (d m : ℕ) → d < 10 → digit_after number d ≡ Ok m → arcs_from arcs number ((48 + d) ∷ text) ≡ arcs_from arcs (Some m) text
unfolding arcs_from
at_digit arcs text number d m lt w =
    let is : 48 + d - 48 ≡ d = omega arith in
    rw (ne_eqb (48 + d) 46 (λ same. omega (arith, same)), le-leb 48 (48 + d) (omega arith), le-leb (48 + d) 57 (omega arith), is, w) refl

at_end : (arcs : List ℕ) (n : ℕ) → arcs_from arcs (Some n) [] ≡ with_arc arcs (Some n)
unfolding arcs_from
at_end arcs n = refl

digit_more : (n d : ℕ) → 0 < n → n * 10 + d ≤ number_limit → digit_after (Some n) d ≡ Ok (n * 10 + d)
digit_more n d some small = rw (ne_eqb n 0 (λ is. omega (arith, is, some)), le-ltb number_limit (n * 10 + d) small) refl

room_for : (arcs : List ℕ) (n : ℕ) → length arcs < 256 → with_arc arcs (Some n) ≡ Ok (arcs ++ (n ∷ []))
room_for arcs n few = rw (lt-ltb (length arcs) 256 few) refl

-- ---- a number's digits lead to it

abbrev LeadsTo : ℕ → List ℕ → Type 0
LeadsTo n digits = n ≤ number_limit → (arcs rest : List ℕ) → arcs_from arcs None (digits ++ rest) ≡ arcs_from arcs (Some n) rest

leads_one : (n : ℕ) → n < 10 → LeadsTo n ((48 + n) ∷ [])
leads_one n lt small arcs rest = at_digit arcs rest None n n lt refl

leads_more : (n : ℕ) (ds : List ℕ) → 10 ≤ n → LeadsTo (n / 10) ds → LeadsTo n (ds ++ ((48 + n % 10) ∷ []))
leads_more n ds long before small arcs rest =
    let last = at_digit arcs rest (Some (n / 10)) (n % 10) (n / 10 * 10 + n % 10) (omega arith) (digit_more (n / 10) (n % 10) (omega arith) (omega arith)) in
    let whole : n / 10 * 10 + n % 10 ≡ n = omega arith in
    ap (arcs_from arcs None) (append_assoc ds ((48 + n % 10) ∷ []) rest)
    ∙ (before (omega arith) arcs ((48 + n % 10) ∷ rest)
    ∙ (last ∙ ap (λ (m : ℕ). arcs_from arcs (Some m) rest) whole))

digits_lead : (n : ℕ) → n ≤ number_limit → (arcs rest : List ℕ) → arcs_from arcs None (decimal n ++ rest) ≡ arcs_from arcs (Some n) rest
digits_lead n small = decimal_by_steps LeadsTo leads_one leads_more n (omega arith) small

pub text_read : (x : ℕ) (more arcs : List ℕ) → AreSmall (x ∷ more) → length arcs + length (x ∷ more) ≤ 256 → arcs_from arcs None (dotted_text (x ∷ more)) ≡ Ok (arcs ++ (x ∷ more))
text_read x [] arcs small few =
    ap (arcs_from arcs None) (sym (append-nil (decimal x)))
    ∙ (digits_lead x small.0 arcs [] ∙ (at_end arcs x ∙ room_for arcs x (omega (arith, few))))
text_read x (y ∷ more) arcs small few =
    let fewer : length (arcs ++ (x ∷ [])) + length (y ∷ more) ≤ 256 = omega (arith, few, length-append arcs (x ∷ [])) in
    digits_lead x small.0 arcs (46 ∷ dotted_text (y ∷ more))
    ∙ (at_stop arcs (arcs ++ (x ∷ [])) (dotted_text (y ∷ more)) x (room_for arcs x (omega (arith, few)))
    ∙ (text_read y more (arcs ++ (x ∷ [])) small.1 fewer
    ∙ ap (λ (w : List ℕ). Ok w) (append_assoc arcs (x ∷ []) (y ∷ more))))

-- ---- what was read is the text

-- the arcs behind those so far, of which this is the text
pub record Spelled (arcs whole text : List ℕ) : Type 0 where
  pub first : ℕ
  pub more : List ℕ
  pub is_whole : whole ≡ arcs ++ (first ∷ more)
  pub is_text : text ≡ dotted_text (first ∷ more)
  pub are_small : AreSmall (first ∷ more)

with_takes : (arcs whole : List ℕ) (n : ℕ) → with_arc arcs (Some n) ≡ Ok whole → whole ≡ arcs ++ (n ∷ [])
with_takes arcs whole n e = elim (cases_Bool (ltb (length arcs) 256)) [
  | inl few ↦ let e = e in let h = (rw few at e) in cc
  | inr many ↦ let e = e in absurd (let bad = (rw many at e) in cc)
]

-- the parts of a step at a character that is a digit
pub record Digit (n c m : ℕ) : Type 0 where
  pub some : 0 < n
  pub is : m ≡ n * 10 + (c - 48)
  pub low : 48 ≤ c
  pub high : c ≤ 57
  pub small : m ≤ number_limit

and_true : (a b : Bool) → (a && b) ≡ true → (a ≡ true) × (b ≡ true)
and_true true true e = (refl, refl)
and_true true false e = absurd cc
and_true false true e = absurd cc
and_true false false e = absurd cc

passed : {A E : Type 0} (b : Bool) (r : Result A E) (d : E) (y : A) → cond b r (Err d) ≡ Ok y → (b ≡ true) × (r ≡ Ok y)
passed true r d y e = (refl, e)
passed false r d y e = absurd cc

more_takes : (n d m : ℕ) → digit_after (Some n) d ≡ Ok m → (0 < n) × (m ≡ n * 10 + d) × (m ≤ number_limit)
more_takes n d m e =
    let g = guard_read (eqb n 0) _ _ m e in
    let h = guard_read (ltb number_limit (n * 10 + d)) _ _ m g.1 in
    let is : n * 10 + d ≡ m = (let e = h.1 in cc) in
    let below = ltb-false number_limit (n * 10 + d) h.0 in
    (omega (arith, eqb-false n 0 g.0), sym is, omega (arith, below, is))

digit_takes : (n c m : ℕ) → character_after (Some n) c ≡ Ok m → Digit n c m
digit_takes n c m e =
    let p = passed (leb 48 c && leb c 57) (digit_after (Some n) (c - 48)) _ m e in
    let both = and_true (leb 48 c) (leb c 57) p.0 in
    let t = more_takes n (c - 48) m p.1 in
    record { some = t.0; is = t.1; low = leb-true 48 c both.0; high = leb-true c 57 both.1; small = t.2 }

first_takes : (c m : ℕ) → character_after None c ≡ Ok m → (c ≡ 48 + m) × (m < 10)
first_takes c m e =
    let p = passed (leb 48 c && leb c 57) (digit_after None (c - 48)) _ m e in
    let both = and_true (leb 48 c) (leb c 57) p.0 in
    let is : c - 48 ≡ m = (let e = p.1 in cc) in
    let low = leb-true 48 c both.0 in
    let high = leb-true c 57 both.1 in
    (omega (arith, low, is), omega (arith, low, high, is))

digit_added : (n c m : ℕ) → Digit n c m → decimal m ≡ decimal n ++ (c ∷ [])
digit_added n c m h =
    let above : m / 10 ≡ n = omega (arith, h.is, h.low, h.high) in
    let last : 48 + m % 10 ≡ c = omega (arith, h.is, h.low, h.high) in
    decimal_step m (omega (arith, h.is, h.some)) (omega (arith, h.small))
    ∙ (ap (λ (k : ℕ). decimal k ++ ((48 + m % 10) ∷ [])) above ∙ ap (λ (d : ℕ). decimal n ++ (d ∷ [])) last)

cut_some : (arcs text whole : List ℕ) (n c : ℕ) → arcs_from arcs (Some n) (c ∷ text) ≡ Ok whole
    → ((c ≡ 46) × (arcs_from (arcs ++ (n ∷ [])) None text ≡ Ok whole)) ⊎ ((m : ℕ) × Digit n c m × (arcs_from arcs (Some m) text ≡ Ok whole))
unfolding arcs_from
cut_some arcs text whole n c e = elim (chosen_by (eqb c 46) (with_arc arcs (Some n) >>= (λ more. arcs_from more None text)) (character_after (Some n) c >>= (λ m. arcs_from arcs (Some m) text)) (Ok whole) e) [
  | inl stop ↦
      let b = bind_read (with_arc arcs (Some n)) (λ more. arcs_from more None text) whole stop.1 in
      let w = with_takes arcs b.0 n b.1 in
      let rest = b.2 in
      inl (eqb-true c 46 stop.0, ap (λ (a : List ℕ). arcs_from a None text) (sym w) ∙ rest)
  | inr other ↦
      let b = bind_read (character_after (Some n) c) (λ m. arcs_from arcs (Some m) text) whole other.1 in
      inr (b.0, digit_takes n c b.0 b.1, b.2)
]

cut_none : (arcs text whole : List ℕ) (c : ℕ) → arcs_from arcs None (c ∷ text) ≡ Ok whole
    → (m : ℕ) × (c ≡ 48 + m) × (m < 10) × (arcs_from arcs (Some m) text ≡ Ok whole)
unfolding arcs_from
cut_none arcs text whole c e = elim (chosen_by (eqb c 46) (with_arc arcs None >>= (λ more. arcs_from more None text)) (character_after None c >>= (λ m. arcs_from arcs (Some m) text)) (Ok whole) e) [
  | inl stop ↦ absurd (let bad = stop.1 in cc)
  | inr other ↦
      let b = bind_read (character_after None c) (λ m. arcs_from arcs (Some m) text) whole other.1 in
      let f = first_takes c b.0 b.1 in
      (b.0, f.0, f.1, b.2)
]

none_ends : (arcs whole : List ℕ) → arcs_from arcs None [] ≡ Ok whole → ⊥
unfolding arcs_from
none_ends arcs whole e = cc

mutual
  some_takes : (text arcs whole : List ℕ) (n : ℕ) → n ≤ number_limit → arcs_from arcs (Some n) text ≡ Ok whole → Spelled arcs whole (decimal n ++ text)
  some_takes [] arcs whole n small e = record {
    first = n;
    more = [];
    is_whole = with_takes arcs whole n (sym (at_end arcs n) ∙ e);
    is_text = append-nil (decimal n);
    are_small = (small, tt);
  }
  some_takes (c ∷ text) arcs whole n small e = elim (cut_some arcs text whole n c e) [
    | inl stop ↦
        let r = none_takes text (arcs ++ (n ∷ [])) whole stop.1 in
        record {
          first = n;
          more = r.first ∷ r.more;
          is_whole = r.is_whole ∙ append_assoc arcs (n ∷ []) (r.first ∷ r.more);
          is_text = ap (λ (d : ℕ). decimal n ++ (d ∷ text)) stop.0 ∙ ap (λ (w : List ℕ). decimal n ++ (46 ∷ w)) r.is_text;
          are_small = (small, r.are_small);
        }
    | inr digit ↦
        let r = some_takes text arcs whole digit.0 digit.1.small digit.2 in
        let same : decimal digit.0 ++ text ≡ decimal n ++ (c ∷ text) =
        ap (λ (w : List ℕ). w ++ text) (digit_added n c digit.0 digit.1) ∙ append_assoc (decimal n) (c ∷ []) text in
        record { first = r.first; more = r.more; is_whole = r.is_whole; is_text = sym same ∙ r.is_text; are_small = r.are_small }
  ]

  none_takes : (text arcs whole : List ℕ) → arcs_from arcs None text ≡ Ok whole → Spelled arcs whole text
  none_takes [] arcs whole e = absurd (none_ends arcs whole e)
  none_takes (c ∷ text) arcs whole e =
      let d = cut_none arcs text whole c e in
      let r = some_takes text arcs whole d.0 (omega (arith, d.2)) d.3 in
      let same : decimal d.0 ++ text ≡ c ∷ text =
      ap (λ (w : List ℕ). w ++ text) (decimal_digit d.0 d.2) ∙ ap (λ (k : ℕ). k ∷ text) (sym d.1) in
      record { first = r.first; more = r.more; is_whole = r.is_whole; is_text = sym same ∙ r.is_text; are_small = r.are_small }

pub text_takes : (text whole : List ℕ) → arcs_from [] None text ≡ Ok whole → Spelled [] whole text
text_takes text whole e = none_takes text [] whole e
