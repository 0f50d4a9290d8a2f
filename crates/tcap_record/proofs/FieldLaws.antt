-- What is read of a field is its octets, they are read again, and where reading stops: of the fields of one part.
use Rattle.std.proofs.Common.{◌≡◌, ℕ, suc, ◌+◌, ◌-◌, ◌<◌, ◌≤◌, Bool, true, false, cond, List, [], ◌∷◌, ◌++◌, length, take, drop, Option, Some, None, Result, Ok, Err, refl, sym, ap, subst, ◌∙◌, append_assoc, arith, ltb}
use Rattle.std.specs.Prelude.{IsTrue, nat_lt}
use Rattle.std.specs.Int.{Width, byte_len, from_be_bytes, to_be_bytes}
use Rattle.std.proofs.lemmas.Bool.{ltb-true, ltb-false, lt-ltb, le-ltb}
use Rattle.std.proofs.lemmas.List.{append-nil, take-append-drop, length-append, length-take-le, take_at, drop_at}
use Rattle.ber_core.specs.Results.{◌>>=◌}
use Rattle.tcap_record.specs.Fields.{Reading, number_at, told, named_at, taken_at, counted, counted_at}
use Rattle.tcap_record.proofs.OctetLemmas.{AreOctets, IsWide, octets_cut, octets_append, zeros, zeros_length, zeros_octets, both_true}

-- ---- steps

pub bind_ok : {A B : Type 0} (r : Result A ℕ) (f : A → Result B ℕ) (y : B) → (r >>= f) ≡ Ok y → (x : A) × (r ≡ Ok x) × (f x ≡ Ok y)
bind_ok (Ok x) f y e = (x, refl, e)
bind_ok (Err d) f y e = absurd cc

-- Reading stops at the first step or behind it.
pub data Stopped {A B : Type 0} (r : Result A ℕ) (f : A → Result B ℕ) (left : ℕ) : Type 0 where
  first : r ≡ Err left → Stopped r f left
  then : (x : A) → r ≡ Ok x → f x ≡ Err left → Stopped r f left

pub bind_err : {A B : Type 0} (r : Result A ℕ) (f : A → Result B ℕ) (left : ℕ) → (r >>= f) ≡ Err left → Stopped r f left
bind_err (Ok x) f left e = Stopped.then x refl e
bind_err (Err d) f left e = Stopped.first cc

abbrev pub done : {A : Type 0} → A → Result A ℕ
done x = Ok x

abbrev pub read : {A : Type 0} → A → List ℕ → Reading A
read x rest = Ok (x, rest)

pub ok_is : {A : Type 0} (x y : A) → done x ≡ done y → x ≡ y
ok_is x y e = cc

pub not_both : {A C : Type 0} (x : A) (n : ℕ) (r : Result A ℕ) → r ≡ Ok x → r ≡ Err n → C
not_both x n r e f = absurd cc

pub guard_ok : {A : Type 0} (b : Bool) (n : ℕ) (x y : A) → cond b (Err n) (Ok x) ≡ Ok y → (b ≡ false) × (x ≡ y)
guard_ok true n x y e = absurd cc
guard_ok false n x y e = (refl, cc)

pub guard_err : {A : Type 0} (b : Bool) (n left : ℕ) (x : A) → cond b (Err n) (done x) ≡ Err left → (b ≡ true) × (left ≡ n)
guard_err true n left x e = (refl, cc)
guard_err false n left x e = absurd cc

-- ---- what is said of a field

-- What was read from the front.
pub record Takes {X : Type 0} (fits : X → Type 0) (octets : X → List ℕ) (bytes : List ℕ) (x : X) (rest : List ℕ) : Type 0 where
  pub parts : bytes ≡ octets x ++ rest
  pub fit : fits x
  pub rest_octets : AreOctets rest

-- Some value's octets begin so.
pub record Begun {X : Type 0} (fits : X → Type 0) (octets : X → List ℕ) (front : List ℕ) : Type 0 where
  pub value : X
  pub more : List ℕ
  pub fit : fits value
  pub is : octets value ≡ front ++ more

-- Where reading stops: the octets before it begin a value's, and whatever follows the octet that stands there, reading
-- stops there.
pub record Stops {X : Type 0} (fits : X → Type 0) (octets : X → List ℕ) (at : List ℕ → Reading X) (bytes : List ℕ) (left : ℕ) : Type 0 where
  pub front : List ℕ
  pub rest : List ℕ
  pub parts : bytes ≡ front ++ rest
  pub is_left : left ≡ length rest
  pub begun : Begun fits octets front
  pub stays : (b : ℕ) (more other : List ℕ) → rest ≡ b ∷ more → at (front ++ (b ∷ other)) ≡ Err (suc (length other))

-- The laws of a field.
pub record IsField {X : Type 0} (fits : X → Type 0) (octets : X → List ℕ) (at : List ℕ → Reading X) : Type 0 where
  pub takes : (bytes : List ℕ) (x : X) (rest : List ℕ) → AreOctets bytes → at bytes ≡ Ok (x, rest) → Takes fits octets bytes x rest
  pub again : (x : X) (rest : List ℕ) → fits x → at (octets x ++ rest) ≡ Ok (x, rest)
  pub stops : (bytes : List ℕ) (left : ℕ) → AreOctets bytes → at bytes ≡ Err left → Stops fits octets at bytes left
  pub some : X
  pub some_fit : fits some

-- ---- numbers

number_takes : (w : Width) (limit : ℕ) → IsWide w limit → (bytes : List ℕ) (n : ℕ) (rest : List ℕ) → AreOctets bytes
    → number_at w bytes ≡ Ok (n, rest) → Takes (λ (m : ℕ). IsTrue (nat_lt m limit)) (to_be_bytes w) bytes n rest
number_takes w limit wide bytes n rest are e =
    let g = guard_ok (ltb (length bytes) (byte_len w)) 0 (from_be_bytes w (take (byte_len w) bytes), drop (byte_len w) bytes) (n, rest) e in
    let cut = octets_cut (byte_len w) bytes are in
    let long : byte_len w ≤ length bytes = ltb-false _ _ g.0 in
    let same : to_be_bytes w (from_be_bytes w (take (byte_len w) bytes)) ≡ take (byte_len w) bytes = wide.back (take (byte_len w) bytes) (length-take-le (byte_len w) bytes long) cut.0 in
    let t : Takes (λ (m : ℕ). IsTrue (nat_lt m limit)) (to_be_bytes w) bytes (from_be_bytes w (take (byte_len w) bytes)) (drop (byte_len w) bytes) = record {
      parts = sym (take-append-drop (byte_len w) bytes) ∙ ap (λ (xs : List ℕ). xs ++ drop (byte_len w) bytes) (sym same);
      fit = lt-ltb _ limit (wide.below (take (byte_len w) bytes) cut.0);
      rest_octets = cut.1;
    } in
    subst (λ (p : ℕ × List ℕ). Takes (λ (m : ℕ). IsTrue (nat_lt m limit)) (to_be_bytes w) bytes p.0 p.1) g.1 t

number_again : (w : Width) (limit : ℕ) → IsWide w limit → (n : ℕ) (rest : List ℕ) → IsTrue (nat_lt n limit) → number_at w (to_be_bytes w n ++ rest) ≡ Ok (n, rest)
number_again w limit wide n rest lt =
    let long : ltb (length (to_be_bytes w n ++ rest)) (byte_len w) ≡ false = le-ltb _ _ (omega (arith, length-append (to_be_bytes w n) rest, wide.len n)) in
    rw (long, take_at (to_be_bytes w n) rest (byte_len w) (wide.len n), drop_at (to_be_bytes w n) rest (byte_len w) (wide.len n), wide.again n (ltb-true n limit lt)) refl

number_stops : (w : Width) (limit : ℕ) → IsWide w limit → (bytes : List ℕ) (left : ℕ) → AreOctets bytes
    → number_at w bytes ≡ Err left → Stops (λ (m : ℕ). IsTrue (nat_lt m limit)) (to_be_bytes w) (number_at w) bytes left
number_stops w limit wide bytes left are e =
    let g = guard_err (ltb (length bytes) (byte_len w)) 0 left (from_be_bytes w (take (byte_len w) bytes), drop (byte_len w) bytes) e in
    let short : length bytes < byte_len w = ltb-true _ _ g.0 in
    let more = zeros (byte_len w - length bytes) in
    let len : length (bytes ++ more) ≡ byte_len w = length-append bytes more ∙ ap (λ (k : ℕ). length bytes + k) (zeros_length (byte_len w - length bytes)) ∙ omega (arith, short) in
    let whole = octets_append bytes more are (zeros_octets (byte_len w - length bytes)) in
    record {
      front = bytes;
      rest = [];
      parts = sym (append-nil bytes);
      is_left = g.1;
      begun = record { value = from_be_bytes w (bytes ++ more); more = more; fit = lt-ltb _ limit (wide.below (bytes ++ more) whole); is = wide.back (bytes ++ more) len whole };
      stays = λ b m other h. absurd cc;
    }

pub number_field : (w : Width) (limit : ℕ) → IsWide w limit → IsTrue (nat_lt 0 limit) → IsField (λ (n : ℕ). IsTrue (nat_lt n limit)) (to_be_bytes w) (number_at w)
number_field w limit wide positive = record {
  takes = λ bytes n rest are e. number_takes w limit wide bytes n rest are e;
  again = λ n rest lt. number_again w limit wide n rest lt;
  stops = λ bytes left are e. number_stops w limit wide bytes left are e;
  some = 0;
  some_fit = positive;
}

-- ---- one octet that stands for a value

-- The octets and the values name one another.
pub record IsNaming {X : Type 0} (fits : X → Type 0) (octet : X → ℕ) (name : ℕ → Option X) : Type 0 where
  pub found : (b : ℕ) (x : X) → b < 256 → name b ≡ Some x → (octet x ≡ b) × fits x
  pub named : (x : X) → fits x → name (octet x) ≡ Some x
  pub one : X
  pub one_fits : fits one

told_ok : {X : Type 0} (o : Option X) (rest : List ℕ) (x : X) (after : List ℕ) → told o rest ≡ Ok (x, after) → (o ≡ Some x) × (rest ≡ after)
told_ok None rest x after e = absurd cc
told_ok (Some y) rest x after e = let p = ok_is (y, rest) (x, after) e in (ap (λ (q : _ × List ℕ). Some q.0) p, ap (λ (q : _ × List ℕ). q.1) p)

told_err : {X : Type 0} (o : Option X) (rest : List ℕ) (left : ℕ) → told o rest ≡ Err left → (o ≡ None) × (left ≡ suc (length rest))
told_err None rest left e = (refl, cc)
told_err (Some y) rest left e = absurd cc

pub named_takes : {X : Type 0} (fits : X → Type 0) (octet : X → ℕ) (name : ℕ → Option X) → IsNaming fits octet name → (bytes : List ℕ) (x : X) (rest : List ℕ)
    → AreOctets bytes → named_at name bytes ≡ Ok (x, rest) → Takes fits (λ (y : X). octet y ∷ []) bytes x rest
named_takes fits octet name naming [] x rest are e = absurd cc
named_takes fits octet name naming (b ∷ bytes) x rest are e =
    let p = told_ok (name b) bytes x rest e in
    let both = both_true (nat_lt b 256) _ are in
    let f = naming.found b x (ltb-true b 256 both.0) p.0 in
    record {
      parts = ap (λ (c : ℕ). c ∷ bytes) (sym f.0) ∙ ap (λ (xs : List ℕ). octet x ∷ xs) p.1;
      fit = f.1;
      rest_octets = subst AreOctets p.1 both.1;
    }

pub named_stops : {X : Type 0} (fits : X → Type 0) (octet : X → ℕ) (name : ℕ → Option X) → IsNaming fits octet name → (bytes : List ℕ) (left : ℕ)
    → named_at name bytes ≡ Err left → Stops fits (λ (y : X). octet y ∷ []) (named_at name) bytes left
named_stops fits octet name naming [] left e = record {
  front = [];
  rest = [];
  parts = refl;
  is_left = cc;
  begun = record { value = naming.one; more = octet naming.one ∷ []; fit = naming.one_fits; is = refl };
  stays = λ b m other h. absurd cc;
}
named_stops fits octet name naming (b ∷ bytes) left e =
    let p = told_err (name b) bytes left e in
    record {
      front = [];
      rest = b ∷ bytes;
      parts = refl;
      is_left = p.1;
      begun = record { value = naming.one; more = octet naming.one ∷ []; fit = naming.one_fits; is = refl };
      stays = λ c m other h. let same : b ≡ c = cc in subst (λ (k : ℕ). told (name k) other ≡ Err (suc (length other))) same (rw p.0 refl);
    }

pub named_field : {X : Type 0} (fits : X → Type 0) (octet : X → ℕ) (name : ℕ → Option X) → IsNaming fits octet name
    → IsField fits (λ (y : X). octet y ∷ []) (named_at name)
named_field fits octet name naming = record {
  takes = λ bytes x rest are e. named_takes fits octet name naming bytes x rest are e;
  again = λ x rest fit. rw (naming.named x fit) refl;
  stops = λ bytes left are e. named_stops fits octet name naming bytes left e;
  some = naming.one;
  some_fit = naming.one_fits;
}

-- ---- octets behind their number

taken_takes : (n : ℕ) (bytes text rest : List ℕ) → AreOctets bytes → taken_at n bytes ≡ Ok (text, rest)
    → (bytes ≡ text ++ rest) × (length text ≡ n) × AreOctets text × AreOctets rest
taken_takes n bytes text rest are e =
    let g = guard_ok (ltb (length bytes) n) 0 (take n bytes, drop n bytes) (text, rest) e in
    let long : n ≤ length bytes = ltb-false _ _ g.0 in
    let cut = octets_cut n bytes are in
    subst (λ (p : List ℕ × List ℕ). (bytes ≡ p.0 ++ p.1) × (length p.0 ≡ n) × AreOctets p.0 × AreOctets p.1) g.1
    (sym (take-append-drop n bytes), length-take-le n bytes long, cut.0, cut.1)

taken_again : (text rest : List ℕ) → taken_at (length text) (text ++ rest) ≡ Ok (text, rest)
taken_again text rest =
    let long : ltb (length (text ++ rest)) (length text) ≡ false = le-ltb _ _ (omega (arith, length-append text rest)) in
    rw (long, take_at text rest (length text) refl, drop_at text rest (length text) refl) refl

-- The octets are octets, and their number is one.
abbrev pub CountedFits : (ℕ → Type 0) → List ℕ → Type 0
CountedFits fits octets = AreOctets octets × fits (length octets)

counted_takes : (fits : ℕ → Type 0) (count : ℕ → List ℕ) (count_at : List ℕ → Reading ℕ) → IsField fits count count_at
    → (bytes text rest : List ℕ) → AreOctets bytes → counted_at count_at bytes ≡ Ok (text, rest) → Takes (CountedFits fits) (counted count) bytes text rest
counted_takes fits count count_at field bytes text rest are e =
    let b = bind_ok (count_at bytes) (λ n. taken_at n.0 n.1) (text, rest) e in
    let first = field.takes bytes b.0.0 b.0.1 are b.1 in
    let second = taken_takes b.0.0 b.0.1 text rest first.rest_octets b.2 in
    record {
      parts = first.parts ∙ ap (λ (xs : List ℕ). count b.0.0 ++ xs) second.0 ∙ ap (λ (n : ℕ). count n ++ (text ++ rest)) (sym second.1) ∙ sym (append_assoc (count (length text)) text rest);
      fit = (second.2, subst fits (sym second.1) first.fit);
      rest_octets = second.3;
    }

counted_again : (fits : ℕ → Type 0) (count : ℕ → List ℕ) (count_at : List ℕ → Reading ℕ) → IsField fits count count_at
    → (text rest : List ℕ) → CountedFits fits text → counted_at count_at (counted count text ++ rest) ≡ Ok (text, rest)
counted_again fits count count_at field text rest fit =
    ap (counted_at count_at) (append_assoc (count (length text)) text rest) ∙ rw (field.again (length text) (text ++ rest) fit.1) (taken_again text rest)

counted_stops : (fits : ℕ → Type 0) (count : ℕ → List ℕ) (count_at : List ℕ → Reading ℕ) → IsField fits count count_at → fits 0
    → (bytes : List ℕ) (left : ℕ) → AreOctets bytes → counted_at count_at bytes ≡ Err left → Stops (CountedFits fits) (counted count) (counted_at count_at) bytes left
counted_stops fits count count_at field none bytes left are e =
    elim (bind_err (count_at bytes) (λ n. taken_at n.0 n.1) left e) [
      | Stopped.first h ↦
          let s = field.stops bytes left are h in
          let n = s.begun.value in
          record {
            front = s.front;
            rest = s.rest;
            parts = s.parts;
            is_left = s.is_left;
            begun = record {
              value = zeros n;
              more = s.begun.more ++ zeros n;
              fit = (zeros_octets n, subst fits (sym (zeros_length n)) s.begun.fit);
              is = ap (λ (k : ℕ). count k ++ zeros n) (zeros_length n) ∙ ap (λ (xs : List ℕ). xs ++ zeros n) s.begun.is ∙ append_assoc s.front s.begun.more (zeros n);
            };
            stays = λ b more other h. rw (s.stays b more other h) refl;
          }
      | Stopped.then n h f ↦
          let t = field.takes bytes n.0 n.1 are h in
          let g = guard_err (ltb (length n.1) n.0) 0 left (take n.0 n.1, drop n.0 n.1) f in
          let short : length n.1 < n.0 = ltb-true _ _ g.0 in
          let more = zeros (n.0 - length n.1) in
          let len : length (n.1 ++ more) ≡ n.0 = length-append n.1 more ∙ ap (λ (k : ℕ). length n.1 + k) (zeros_length (n.0 - length n.1)) ∙ omega (arith, short) in
          record {
            front = bytes;
            rest = [];
            parts = sym (append-nil bytes);
            is_left = g.1;
            begun = record {
              value = n.1 ++ more;
              more = more;
              fit = (octets_append n.1 more t.rest_octets (zeros_octets (n.0 - length n.1)), subst fits (sym len) t.fit);
              is = ap (λ (k : ℕ). count k ++ (n.1 ++ more)) len ∙ sym (append_assoc (count n.0) n.1 more) ∙ ap (λ (xs : List ℕ). xs ++ more) (sym t.parts);
            };
            stays = λ b m other h. absurd cc;
          }
    ]

pub counted_field : (fits : ℕ → Type 0) (count : ℕ → List ℕ) (count_at : List ℕ → Reading ℕ) → IsField fits count count_at → fits 0
    → IsField (CountedFits fits) (counted count) (counted_at count_at)
counted_field fits count count_at field none = record {
  takes = λ bytes text rest are e. counted_takes fits count count_at field bytes text rest are e;
  again = λ text rest fit. counted_again fits count count_at field text rest fit;
  stops = λ bytes left are e. counted_stops fits count count_at field none bytes left are e;
  some = [];
  some_fit = (refl, none);
}
