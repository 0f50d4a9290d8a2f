-- What an octet makes of what reading gives: the tag, the end and the length.
use Rattle.std.proofs.Common.{◌≡◌, ◌≢◌, ℕ, zero, suc, ◌+◌, ◌-◌, ◌<◌, ◌≤◌, Bool, true, false, not, cond, eqb, bit_and, List, [], ◌∷◌, length, take, drop, Option, Some, Ok, Err, Result, refl, sym, ap, ◌∙◌, ◌⊎◌, inl, inr, arith}
use Rattle.std.proofs.lemmas.Bool.{lt-ltb, le-ltb, ne_eqb, eq-eqb}
use Rattle.ber_core.specs.declared.fault.BerFault.{BerFault}
use Rattle.ber_core.specs.declared.fault.BerFault.TheVariants.{Short, BadTag}
use Rattle.ber_core.specs.Results.{◌>>=◌}
use Rattle.ber_core.specs.HeadReading.{further_at, all_further_at, tag_at, length_at, head_at}
use Rattle.ber_core.specs.ElementReading.{end_at, end_or, contents_by, contents_at, after_at, inner_at, body_by}
use Rattle.ber_core.specs.declared.scanner.Scanner.{Scanner}
use Rattle.ber_core.specs.Scanning.{Leads, outer_at, at_tag, at_element, at_end, at_body, at_length, behind_further}
use Rattle.ber_core.proofs.ResultSteps.{read, refused}
use Rattle.ber_core.proofs.ElementGrammar.{after_takes, IsElement-longer}
use Rattle.ber_core.proofs.Contents.{turn, after_at-is, HeadRead}
use Rattle.ber_core.proofs.FaultAgain.{end_at-nonzero}

abbrev After : Type 0
After = Result (List ℕ) BerFault

-- ---- contents, whatever the fuel

bind-same : (r : After) (f g : List ℕ → After) → ((rest : List ℕ) → r ≡ Ok rest → f rest ≡ g rest) → (r >>= f) ≡ (r >>= g)
bind-same (Ok rest) f g same = same rest refl
bind-same (Err e) f g same = refl

end-same : (r : Result (Option (List ℕ)) BerFault) (x y : After) → x ≡ y → (r >>= end_or x) ≡ (r >>= end_or y)
end-same r x y e = ap (λ (w : After). r >>= end_or w) e

none-left : (depth n : ℕ) (bytes : List ℕ) → length bytes ≡ 0 → contents_by (after_at depth) n bytes ≡ Err Short
unfolding contents_by end_at
none-left depth zero bytes e = refl
none-left depth (suc n) [] e = refl
none-left depth (suc n) (b ∷ bytes) e = absurd (omega arith)

contents-enough : (depth n m : ℕ) (bytes : List ℕ) → length bytes ≤ n → length bytes ≤ m → contents_by (after_at depth) n bytes ≡ contents_by (after_at depth) m bytes
unfolding contents_by
contents-enough depth zero m bytes p q = none-left depth zero bytes (omega arith) ∙ sym (none-left depth m bytes (omega arith))
contents-enough depth (suc n) zero bytes p q = none-left depth (suc n) bytes (omega arith) ∙ sym (none-left depth zero bytes (omega arith))
contents-enough depth (suc n) (suc m) bytes p q =
    end-same (end_at bytes) (after_at depth bytes >>= contents_by (after_at depth) n) (after_at depth bytes >>= contents_by (after_at depth) m)
    (bind-same (after_at depth bytes) (contents_by (after_at depth) n) (contents_by (after_at depth) m) (λ rest is.
    let f = after_takes depth bytes rest is in
    let lt : length rest < length bytes = IsElement-longer depth f.0 rest bytes f.1 f.2 in
    contents-enough depth n m rest (omega arith) (omega arith)))

-- the contents go on behind one element, or end
pub contents_at-turn : (depth : ℕ) (bytes : List ℕ) → contents_at depth bytes ≡ (end_at bytes >>= end_or (after_at depth bytes >>= contents_at depth))
contents_at-turn depth bytes =
    turn (after_at depth) (length bytes) bytes (omega arith)
    ∙ end-same (end_at bytes) (after_at depth bytes >>= contents_by (after_at depth) (length bytes - 1)) (after_at depth bytes >>= contents_at depth)
    (bind-same (after_at depth bytes) (contents_by (after_at depth) (length bytes - 1)) (contents_at depth) (λ rest is.
    let f = after_takes depth bytes rest is in
    let lt : length rest < length bytes = IsElement-longer depth f.0 rest bytes f.1 f.2 in
    contents-enough depth (length bytes - 1) (length rest) rest (omega arith) (omega arith)))

-- ---- a tag, or an end

pub outer-none : (n : ℕ) (rest : List ℕ) → n ≡ 0 → read {E = BerFault} rest ≡ outer_at n rest
unfolding outer_at
outer-none n rest e = rw e refl

pub tag-nested : (n : ℕ) (rest : List ℕ) → (n ≡ 0 → ⊥) → at_tag n rest ≡ outer_at n rest
tag-nested zero rest h = absurd (h refl)
tag-nested (suc n) rest h = refl

pub bind-none : (r : After) → r ≡ (r >>= outer_at 0)
unfolding outer_at
bind-none (Ok rest) = refl
bind-none (Err e) = refl

bind-assoc : (r : After) (f g : List ℕ → After) → ((r >>= f) >>= g) ≡ (r >>= (λ rest. f rest >>= g))
bind-assoc (Ok rest) f g = refl
bind-assoc (Err e) f g = refl

-- no end stands here
pub tag-element : (n b : ℕ) (rest : List ℕ) → (n ≡ 0) ⊎ (b ≢ 0) → at_tag n (b ∷ rest) ≡ at_element n (b ∷ rest)
unfolding outer_at
tag-element zero b rest h = bind-none (after_at 32 (b ∷ rest))
tag-element (suc n) b rest (inl h) = absurd (omega arith)
tag-element (suc n) b rest (inr h) =
    let depth = 32 - suc n in
    rw (contents_at-turn depth (b ∷ rest), end_at-nonzero b rest h) (bind-assoc (after_at depth (b ∷ rest)) (contents_at depth) (outer_at n))

end-cond : (t : Bool) (n : ℕ) (rest : List ℕ) (more : After) → ((cond t (read (Some rest)) (refused BadTag) >>= end_or more) >>= outer_at n) ≡ cond t (outer_at n rest) (Err BadTag)
end-cond true n rest more = refl
end-cond false n rest more = refl

-- an end begins
pub tag-end : (n : ℕ) (rest : List ℕ) → 0 < n → at_tag n (0 ∷ rest) ≡ at_end n rest
unfolding outer_at end_at
tag-end zero rest h = absurd (omega arith)
tag-end (suc n) [] h = rw (contents_at-turn (32 - suc n) (0 ∷ [])) refl
tag-end (suc n) (b ∷ rest) h =
    let e : suc n - 1 ≡ n = omega arith in
    rw (contents_at-turn (32 - suc n) (0 ∷ b ∷ rest), e) (end-cond (eqb b 0) n rest (after_at (32 - suc n) (0 ∷ b ∷ rest) >>= contents_at (32 - suc n)))

-- ---- a tag

pub element-zero : (n : ℕ) (rest : List ℕ) → at_element n (0 ∷ rest) ≡ Err BadTag
unfolding head_at tag_at
element-zero n rest = rw (after_at-is (32 - n) (0 ∷ rest)) refl

abbrev Length : Type 0
Length = Result (Option ℕ × List ℕ) BerFault

abbrev headed : List ℕ → Bool → Option ℕ × List ℕ → Result HeadRead BerFault
headed tag c l = Ok (tag, c, l.0, l.1)

length-head : (r : Length) (tag : List ℕ) (c : Bool) (n : ℕ) → (((r >>= headed tag c) >>= (λ h. body_by (inner_at (32 - n)) h.2 h.3)) >>= outer_at n) ≡ (r >>= at_body n)
length-head (Ok l) tag c n = refl
length-head (Err f) tag c n = refl

pub element-short_tag : (n b : ℕ) (rest : List ℕ) → b ≢ 0 → bit_and b 31 ≢ 31 → at_element n (b ∷ rest) ≡ at_length (not (eqb (bit_and b 32) 0)) n rest
unfolding head_at tag_at
element-short_tag n b rest h low =
    rw (after_at-is (32 - n) (b ∷ rest), ne_eqb b 0 h, ne_eqb (bit_and b 31) 31 low) (length-head (length_at (not (eqb (bit_and b 32) 0)) rest) (b ∷ []) (not (eqb (bit_and b 32) 0)) n)

abbrev tagged : ℕ → List ℕ → ℕ → Result (List ℕ × List ℕ) BerFault
tagged b rest k = Ok (take (1 + k) (b ∷ rest), drop (1 + k) (b ∷ rest))

abbrev constructs : List ℕ → Bool
constructs tag = Rattle.ber_core.specs.Tag.is_constructor tag

further-head : (r : Result ℕ BerFault) (b n : ℕ) (rest : List ℕ) → ((((r >>= tagged b rest) >>= (λ t. length_at (constructs t.0) t.1 >>= headed t.0 (constructs t.0))) >>= (λ h. body_by (inner_at (32 - n)) h.2 h.3)) >>= outer_at n) ≡ behind_further (not (eqb (bit_and b 32) 0)) n rest r
further-head (Ok k) b n rest =
    let e : 1 + k ≡ suc k = omega arith in
    rw e (length-head (length_at (not (eqb (bit_and b 32) 0)) (drop k rest)) (b ∷ take k rest) (not (eqb (bit_and b 32) 0)) n)
further-head (Err f) b n rest = refl

pub element-long_tag : (n b : ℕ) (rest : List ℕ) → b ≢ 0 → bit_and b 31 ≡ 31 → at_element n (b ∷ rest) ≡ behind_further (not (eqb (bit_and b 32) 0)) n rest (all_further_at rest)
unfolding head_at tag_at
element-long_tag n b rest h low =
    rw (after_at-is (32 - n) (b ∷ rest), ne_eqb b 0 h, eq-eqb (bit_and b 31) 31 low) (further-head (all_further_at rest) b n rest)

pub further-last : (c : Bool) (n left b : ℕ) (rest : List ℕ) → 0 < left → b < 128 → behind_further c n (b ∷ rest) (further_at left (b ∷ rest)) ≡ at_length c n rest
unfolding further_at
further-last c n zero b rest h low = absurd (omega arith)
further-last c n (suc left) b rest h low = rw (lt-ltb b 128 low) refl

pub further-spent : (c : Bool) (n left b : ℕ) (rest : List ℕ) → left ≡ 1 → 128 ≤ b → behind_further c n (b ∷ rest) (further_at left (b ∷ rest)) ≡ Err BadTag
unfolding further_at
further-spent c n left b rest e high = rw (e, le-ltb b 128 high) refl

further-one : (c : Bool) (n b : ℕ) (rest : List ℕ) (r : Result ℕ BerFault) → behind_further c n (b ∷ rest) (r >>= (λ k. read (1 + k))) ≡ behind_further c n rest r
further-one c n b rest (Ok k) = let e : 1 + k ≡ suc k = omega arith in rw e refl
further-one c n b rest (Err f) = refl

pub further-more : (c : Bool) (n left b : ℕ) (rest : List ℕ) → 0 < left → 128 ≤ b → behind_further c n (b ∷ rest) (further_at left (b ∷ rest)) ≡ behind_further c n rest (further_at (left - 1) rest)
unfolding further_at
further-more c n zero b rest h high = absurd (omega arith)
further-more c n (suc left) b rest h high =
    let e : suc left - 1 ≡ left = omega arith in
    rw (le-ltb b 128 high, e) (further-one c n b rest (further_at left rest))

-- ---- what an octet leads to

pub leads_as : (f g : List ℕ → After) (r : Result (Option Scanner) BerFault) → ((rest : List ℕ) → f rest ≡ g rest) → Leads f r → Leads g r
leads_as f g (Ok s) same on = λ rest. on rest ∙ same rest
leads_as f g (Err e) same on = (on.0, λ rest. sym (same rest) ∙ on.1 rest)
