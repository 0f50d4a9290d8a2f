-- Where a fault stands, it is told.
use Rattle.std.proofs.Common.{◌≡◌, ◌≢◌, ℕ, zero, suc, ◌+◌, ◌-◌, ◌<◌, ◌≤◌, Bool, true, false, bit_and, List, [], ◌∷◌, ◌++◌, length, get_or, Some, None, Ok, Err, refl, sym, ap, ◌∙◌, arith, append_assoc}
use Rattle.std.specs.List.{AllByRecursion}
use Rattle.std.proofs.lemmas.Bool.{lt-ltb, le-ltb, ne_eqb, eq-eqb}
use Rattle.std.proofs.lemmas.List.{take_at, length-append}
use Rattle.ber_core.specs.declared.fault.BerFault.{BerFault}
use Rattle.ber_core.specs.declared.fault.BerFault.TheVariants.{Short, BadTag, BadLength, IndefinitePrimitive, TooDeep}
use Rattle.ber_core.specs.Tag.{IsTag, is_constructor}
use Rattle.ber_core.specs.Length.{number_after}
use Rattle.ber_core.specs.Element.{Parts, IsElement, joined}
use Rattle.ber_core.specs.Fault.{GoOn, IsLong, HeadFault, ElementFault}
use Rattle.ber_core.specs.Fault.HeadFault.{no_tag, in_tag, no_length, in_length, zero_first, padded, long_tag, reserved, large, primitive}
use Rattle.ber_core.specs.Fault.ElementFault.{in_head, in_content, too_deep, ends, ends_in_end, half_end, inside}
use Rattle.ber_core.specs.HeadReading.{further_at, tag_at, length_at, head_at}
use Rattle.ber_core.specs.ElementReading.{end_at, contents_by, after_at, inner_at}
use Rattle.ber_core.proofs.ResultSteps.{refused_is, not_read}
use Rattle.ber_core.proofs.HeadGrammar.{tag_again, head_again-definite, head_again-indefinite}
use Rattle.ber_core.proofs.ElementGrammar.{after_again, end_at-element, length-joined}
use Rattle.ber_core.proofs.Contents.{after_at-failed, after_at-body, body_at-short}

tag-refused : (bytes rest : List ℕ) (f : BerFault) → tag_at bytes ≡ Err f → head_at bytes ≡ Err f
unfolding head_at
tag-refused bytes rest f e = rw e refl

length-refused : (tag rest : List ℕ) (f : BerFault) → IsTag tag → length_at (is_constructor tag) rest ≡ Err f → head_at (tag ++ rest) ≡ Err f
unfolding head_at
length-refused tag rest f t e = rw (tag_again tag rest t, e) refl

-- further octets that all go on
on-short : (n : ℕ) (further : List ℕ) → GoOn further → length further < n → further_at n further ≡ Err Short
unfolding further_at
on-short zero further on lt = absurd (omega arith)
on-short (suc n) [] on lt = refl
on-short (suc n) (b ∷ further) on lt = rw (le-ltb b 128 on.0, on-short n further on.1 (omega arith)) refl

on-long : (n : ℕ) (further rest : List ℕ) → GoOn further → length further ≡ n → further_at n (further ++ rest) ≡ Err BadTag
unfolding further_at
on-long zero [] rest on e = refl
on-long zero (b ∷ further) rest on e = absurd (omega arith)
on-long (suc n) [] rest on e = absurd (omega arith)
on-long (suc n) (b ∷ further) rest on e = rw (le-ltb b 128 on.0, on-long n further rest on.1 (omega arith)) refl

tag-in_tag : (first : ℕ) (further : List ℕ) → IsLong first → GoOn further → get_or further 0 0 ≢ 128 → length further < 4 → tag_at (first ∷ further) ≡ Err Short
unfolding tag_at
tag-in_tag first further long on other lt = rw (ne_eqb first 0 long.0, eq-eqb (bit_and first 31) 31 long.1, ne_eqb (get_or further 0 0) 128 other, on-short 4 further on lt) refl

tag-long_tag : (first : ℕ) (further rest : List ℕ) → IsLong first → GoOn further → get_or further 0 0 ≢ 128 → length further ≡ 4 → tag_at (first ∷ (further ++ rest)) ≡ Err BadTag
unfolding tag_at
tag-long_tag first [] rest long on other e = absurd (omega arith)
tag-long_tag first (b ∷ further) rest long on other e = rw (ne_eqb first 0 long.0, eq-eqb (bit_and first 31) 31 long.1, ne_eqb b 128 other, on-long 4 (b ∷ further) rest on e) refl

tag-padded : (first : ℕ) (rest : List ℕ) → IsLong first → tag_at (first ∷ 128 ∷ rest) ≡ Err BadTag
unfolding tag_at
tag-padded first rest long = rw (ne_eqb first 0 long.0, eq-eqb (bit_and first 31) 31 long.1) refl

tag-zero : (rest : List ℕ) → tag_at (0 ∷ rest) ≡ Err BadTag
unfolding tag_at
tag-zero rest = refl

tag-none : tag_at [] ≡ Err Short
unfolding tag_at
tag-none = refl

append_none : (xs : List ℕ) → xs ++ [] ≡ xs
append_none [] = refl
append_none (x ∷ xs) = ap (λ (w : List ℕ). x ∷ w) (append_none xs)

length-none : (c : Bool) → length_at c [] ≡ Err Short
unfolding length_at
length-none c = refl

length-reserved : (c : Bool) (rest : List ℕ) → length_at c (255 ∷ rest) ≡ Err BadLength
unfolding length_at
length-reserved c rest = refl

length-primitive : (c : Bool) (rest : List ℕ) → c ≡ false → length_at c (128 ∷ rest) ≡ Err IndefinitePrimitive
unfolding length_at
length-primitive c rest e = rw e refl

length-in_length : (c : Bool) (octets : List ℕ) (b : ℕ) → 128 < b → b ≢ 255 → length octets < b - 128 → length_at c (b ∷ octets) ≡ Err Short
unfolding length_at
length-in_length c octets b above other lt = rw (ne_eqb b 128 (λ e. absurd (omega arith)), ne_eqb b 255 other, le-ltb b 128 (omega arith), lt-ltb (length octets) (b - 128) lt) refl

length-large : (c : Bool) (octets rest : List ℕ) (b : ℕ) → 128 < b → b ≢ 255 → length octets ≡ b - 128 → 65535 < number_after 0 octets → length_at c (b ∷ (octets ++ rest)) ≡ Err BadLength
unfolding length_at
length-large c octets rest b above other e lt =
    rw (ne_eqb b 128 (λ e. absurd (omega arith)), ne_eqb b 255 other, le-ltb b 128 (omega arith), le-ltb (length (octets ++ rest)) (b - 128) (omega (arith, length-append octets rest, e)))
    (rw (take_at octets rest (b - 128) e, lt-ltb 65535 (number_after 0 octets) lt) refl)

pub head_told : (bytes : List ℕ) (f : BerFault) → HeadFault bytes f → head_at bytes ≡ Err f
head_told bytes f (no_tag) = tag-refused [] [] Short tag-none
head_told bytes f (in_tag first further long on other lt) = tag-refused (first ∷ further) [] Short (tag-in_tag first further long on other lt)
head_told bytes f (no_length tag t) = rw (sym (append_none tag)) (length-refused tag [] Short t (length-none (is_constructor tag)))
head_told bytes f (in_length tag octets b t above other lt) = length-refused tag (b ∷ octets) Short t (length-in_length (is_constructor tag) octets b above other lt)
head_told bytes f (zero_first rest) = tag-refused (0 ∷ rest) [] BadTag (tag-zero rest)
head_told bytes f (padded first rest long) = tag-refused (first ∷ 128 ∷ rest) [] BadTag (tag-padded first rest long)
head_told bytes f (long_tag first further rest long on other e) = tag-refused (first ∷ (further ++ rest)) [] BadTag (tag-long_tag first further rest long on other e)
head_told bytes f (reserved tag rest t) = length-refused tag (255 ∷ rest) BadLength t (length-reserved (is_constructor tag) rest)
head_told bytes f (large tag octets rest b t above other e lt) = length-refused tag (b ∷ (octets ++ rest)) BadLength t (length-large (is_constructor tag) octets rest b above other e lt)
head_told bytes f (primitive tag rest t c) = length-refused tag (128 ∷ rest) IndefinitePrimitive t (length-primitive (is_constructor tag) rest c)

-- reading on after some whole elements
contents-on : (depth : ℕ) (es : List Parts) (tail : List ℕ) (more : ℕ) → AllByRecursion (IsElement depth) es → contents_by (after_at depth) (length es + more) (joined es ++ tail) ≡ contents_by (after_at depth) more tail
unfolding contents_by
contents-on depth [] tail more h = let e : 0 + more ≡ more = omega arith in rw e refl
contents-on depth (e ∷ es) tail more h =
    let n : length (e ∷ es) + more ≡ suc (length es + more) = omega arith in
    rw (n, append_assoc) (rw (end_at-element depth e (joined es ++ tail) h.0, after_again depth e (joined es ++ tail) h.0) (contents-on depth es tail more h.1))

-- one turn at the tail, with enough fuel
contents-tail : (depth fuel : ℕ) (es : List Parts) (tail : List ℕ) (f : BerFault) → AllByRecursion (IsElement depth) es → length (joined es ++ tail) ≤ fuel → ((more : ℕ) → length tail ≤ more → contents_by (after_at depth) more tail ≡ Err f) → contents_by (after_at depth) fuel (joined es ++ tail) ≡ Err f
contents-tail depth fuel es tail f h le told =
    let few = length-joined depth es h in
    let n : fuel ≡ length es + (fuel - length es) = omega (arith, few, length-append (joined es) tail) in
    rw n (contents-on depth es tail (fuel - length es) h ∙ told (fuel - length es) (omega (arith, few, length-append (joined es) tail)))

tail-none : (depth more : ℕ) → contents_by (after_at depth) more [] ≡ Err Short
unfolding contents_by end_at
tail-none depth zero = refl
tail-none depth (suc more) = refl

tail-zero : (depth more : ℕ) → 1 ≤ more → contents_by (after_at depth) more (0 ∷ []) ≡ Err Short
unfolding contents_by end_at
tail-zero depth zero le = refl
tail-zero depth (suc more) le = refl

tail-half : (depth more b : ℕ) (rest : List ℕ) → b ≢ 0 → 1 ≤ more → contents_by (after_at depth) more (0 ∷ b ∷ rest) ≡ Err BadTag
unfolding contents_by end_at
tail-half depth zero b rest other le = absurd (omega arith)
tail-half depth (suc more) b rest other le = rw (ne_eqb b 0 other) refl

pub end_at-nonzero : (b : ℕ) (rest : List ℕ) → b ≢ 0 → end_at (b ∷ rest) ≡ Ok None
unfolding end_at
end_at-nonzero b [] other = rw (ne_eqb b 0 other) refl
end_at-nonzero b (c ∷ rest) other = rw (ne_eqb b 0 other) refl

tail-inside : (depth more b : ℕ) (rest : List ℕ) (f : BerFault) → b ≢ 0 → 1 ≤ more → after_at depth (b ∷ rest) ≡ Err f → contents_by (after_at depth) more (b ∷ rest) ≡ Err f
unfolding contents_by
tail-inside depth zero b rest f other le e = absurd (omega arith)
tail-inside depth (suc more) b rest f other le e = rw (end_at-nonzero b rest other, e) refl

indefinite-told : (depth : ℕ) (tag body : List ℕ) (f : BerFault) → IsTag tag → is_constructor tag ≡ true → inner_at depth body ≡ Err f → after_at depth (tag ++ (128 ∷ body)) ≡ Err f
indefinite-told depth tag body f t c e = after_at-body depth _ (tag, is_constructor tag, None, body) (head_again-indefinite tag body t c) ∙ e

pub fault_told : (depth : ℕ) (bytes : List ℕ) (f : BerFault) → ElementFault depth bytes f → after_at depth bytes ≡ Err f
fault_told depth bytes f (in_head d b g h) = after_at-failed depth bytes f (head_told bytes f h)
fault_told depth bytes f (in_content d n tag octets content t l lt) = after_at-body depth _ (tag, is_constructor tag, Some n, content) (head_again-definite tag octets content n t l) ∙ body_at-short depth n (Some n) content refl lt
fault_told depth bytes f (too_deep tag rest t c) = indefinite-told 0 tag rest TooDeep t c refl
fault_told depth bytes f (ends d tag es t c all) =
    indefinite-told (suc d) tag (joined es) Short t c (let e = append_none (joined es) in rw (sym e) (contents-tail d (length (joined es ++ [])) es [] Short all (omega arith) (λ more le. tail-none d more)))
fault_told depth bytes f (ends_in_end d tag es t c all) =
    indefinite-told (suc d) tag (joined es ++ (0 ∷ [])) Short t c (contents-tail d (length (joined es ++ (0 ∷ []))) es (0 ∷ []) Short all (omega arith) (λ more le. tail-zero d more (omega arith)))
fault_told depth bytes f (half_end d b tag rest es t c all other) =
    indefinite-told (suc d) tag (joined es ++ (0 ∷ b ∷ rest)) BadTag t c (contents-tail d (length (joined es ++ (0 ∷ b ∷ rest))) es (0 ∷ b ∷ rest) BadTag all (omega arith) (λ more le. tail-half d more b rest other (omega arith)))
fault_told depth bytes f (inside d b tag rest es g t c all other h) =
    indefinite-told (suc d) tag (joined es ++ (b ∷ rest)) g t c (contents-tail d (length (joined es ++ (b ∷ rest))) es (b ∷ rest) g all (omega arith) (λ more le. tail-inside d more b rest g other (omega arith) (fault_told d (b ∷ rest) g h)))

-- an input has one fault
pub one_fault : (depth : ℕ) (bytes : List ℕ) (f g : BerFault) → ElementFault depth bytes f → ElementFault depth bytes g → f ≡ g
one_fault depth bytes f g p q = refused_is {A = List ℕ} f g (sym (fault_told depth bytes f p) ∙ fault_told depth bytes g q)

-- and then no element at its front
pub no_element : (depth : ℕ) (e : Parts) (rest : List ℕ) (f : BerFault) → IsElement depth e → ElementFault depth (e.whole ++ rest) f → ⊥
no_element depth e rest f h p = not_read f rest (sym (fault_told depth (e.whole ++ rest) f p) ∙ after_again depth e rest h)
