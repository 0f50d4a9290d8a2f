-- A fault other than Short stays, whatever follows.
use Rattle.std.proofs.Common.{◌≡◌, ℕ, false, List, ◌∷◌, ◌++◌, sym, ap, subst, ◌∙◌, append_assoc}
use Rattle.ber_core.specs.declared.fault.BerFault.{BerFault}
use Rattle.ber_core.specs.declared.fault.BerFault.TheVariants.{BadTag, BadLength, IndefinitePrimitive, TooDeep}
use Rattle.ber_core.specs.Element.{Parts, joined}
use Rattle.ber_core.specs.Fault.{HeadFault, ElementFault}
use Rattle.ber_core.specs.Fault.HeadFault.{no_tag, in_tag, no_length, in_length, zero_first, padded, long_tag, reserved, large, primitive}
use Rattle.ber_core.specs.Fault.ElementFault.{in_head, in_content, too_deep, ends, ends_in_end, half_end, inside}
use Rattle.ber_core.specs.Stream.{is_short}

head_stays : (bytes more : List ℕ) (f : BerFault) → HeadFault bytes f → is_short f ≡ false → HeadFault (bytes ++ more) f
head_stays bytes more f (no_tag) h = absurd cc
head_stays bytes more f (in_tag first further long on other lt) h = absurd cc
head_stays bytes more f (no_length tag t) h = absurd cc
head_stays bytes more f (in_length tag octets b t above other lt) h = absurd cc
head_stays bytes more f (zero_first rest) h = zero_first (rest ++ more)
head_stays bytes more f (padded first rest long) h = padded first (rest ++ more) long
head_stays bytes more f (long_tag first further rest long on other e) h =
    subst (λ (w : List ℕ). HeadFault (first ∷ w) BadTag) (sym (append_assoc further rest more)) (long_tag first further (rest ++ more) long on other e)
head_stays bytes more f (reserved tag rest t) h =
    subst (λ (w : List ℕ). HeadFault w BadLength) (sym (append_assoc tag (255 ∷ rest) more)) (reserved tag (rest ++ more) t)
head_stays bytes more f (large tag octets rest b t above other e lt) h =
    let is : (tag ++ (b ∷ (octets ++ rest))) ++ more ≡ tag ++ (b ∷ (octets ++ (rest ++ more))) = append_assoc tag (b ∷ (octets ++ rest)) more ∙ ap (λ (w : List ℕ). tag ++ (b ∷ w)) (append_assoc octets rest more) in
    subst (λ (w : List ℕ). HeadFault w BadLength) (sym is) (large tag octets (rest ++ more) b t above other e lt)
head_stays bytes more f (primitive tag rest t c) h =
    subst (λ (w : List ℕ). HeadFault w IndefinitePrimitive) (sym (append_assoc tag (128 ∷ rest) more)) (primitive tag (rest ++ more) t c)

-- what follows the head of an indefinite element, some elements and more
behind_elements : (tag : List ℕ) (es : List Parts) (tail more : List ℕ) → (tag ++ (128 ∷ (joined es ++ tail))) ++ more ≡ tag ++ (128 ∷ (joined es ++ (tail ++ more)))
behind_elements tag es tail more = append_assoc tag (128 ∷ (joined es ++ tail)) more ∙ ap (λ (w : List ℕ). tag ++ (128 ∷ w)) (append_assoc (joined es) tail more)

pub fault_stays : (depth : ℕ) (bytes more : List ℕ) (f : BerFault) → ElementFault depth bytes f → is_short f ≡ false → ElementFault depth (bytes ++ more) f
fault_stays depth bytes more f (in_head d b g h) s = in_head depth (bytes ++ more) f (head_stays bytes more f h s)
fault_stays depth bytes more f (in_content d n tag octets content t l lt) s = absurd cc
fault_stays depth bytes more f (too_deep tag rest t c) s =
    subst (λ (w : List ℕ). ElementFault 0 w TooDeep) (sym (append_assoc tag (128 ∷ rest) more)) (too_deep tag (rest ++ more) t c)
fault_stays depth bytes more f (ends d tag es t c all) s = absurd cc
fault_stays depth bytes more f (ends_in_end d tag es t c all) s = absurd cc
fault_stays depth bytes more f (half_end d b tag rest es t c all other) s =
    rw (behind_elements tag es (0 ∷ b ∷ rest) more) (half_end d b tag (rest ++ more) es t c all other)
fault_stays depth bytes more f (inside d b tag rest es g t c all other h) s =
    rw (behind_elements tag es (b ∷ rest) more) (inside d b tag (rest ++ more) es f t c all other (fault_stays d (b ∷ rest) more f h s))
