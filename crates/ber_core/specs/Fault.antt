-- Why no element can be read: the faults, each with the bytes at whose front it stands. From left
-- to right, the first place at which no element can go on decides.
use Rattle.std.specs.Prelude.{◌≡◌, ◌≢◌, ℕ, zero, suc, ◌-◌, ◌<◌, ◌≤◌, true, false, bit_and, List, [], ◌∷◌, ◌++◌, length, slice_index}
use Rattle.std.specs.List.{AllByRecursion}
use Rattle.ber_core.specs.declared.fault.BerFault.{BerFault}
use Rattle.ber_core.specs.declared.fault.BerFault.TheVariants.{Short, BadTag, BadLength, IndefinitePrimitive, TooDeep}
use Rattle.ber_core.specs.Tag.{IsTag, is_constructor}
use Rattle.ber_core.specs.Length.{length_limit, number_after, IsLength}
use Rattle.ber_core.specs.Element.{Parts, IsElement, joined}

-- Further octets of a tag of which each has bit 8 set: the tag goes on
-- (X.690, Identifier octets).
abbrev pub GoOn : List ℕ → Type 0
GoOn octets = AllByRecursion (λ b. 0x80 ≤ b) octets

-- The low five bits of a tag's first octet are 11111: further octets follow
-- (X.690, Identifier octets).
abbrev pub IsLong : ℕ → Type 0
IsLong first = (first ≢ 0x00) × (bit_and first 0x1f ≡ 0x1f)

-- The faults of a head (own).
pub data HeadFault : List ℕ → BerFault → Type 0 where
  -- Short: the input ends before the tag, within it, before the length, or within it.
  no_tag : HeadFault [] Short
  in_tag : (first : ℕ) (further : List ℕ) → IsLong first → GoOn further → slice_index further 0 ≢ 0x80 → length further < 4 → HeadFault (first ∷ further) Short
  no_length : (tag : List ℕ) → IsTag tag → HeadFault tag Short
  in_length : (tag octets : List ℕ) (b : ℕ) → IsTag tag → 0x80 < b → b ≢ 0xff → length octets < b - 0x80 → HeadFault (tag ++ (b ∷ octets)) Short
  -- BadTag: 00 stands in the tag's place; the first further octet is 80; the fourth has bit 8 set.
  zero_first : (rest : List ℕ) → HeadFault (0x00 ∷ rest) BadTag
  padded : (first : ℕ) (rest : List ℕ) → IsLong first → HeadFault (first ∷ 0x80 ∷ rest) BadTag
  long_tag : (first : ℕ) (further rest : List ℕ) → IsLong first → GoOn further → slice_index further 0 ≢ 0x80 → length further ≡ 4 → HeadFault (first ∷ (further ++ rest)) BadTag
  -- BadLength: the reserved octet FF; a value above the limit, once all its octets are there.
  reserved : (tag rest : List ℕ) → IsTag tag → HeadFault (tag ++ (0xff ∷ rest)) BadLength
  large : (tag octets rest : List ℕ) (b : ℕ) → IsTag tag → 0x80 < b → b ≢ 0xff → length octets ≡ b - 0x80 → length_limit < number_after 0 octets → HeadFault (tag ++ (b ∷ (octets ++ rest))) BadLength
  -- IndefinitePrimitive: length 80 behind a tag without bit 6.
  primitive : (tag rest : List ℕ) → IsTag tag → is_constructor tag ≡ false → HeadFault (tag ++ (0x80 ∷ rest)) IndefinitePrimitive

-- The faults of the first element, where at most `depth` elements of indefinite form may stand one
-- in another (own).
pub data ElementFault : ℕ → List ℕ → BerFault → Type 0 where
  -- its head has a fault
  in_head : (depth : ℕ) (bytes : List ℕ) (f : BerFault) → HeadFault bytes f → ElementFault depth bytes f
  -- Short: the input ends within the content of a definite element.
  in_content : (depth n : ℕ) (tag octets content : List ℕ) → IsTag tag → IsLength octets n → length content < n → ElementFault depth (tag ++ (octets ++ content)) Short
  -- TooDeep: an element of indefinite form begins where no more may be open.
  too_deep : (tag rest : List ℕ) → IsTag tag → is_constructor tag ≡ true → ElementFault zero (tag ++ (0x80 ∷ rest)) TooDeep
  -- Short: in an element of indefinite form the input ends behind some whole elements.
  ends : (depth : ℕ) (tag : List ℕ) (elements : List Parts) → IsTag tag → is_constructor tag ≡ true → AllByRecursion (IsElement depth) elements → ElementFault (suc depth) (tag ++ (0x80 ∷ joined elements)) Short
  -- Short: the same, behind the first octet 00 of its end.
  ends_in_end : (depth : ℕ) (tag : List ℕ) (elements : List Parts) → IsTag tag → is_constructor tag ≡ true → AllByRecursion (IsElement depth) elements → ElementFault (suc depth) (tag ++ (0x80 ∷ (joined elements ++ (0x00 ∷ [])))) Short
  -- BadTag: in an element of indefinite form 00 is followed by an octet other than 00.
  half_end : (depth b : ℕ) (tag rest : List ℕ) (elements : List Parts) → IsTag tag → is_constructor tag ≡ true → AllByRecursion (IsElement depth) elements → b ≢ 0x00 → ElementFault (suc depth) (tag ++ (0x80 ∷ (joined elements ++ (0x00 ∷ b ∷ rest)))) BadTag
  -- In an element of indefinite form, behind some whole elements, the next one has a fault.
  inside : (depth b : ℕ) (tag rest : List ℕ) (elements : List Parts) (f : BerFault) → IsTag tag → is_constructor tag ≡ true → AllByRecursion (IsElement depth) elements → b ≢ 0x00 → ElementFault depth (b ∷ rest) f → ElementFault (suc depth) (tag ++ (0x80 ∷ (joined elements ++ (b ∷ rest)))) f
