-- What an element is, by its octets, and not by how they are read.
use Rattle.std.specs.Prelude.{◌≡◌, ℕ, zero, suc, ◌⊎◌, true, List, [], ◌∷◌, ◌++◌, length}
use Rattle.std.specs.List.{flat_map, AllByRecursion}
use Rattle.ber_core.specs.Tag.{IsTag, is_constructor}
use Rattle.ber_core.specs.Length.{IsLength}

-- How many indefinite elements may stand one in another (own).
abbrev pub depth_limit : ℕ
depth_limit = 32

-- An element's parts: its tag, its content, and its whole, which is the tag, the length, the
-- content and, in the indefinite form, the end (X.690, Structure of an encoding).
pub record Parts : Type 0 where
  pub tag : List ℕ
  pub content : List ℕ
  pub whole : List ℕ

-- The definite form: a tag, the octets of the content's length, and the content, which is any
-- octets (X.690, Length octets; that the content of a constructed encoding is any octets is own).
pub record IsDefinite (e : Parts) : Type 0 where
  pub octets : List ℕ
  pub is_tag : IsTag e.tag
  pub is_length : IsLength octets (length e.content)
  pub is_whole : e.whole ≡ e.tag ++ (octets ++ e.content)

-- The octets of elements, one element after the other (own).
abbrev pub joined : List Parts → List ℕ
joined elements = flat_map (λ (e : Parts). e.whole) elements

-- The indefinite form: a constructed tag, the octet 80, a content that is elements one after the
-- other, each as `Inner` says, and the end 00 00 (X.690, Length octets; X.690, End-of-contents
-- octets).
pub record IsIndefinite (Inner : Parts → Type 0) (e : Parts) : Type 0 where
  pub elements : List Parts
  pub is_tag : IsTag e.tag
  pub constructs : is_constructor e.tag ≡ true
  pub each : AllByRecursion Inner elements
  pub is_content : e.content ≡ joined elements
  pub is_whole : e.whole ≡ e.tag ++ (0x80 ∷ (e.content ++ (0x00 ∷ 0x00 ∷ [])))

-- An element in which at most `depth` elements of indefinite form stand one in another; what stands
-- in the content of one of definite form doesn't count
-- (X.690, Structure of an encoding; the depth is own).
unfoldable pub IsElement : ℕ → Parts → Type 0
IsElement zero e = IsDefinite e
IsElement (suc depth) e = IsDefinite e ⊎ IsIndefinite (IsElement depth) e
