-- A content in a listed sequence, as the tables of Q.773 list it: which elements in which order.
use Rattle.std.specs.Prelude.{◌≡◌, ℕ, ◌⊎◌, List, [], ◌∷◌, Option, Some, None}
use Rattle.ber_core.specs.Element.{Parts}
use Rattle.ber_core.specs.ElementList.{IsList}

-- A part of a sequence, and what it holds (Q.773, tables of information elements).
pub data Field : Type 0 where
  -- mandatory: an element with this tag and this content
  must : (tag : ℕ) (content : List ℕ) → Field
  -- optional: an element with this tag and this content, or no element
  may : (tag : ℕ) (content : Option (List ℕ)) → Field
  -- optional: an element with this tag and this content, which may be left out where it is empty
  filled : (tag : ℕ) (content : List ℕ) → Field
  -- optional: one element of any tag, by its octets, or no element
  any : (whole : Option (List ℕ)) → Field

-- The element has this tag, of one octet, and this content (X.690, Structure of an encoding).
abbrev pub Holds : ℕ → List ℕ → Parts → Type 0
Holds tag content e = (e.tag ≡ tag ∷ []) × (e.content ≡ content)

-- The element is this part (Q.773, tables of information elements).
abbrev pub StandsAs : Field → Parts → Type 0
StandsAs (must tag content) e = Holds tag content e
StandsAs (may tag None) e = ⊥
StandsAs (may tag (Some content)) e = Holds tag content e
StandsAs (filled tag content) e = Holds tag content e
StandsAs (any None) e = ⊥
StandsAs (any (Some whole)) e = e.whole ≡ whole

-- The part is left out (Q.773, tables of information elements).
abbrev pub IsLeftOut : Field → Type 0
IsLeftOut (must tag content) = ⊥
IsLeftOut (may tag content) = content ≡ None
IsLeftOut (filled tag content) = content ≡ []
IsLeftOut (any whole) = whole ≡ None

-- The elements are these parts, in this order and none beside them
-- (Q.773, tables of information elements).
unfoldable pub InOrder : List Field → List Parts → Type 0
InOrder [] [] = Unit {0}
InOrder [] (e ∷ es) = ⊥
InOrder (f ∷ fs) [] = IsLeftOut f × InOrder fs []
InOrder (f ∷ fs) (e ∷ es) = (StandsAs f e × InOrder fs es) ⊎ (IsLeftOut f × InOrder fs (e ∷ es))

-- The bytes are a list of elements, and these are the listed parts in order
-- (Q.773, tables of information elements).
pub record SpellsSequence (fields : List Field) (bytes : List ℕ) : Type 0 where
  pub elements : List Parts
  pub is_list : IsList elements bytes
  pub in_order : InOrder fields elements

-- The bytes are one element with this tag and this content, and nothing after it
-- (X.690, Structure of an encoding).
abbrev pub IsOnly : ℕ → List ℕ → List ℕ → Type 0
IsOnly tag content bytes = SpellsSequence (must tag content ∷ []) bytes
