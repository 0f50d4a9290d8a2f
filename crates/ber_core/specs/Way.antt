-- The way to a content within others: the tags of the elements that it stands in, from outside in.
use Rattle.std.specs.Prelude.{◌≡◌, ◌⊎◌, ℕ, ◌+◌, List, [], ◌∷◌, length, Result, Ok, Err, if◌then◌else◌}
use Rattle.ber_core.specs.declared.fault.BerFault.{BerFault}
use Rattle.ber_core.specs.Element.{Parts}
use Rattle.ber_core.specs.ListReading.{items_of}
use Rattle.ber_core.specs.Place.{Slice, IsAt, AtEnd, head_length}
use Rattle.ber_core.specs.SequenceReading.{is_tag}

-- So many octets further on (own).
abbrev pub further : ℕ → ℕ × List ℕ → ℕ × List ℕ
further n p = (n + p.0, p.1)

-- The content of the first of these items that is an element with this tag, and how many octets of
-- the items stand before it; nothing, where none is (X.690, Contents octets).
unfoldable pub inside_items : ℕ → List (Result Parts BerFault) → ℕ × List ℕ
inside_items tag [] = (0, [])
inside_items tag (Err f ∷ items) = (0, [])
inside_items tag (Ok e ∷ items) =
    if is_tag tag e.tag then (head_length e.whole, e.content) else further (length e.whole) (inside_items tag items)

-- The content of the first element with this tag in a list of elements, and where it begins (X.690,
-- Contents octets).
abbrev pub inside : ℕ → List ℕ → ℕ × List ℕ
inside tag bytes = inside_items tag (items_of bytes)

-- How many octets of the bytes stand before the content to which the tags lead: the first element
-- with the first tag, in its content the first with the second, and so on (own).
unfoldable pub way_to : List ℕ → List ℕ → ℕ
way_to [] bytes = 0
way_to (tag ∷ tags) bytes = (inside tag bytes).0 + way_to tags (inside tag bytes).1

-- The slice is the content of the first element with this tag, at its place in the bytes (own).
abbrev pub IsInside : ℕ → Slice → Slice → Type 0
IsInside tag part bytes = ((inside tag bytes.now).1 ≡ part.now) × IsAt (inside tag bytes.now).0 part bytes

-- The rest ends where the bytes end, and the first element with this tag is looked for in it: what
-- stands before it has other tags (own).
abbrev pub GoesOn : ℕ → Slice → Slice → Type 0
GoesOn tag rest bytes = AtEnd rest bytes
    × ((inside tag bytes.now).1 ≡ (inside tag rest.now).1)
    × ((inside tag bytes.now).0 + length rest.now ≡ length bytes.now + (inside tag rest.now).0)

-- The slice lies in the bytes where the tags lead (own).
abbrev pub IsOnWay : List ℕ → Slice → Slice → Type 0
IsOnWay tags part bytes = IsAt (way_to tags bytes.now) part bytes

-- The slice lies where the tags lead, or is empty: a part that is left out may lie anywhere (own).
abbrev pub IsOnWayIfAny : List ℕ → Slice → Slice → Type 0
IsOnWayIfAny tags part bytes = (part.now ≡ []) ⊎ IsOnWay tags part bytes

-- The slice is the content of the first element with this tag, or it is empty (own).
abbrev pub IsInsideIfAny : ℕ → Slice → Slice → Type 0
IsInsideIfAny tag part bytes = (part.now ≡ []) ⊎ IsInside tag part bytes
