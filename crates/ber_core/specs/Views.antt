-- Elements as a contract sees them.
use Rattle.std.specs.Prelude.{ℕ, Bool, List, Option, Result, Ok, Err, IfSome}
use Rattle.std.specs.Iterator.{YieldsFirstBy}
use Rattle.ber_core.specs.declared.fault.BerFault.{BerFault}
use Rattle.ber_core.specs.declared.head.Head.{Head}
use Rattle.ber_core.specs.declared.element.Element.{Element}
use Rattle.ber_core.specs.declared.elements.Elements.{Elements}
use Rattle.ber_core.specs.Element.{Parts}
use Rattle.ber_core.specs.ListReading.{items_of}
use Rattle.ber_core.specs.Place.{Slice, AtFront, AtEnd, IsAt, head_length}

-- a head's fields, by what its slices hold (own)
abbrev pub head_fields : Head → List ℕ × Bool × Option ℕ × List ℕ
head_fields h = (h.tag.now, h.constructed, h.length, h.rest.now)

-- an element's parts, by what its slices hold (own)
abbrev pub parts : Element → Parts
parts e = record { tag = e.tag.now; content = e.content.now; whole = e.whole.now }

-- an item: an element's parts, or a fault (own)
abbrev pub item_view : Result Element BerFault → Result Parts BerFault
item_view (Ok e) = Ok (parts e)
item_view (Err f) = Err f

-- the items that are still to come (own)
abbrev pub items_left : Elements → List (Result Parts BerFault)
items_left s = items_of s.rest.now

-- The slices of an element are parts of the bytes at whose front it stands: its tag and its whole
-- begin where they begin, its content behind the head (X.690, Structure of an encoding).
pub record InPlace (e : Element) (bytes : Slice) : Type 0 where
  pub tag : AtFront e.tag bytes
  pub content : IsAt (head_length bytes.now) e.content bytes
  pub whole : AtFront e.whole bytes

-- An item's slices are parts of the bytes at whose front it stands (X.690, Contents octets).
abbrev pub ItemInPlace : Result Element BerFault → Slice → Type 0
ItemInPlace (Ok e) bytes = InPlace e bytes
ItemInPlace (Err f) bytes = Unit {0}

-- the bytes that are still to be read (own)
abbrev pub bytes_left : Elements → Slice
bytes_left s = s.rest

-- The next item's slices are parts of the bytes that were left, and what is left now ends where they
-- end (X.690, Contents octets).
abbrev pub StepsInPlace : Elements → Option (Result Element BerFault) → Elements → Type 0
StepsInPlace old item new = IfSome item (λ i. ItemInPlace i (bytes_left old)) × AtEnd (bytes_left new) (bytes_left old)

-- One step of the iterator: the first item that is left, in its place (X.690, Contents octets).
abbrev pub elements_steps : Elements → Option (Result Element BerFault) → Elements → Type 0
elements_steps old item new = YieldsFirstBy item_view items_left old item new × StepsInPlace old item new
