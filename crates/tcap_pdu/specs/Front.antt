-- The identifiers at the beginning of a message that may be faulty.
use Rattle.std.specs.Prelude.{◌≡◌, ℕ, List, [], ◌∷◌, ◌++◌, take, Bool, true, Option, Some, None, Result, Ok, Err, if◌then◌else◌}
use Rattle.ber_core.specs.declared.fault.BerFault.{BerFault}
use Rattle.ber_core.specs.Tag.{is_constructor}
use Rattle.ber_core.specs.Head.{BeginsWithHead}
use Rattle.ber_core.specs.HeadReading.{head_at}
use Rattle.ber_core.specs.Element.{Parts, IsElement, depth_limit}
use Rattle.ber_core.specs.SequenceReading.{tagged}
use Rattle.tcap_pdu.specs.TransId.{id_of}

-- The transaction identifier that a content is, if there is one and it has 1 to 4 octets
-- (Q.773, Transaction ID).
abbrev pub id_in : Option (List ℕ) → Option (List ℕ)
id_in None = None
id_in (Some content) = id_of content

-- The bytes after the head, cut to the stated length where they are more; where the head is
-- indefinite nothing is cut off (own).
abbrev pub cut : Option ℕ → List ℕ → List ℕ
cut None rest = rest
cut (Some n) rest = take n rest

-- What is looked at behind the head of a constructor (own).
pub record LooksAt (bytes inside : List ℕ) : Type 0 where
  pub tag : List ℕ
  pub len : Option ℕ
  pub rest : List ℕ
  pub begins : BeginsWithHead tag len rest bytes
  pub constructs : is_constructor tag ≡ true
  pub is_cut : inside ≡ cut len rest

-- A whole first element with this tag: its content, and what follows it; where none stands there,
-- none, and all bytes (own).
pub data StandsFirst (tag : ℕ) : List ℕ → Option (List ℕ) → List ℕ → Type 0 where
  stands : (e : Parts) (rest : List ℕ) → IsElement depth_limit e → e.tag ≡ tag ∷ [] → StandsFirst tag (e.whole ++ rest) (Some e.content) rest
  lacks : (bytes : List ℕ) → ((e : Parts) (rest : List ℕ) → IsElement depth_limit e → e.tag ≡ tag ∷ [] → bytes ≡ e.whole ++ rest → ⊥) → StandsFirst tag bytes None bytes

-- Origin and destination at the beginning of the bytes: a whole first element 48 gives the origin if it
-- has 1 to 4 octets, and is passed over in any case; a whole element 49 that comes next gives the
-- destination if it has 1 to 4 octets. Both are none if the head can't be read or is primitive (own).
pub data Front : List ℕ → Option (List ℕ) → Option (List ℕ) → Type 0 where
  ids : (bytes inside behind rest : List ℕ) (origin destination : Option (List ℕ)) → LooksAt bytes inside → StandsFirst 0x48 inside origin behind → StandsFirst 0x49 behind destination rest → Front bytes (id_in origin) (id_in destination)
  none : (bytes : List ℕ) → ((inside : List ℕ) → LooksAt bytes inside → ⊥) → Front bytes None None

-- An origin and a destination (own).
abbrev pub both : Option (List ℕ) → Option (List ℕ) → Option (List ℕ) × Option (List ℕ)
both o d = (o, d)

-- Origin and destination at the beginning of what is looked at, read from left to right (own).
abbrev pub ids_at : List ℕ → Option (List ℕ) × Option (List ℕ)
ids_at inside =
    let o = tagged 0x48 inside in
    let d = tagged 0x49 o.1 in
    both (id_in o.0) (id_in d.0)

-- Origin and destination behind a head that was read (own).
abbrev pub front_by : Result (List ℕ × Bool × Option ℕ × List ℕ) BerFault → Option (List ℕ) × Option (List ℕ)
front_by (Err f) = both None None
front_by (Ok h) = if h.1 then ids_at (cut h.2 h.3) else both None None

-- Origin and destination at the beginning of the bytes, read from left to right (own).
unfoldable pub front_at : List ℕ → Option (List ℕ) × Option (List ℕ)
front_at bytes = front_by (head_at bytes)
