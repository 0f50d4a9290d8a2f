-- A listed sequence, read from left to right.
use Rattle.std.specs.Prelude.{ℕ, List, [], ◌∷◌, length, Bool, false, Option, Some, None, Result, Ok, Err, ◌==◌, if◌then◌else◌}
use Rattle.ber_core.specs.declared.fault.BerFault.{BerFault}
use Rattle.ber_core.specs.Options.{◌>>=◌}
use Rattle.ber_core.specs.Element.{Parts, depth_limit}
use Rattle.ber_core.specs.ElementReading.{element_at}

-- Whether a tag is this one octet (own).
abbrev pub is_tag : ℕ → List ℕ → Bool
is_tag tag [] = false
is_tag tag (only ∷ []) = only == tag
is_tag tag (first ∷ second ∷ more) = false

-- The content of the element that was read, if it has this tag, and what follows it (own).
abbrev pub tagged_of : ℕ → List ℕ → Result (Parts × List ℕ) BerFault → Option (List ℕ) × List ℕ
tagged_of tag bytes (Err f) = (None, bytes)
tagged_of tag bytes (Ok r) = if is_tag tag r.0.tag then (Some r.0.content, r.1) else (None, bytes)

-- The content of the first element, if it has this tag, and what follows it; else none and all
-- bytes (Q.773, tables of information elements: an optional part).
unfoldable pub tagged : ℕ → List ℕ → Option (List ℕ) × List ℕ
tagged tag bytes = tagged_of tag bytes (element_at depth_limit bytes)

-- What was found, with what follows it (own).
abbrev pub must_be : {A : Type 0} → Option A → List ℕ → Option (A × List ℕ)
must_be None rest = None
must_be (Some x) rest = Some (x, rest)

-- The content of the first element, which has to have this tag, and what follows it
-- (Q.773, tables of information elements: a mandatory part).
abbrev pub content_at : ℕ → List ℕ → Option (List ℕ × List ℕ)
content_at tag bytes = must_be (tagged tag bytes).0 (tagged tag bytes).1

-- The whole of the element that was read, and what follows it (own).
abbrev pub whole_of : List ℕ → Result (Parts × List ℕ) BerFault → Option (List ℕ) × List ℕ
whole_of bytes (Err f) = (None, bytes)
whole_of bytes (Ok r) = (Some r.0.whole, r.1)

-- The first element whole, and what follows it; else none and all bytes
-- (Q.773, tables of information elements: a part of any tag).
unfoldable pub first_whole : List ℕ → Option (List ℕ) × List ℕ
first_whole bytes = whole_of bytes (element_at depth_limit bytes)

-- A value, if nothing follows it (own).
abbrev pub ending : {A : Type 0} → A → List ℕ → Option A
ending x rest = if length rest == 0 then Some x else None

-- The content of the one element that the bytes are, which has to have this tag
-- (X.690, Structure of an encoding).
unfoldable pub only_at : ℕ → List ℕ → Option (List ℕ)
only_at tag bytes = content_at tag bytes >>= (λ c. ending c.0 c.1)

-- The element that was read, if nothing follows it (own).
abbrev pub alone_of : Result (Parts × List ℕ) BerFault → Option Parts
alone_of (Err f) = None
alone_of (Ok r) = ending r.0 r.1

-- The element, if the bytes are one element and nothing after it (X.690, Structure of an encoding).
unfoldable pub alone_at : List ℕ → Option Parts
alone_at bytes = alone_of (element_at depth_limit bytes)
