-- A stream of octets: the messages that it is cut into, what follows them, and why no more can come.
use Rattle.std.specs.Prelude.{◌≡◌, ℕ, zero, suc, ◌≤◌, Bool, true, false, List, [], ◌∷◌, ◌++◌, length, map, take, drop, Option, Some, None, Result, Ok, Err, nat_lt, if◌then◌else◌}
use Rattle.std.specs.List.{AllByRecursion}
use Rattle.ber_core.specs.declared.fault.BerFault.{BerFault}
use Rattle.ber_core.specs.declared.fault.BerFault.TheVariants.{Short, BadTag, BadLength, IndefinitePrimitive, TooDeep}
use Rattle.ber_core.specs.declared.fault.FeedFault.{FeedFault}
use Rattle.ber_core.specs.declared.fault.FeedFault.TheVariants.{Ber, TooLong}
use Rattle.ber_core.specs.Element.{Parts, IsElement, joined, depth_limit}
use Rattle.ber_core.specs.ElementReading.{element_at}
use Rattle.ber_core.specs.Fault.{ElementFault}
use Rattle.ber_core.specs.Length.{length_limit}

-- A stream's messages by their octets, what follows the last of them, and the fault that stands
-- there (own).
pub record Cut : Type 0 where
  pub messages : List (List ℕ)
  pub rest : List ℕ
  pub fault : Option FeedFault

-- A cut of these parts (own).
abbrev pub cut_into : List (List ℕ) → List ℕ → Option FeedFault → Cut
cut_into messages rest fault = record { messages = messages; rest = rest; fault = fault }

-- An element that is a message of a stream: its whole is within the limit (own).
abbrev pub IsMessage : Parts → Type 0
IsMessage e = IsElement depth_limit e × (length e.whole ≤ length_limit)

-- Whether more octets may still make an element of bytes with this fault (own).
abbrev pub is_short : BerFault → Bool
is_short Short = true
is_short BadTag = false
is_short BadLength = false
is_short IndefinitePrimitive = false
is_short TooDeep = false

-- The fault of a stream's rest at the beginning of which no element is read for this reason: where the
-- octets are merely too few, it is that the rest passes the limit, or there is none (own).
abbrev pub rest_fault : BerFault → List ℕ → Option FeedFault
rest_fault why rest =
    if is_short why then (if nat_lt length_limit (length rest) then Some TooLong else None) else Some (Ber why)

-- The stream is these messages one after the other and then the rest, at the beginning of which, within
-- the limit, no element is; why none is tells the fault (own).
pub record IsCut (cut : Cut) (stream : List ℕ) : Type 0 where
  pub elements : List Parts
  pub why : BerFault
  pub each : AllByRecursion IsMessage elements
  pub are_messages : cut.messages ≡ map (λ (e : Parts). e.whole) elements
  pub is_joined : stream ≡ joined elements ++ cut.rest
  pub is_why : ElementFault depth_limit (take length_limit cut.rest) why
  pub is_fault : cut.fault ≡ rest_fault why cut.rest

-- ---- computed

-- A message before those of a cut (own).
abbrev pub with_message : List ℕ → Cut → Cut
with_message message cut = cut_into (message ∷ cut.messages) cut.rest cut.fault

-- The element that was read at the front and what `others` finds behind it, or the fault (own).
abbrev pub cut_from : (List ℕ → Cut) → List ℕ → Result (Parts × List ℕ) BerFault → Cut
cut_from others stream (Ok r) = with_message r.0.whole (others (drop (length r.0.whole) stream))
cut_from others stream (Err why) = cut_into [] stream (rest_fault why stream)

-- The cut of a stream of at most n octets (own).
unfoldable pub cut_by : ℕ → List ℕ → Cut
cut_by zero stream = cut_into [] stream None
cut_by (suc n) stream = cut_from (cut_by n) stream (element_at depth_limit (take length_limit stream))

-- The cut of a stream (own).
abbrev pub cut_of : List ℕ → Cut
cut_of stream = cut_by (length stream) stream
