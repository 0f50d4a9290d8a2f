-- Contents octets, written of arcs and read: what computes.
use Rattle.std.specs.Prelude.{ℕ, zero, suc, ◌+◌, ◌-◌, ◌*◌, ◌/◌, ◌%◌, nat_lt, ◌==◌, ◌&&◌, List, [], ◌∷◌, ◌++◌, length, Option, Some, None, option_map, option_and_then, Result, Ok, Err, if◌then◌else◌}
use Rattle.std.specs.List.{flat_map}
use Rattle.ber_core.specs.ObjectIdentifier.{object_identifier_limit, is_object_identifier}
use Rattle.ber_core.specs.Results.{◌>>=◌}
use Rattle.object_identifiers.specs.Arcs.{number_limit, dotted_text}
use Rattle.object_identifiers.specs.TextReading.{arcs_at}
use Rattle.object_identifiers.specs.declared.fault.ObjectIdentifierFault.{ObjectIdentifierFault}
use Rattle.object_identifiers.specs.declared.fault.ObjectIdentifierFault.TheVariants.{ArcTooLarge, TooFewArcs, FirstArc, SecondArc, TooLong}

-- The octets of n, seven bits each and bit 8 set, before those octets; k of them at most
-- (X.690, Encoding of an object identifier value).
unfoldable pub high_onto : ℕ → ℕ → List ℕ → List ℕ
high_onto zero n octets = octets
high_onto (suc k) n octets = if n == 0 then octets else high_onto k (n / 128) ((128 + n % 128) ∷ octets)

-- The subidentifier of a number (X.690, Encoding of an object identifier value).
unfoldable pub subidentifier : ℕ → List ℕ
subidentifier n = high_onto (n / 128) (n / 128) ((n % 128) ∷ [])

-- The number in which the first two arcs stand, or the first fault (X.690, Encoding of an object
-- identifier value; the limit is own).
abbrev pub first_number_of : ℕ → ℕ → Result ℕ ObjectIdentifierFault
first_number_of x y =
    if nat_lt 2 x then Err FirstArc
    else if nat_lt x 2 && nat_lt 39 y then Err SecondArc
    else if nat_lt number_limit (x * 40 + y) then Err ArcTooLarge
    else Ok (x * 40 + y)

-- Octets, where they are no more than the limit (own).
abbrev pub fitting : List ℕ → Result (List ℕ) ObjectIdentifierFault
fitting octets = if nat_lt object_identifier_limit (length octets) then Err TooLong else Ok octets

-- The contents octets of arcs, or the first fault (own).
unfoldable pub contents_at : List ℕ → Result (List ℕ) ObjectIdentifierFault
contents_at [] = Err TooFewArcs
contents_at (x ∷ []) = Err TooFewArcs
contents_at (x ∷ (y ∷ more)) = first_number_of x y >>= (λ n. fitting (flat_map subidentifier (n ∷ more)))

-- The contents octets that a dotted text names, or the first fault (own).
abbrev pub object_identifier_at : List ℕ → Result (List ℕ) ObjectIdentifierFault
object_identifier_at text = arcs_at text >>= contents_at

-- The number that is so far n with the seven bits of an octet after it, none where it is above the limit
-- (X.690, Encoding of an object identifier value; the limit is own).
abbrev pub number_with : ℕ → ℕ → Option ℕ
number_with n b = if nat_lt number_limit (n * 128 + b % 128) then None else Some (n * 128 + b % 128)

-- The numbers that octets have behind those so far, where n of one is read; none where one is above the
-- limit (own).
unfoldable pub numbers_from : List ℕ → ℕ → List ℕ → Option (List ℕ)
numbers_from numbers n [] = Some numbers
numbers_from numbers n (b ∷ octets) =
    option_and_then (λ m. if nat_lt b 128 then numbers_from (numbers ++ (m ∷ [])) 0 octets else numbers_from numbers m octets) (number_with n b)

-- The numbers of the subidentifiers of contents octets (own).
unfoldable pub numbers_at : List ℕ → Option (List ℕ)
numbers_at octets = if is_object_identifier octets then numbers_from [] 0 octets else None

-- The first arc that the first number has in it (X.690, Encoding of an object identifier value).
abbrev pub first_arc : ℕ → ℕ
first_arc n = if nat_lt n 80 then n / 40 else 2

-- The arcs of the numbers of subidentifiers (X.690, Encoding of an object identifier value).
abbrev pub arcs_of_numbers : List ℕ → List ℕ
arcs_of_numbers [] = []
arcs_of_numbers (n ∷ more) = first_arc n ∷ ((n - first_arc n * 40) ∷ more)

-- The dotted text of contents octets, none where they have none (own).
abbrev pub dotted_at : List ℕ → Option (List ℕ)
dotted_at octets = option_map (λ (numbers : List ℕ). dotted_text (arcs_of_numbers numbers)) (numbers_at octets)
