-- A dotted text, read from left to right: its arcs, or the first fault.
use Rattle.std.specs.Prelude.{ℕ, ◌+◌, ◌-◌, ◌*◌, nat_lt, nat_le, ◌==◌, ◌&&◌, List, [], ◌∷◌, ◌++◌, length, Option, Some, None, Result, Ok, Err, if◌then◌else◌}
use Rattle.ber_core.specs.Results.{◌>>=◌}
use Rattle.object_identifiers.specs.Arcs.{number_limit}
use Rattle.object_identifiers.specs.declared.fault.ObjectIdentifierFault.{ObjectIdentifierFault}
use Rattle.object_identifiers.specs.declared.fault.ObjectIdentifierFault.TheVariants.{NotANumber, ArcTooLarge, TooLong}

-- The greatest number of arcs: one more than contents octets (own).
abbrev pub arcs_limit : ℕ
arcs_limit = 256

-- The number so far, if there is one, with one digit more behind it: none behind a lone zero (own).
abbrev pub digit_after : Option ℕ → ℕ → Result ℕ ObjectIdentifierFault
digit_after None digit = Ok digit
digit_after (Some n) digit =
    if n == 0 then Err NotANumber
    else if nat_lt number_limit (n * 10 + digit) then Err ArcTooLarge
    else Ok (n * 10 + digit)

-- The number so far with one character more behind it, which has to be a decimal digit (own).
abbrev pub character_after : Option ℕ → ℕ → Result ℕ ObjectIdentifierFault
character_after number c = if nat_le 48 c && nat_le c 57 then digit_after number (c - 48) else Err NotANumber

-- The arcs so far and one more, the number that ends here: there has to be one (own).
abbrev pub with_arc : List ℕ → Option ℕ → Result (List ℕ) ObjectIdentifierFault
with_arc arcs None = Err NotANumber
with_arc arcs (Some n) = if nat_lt (length arcs) arcs_limit then Ok (arcs ++ (n ∷ [])) else Err TooLong

-- The arcs that a text has behind those so far, where a number is under way or none (own).
unfoldable pub arcs_from : List ℕ → Option ℕ → List ℕ → Result (List ℕ) ObjectIdentifierFault
arcs_from arcs number [] = with_arc arcs number
arcs_from arcs number (c ∷ text) =
    if c == 46 then (with_arc arcs number >>= (λ more. arcs_from more None text))
    else (character_after number c >>= (λ n. arcs_from arcs (Some n) text))

-- The arcs of a dotted text (own).
abbrev pub arcs_at : List ℕ → Result (List ℕ) ObjectIdentifierFault
arcs_at text = arcs_from [] None text
