-- The first element, read from left to right: its parts and what follows it, or the first fault.
use Rattle.std.specs.Prelude.{ℕ, zero, suc, ◌+◌, ◌-◌, Bool, List, [], ◌∷◌, length, take, drop, Option, Some, None, Result, Ok, Err, nat_lt, ◌==◌, if◌then◌else◌}
use Rattle.ber_core.specs.declared.fault.BerFault.{BerFault}
use Rattle.ber_core.specs.declared.fault.BerFault.TheVariants.{Short, BadTag, TooDeep}
use Rattle.ber_core.specs.Results.{◌>>=◌}
use Rattle.ber_core.specs.HeadReading.{head_at}
use Rattle.ber_core.specs.Element.{Parts}

-- In an element of indefinite form: what follows its end 00 00, or none where an element begins
-- (X.690, End-of-contents octets).
unfoldable pub end_at : List ℕ → Result (Option (List ℕ)) BerFault
end_at [] = Err Short
end_at (a ∷ []) = if a == 0x00 then Err Short else Ok None
end_at (a ∷ b ∷ rest) = if a == 0x00 then (if b == 0x00 then Ok (Some rest) else Err BadTag) else Ok None

-- What follows the end if it is here, else what `more` finds (own).
abbrev pub end_or : Result (List ℕ) BerFault → Option (List ℕ) → Result (List ℕ) BerFault
end_or more None = more
end_or more (Some rest) = Ok rest

-- What follows fewer than n elements and their end; `next` reads one element and gives what follows
-- it (X.690, Length octets).
unfoldable pub contents_by : (List ℕ → Result (List ℕ) BerFault) → ℕ → List ℕ → Result (List ℕ) BerFault
contents_by next zero bytes = Err Short
contents_by next (suc n) bytes = end_at bytes >>= end_or (next bytes >>= contents_by next n)

-- What follows a content of n octets (X.690, Contents octets).
abbrev pub skip_at : List ℕ → ℕ → Result (List ℕ) BerFault
skip_at rest n = if nat_lt (length rest) n then Err Short else Ok (drop n rest)

-- What follows a content of this length, or of the indefinite form by `contents`
-- (X.690, Contents octets).
abbrev pub body_by : (List ℕ → Result (List ℕ) BerFault) → Option ℕ → List ℕ → Result (List ℕ) BerFault
body_by contents None rest = contents rest
body_by contents (Some n) rest = skip_at rest n

-- What follows the first element, where `contents` reads on in one of indefinite form
-- (X.690, Structure of an encoding).
abbrev pub after_by : (List ℕ → Result (List ℕ) BerFault) → List ℕ → Result (List ℕ) BerFault
after_by contents bytes = head_at bytes >>= (λ h. body_by contents h.2 h.3)

-- What follows the first element, where at most `depth` of indefinite form may stand one in another
-- (X.690, Structure of an encoding; the depth is own).
unfoldable pub after_at : ℕ → List ℕ → Result (List ℕ) BerFault
after_at zero = after_by (λ _. Err TooDeep)
after_at (suc depth) = after_by (λ bytes. contents_by (after_at depth) (length bytes) bytes)

-- What follows the content of an indefinite element and its end, where `depth` more may be open in
-- it (X.690, Length octets).
abbrev pub contents_at : ℕ → List ℕ → Result (List ℕ) BerFault
contents_at depth bytes = contents_by (after_at depth) (length bytes) bytes

-- What follows the content of an indefinite element and its end, where `depth` may be open with this one (own).
abbrev pub inner_at : ℕ → List ℕ → Result (List ℕ) BerFault
inner_at zero bytes = Err TooDeep
inner_at (suc depth) bytes = contents_at depth bytes

-- What follows an element whose head was read (X.690, Contents octets).
abbrev pub body_at : ℕ → Option ℕ → List ℕ → Result (List ℕ) BerFault
body_at depth = body_by (inner_at depth)

-- The content of an element, from what follows its head and what follows its whole: in the
-- indefinite form the end 00 00 stands between (X.690, Contents octets).
abbrev pub content_of : Option ℕ → List ℕ → List ℕ → List ℕ
content_of None body rest = take (length body - (length rest + 2)) body
content_of (Some n) body rest = take n body

-- The parts of an element with this head that `rest` follows (X.690, Structure of an encoding).
abbrev pub parts_of : List ℕ → List ℕ × Bool × Option ℕ × List ℕ → List ℕ → Parts
parts_of bytes h rest = record { tag = h.0; content = content_of h.2 h.3 rest; whole = take (length bytes - length rest) bytes }

-- The first element and what follows it (X.690, Structure of an encoding).
unfoldable pub element_at : ℕ → List ℕ → Result (Parts × List ℕ) BerFault
element_at depth bytes = do
  h ← head_at bytes
  rest ← after_at depth bytes
  Ok (parts_of bytes h rest, rest)
