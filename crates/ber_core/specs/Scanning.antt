-- What a scanner's state means: what reading gives from the middle of an element on.
use Rattle.std.specs.Prelude.{◌≡◌, ℕ, zero, suc, ◌-◌, Bool, false, List, [], ◌∷◌, length, take, drop, Option, Some, None, Result, Ok, Err, nat_lt, ◌==◌, if◌then◌else◌}
use Rattle.ber_core.specs.declared.fault.BerFault.{BerFault}
use Rattle.ber_core.specs.declared.fault.BerFault.TheVariants.{Short, BadTag, BadLength}
use Rattle.ber_core.specs.declared.scanner.due.Due.{Due}
use Rattle.ber_core.specs.declared.scanner.due.Due.TheVariants as due
use Rattle.ber_core.specs.declared.scanner.Scanner.{Scanner}
use Rattle.ber_core.specs.Results.{◌>>=◌}
use Rattle.ber_core.specs.Length.{length_limit, number_after}
use Rattle.ber_core.specs.HeadReading.{further_at, all_further_at, length_at}
use Rattle.ber_core.specs.Element.{depth_limit}
use Rattle.ber_core.specs.ElementReading.{after_at, contents_at, body_at, skip_at}
use Rattle.ber_core.specs.Stream.{is_short}

-- What follows the outermost of `nested` indefinite elements, one in another, where an element of the
-- innermost has just ended: their contents go on, the innermost's first
-- (X.690, End-of-contents octets).
unfoldable pub outer_at : ℕ → List ℕ → Result (List ℕ) BerFault
outer_at zero rest = Ok rest
outer_at (suc nested) rest = contents_at (depth_limit - suc nested) rest >>= outer_at nested

-- What follows the outermost element, where an element is due or the end of the innermost's contents
-- (X.690, End-of-contents octets).
abbrev pub at_tag : ℕ → List ℕ → Result (List ℕ) BerFault
at_tag zero rest = after_at depth_limit rest
at_tag (suc nested) rest = outer_at (suc nested) rest

-- What follows the outermost element, where an element is due and no end (X.690, Contents octets).
abbrev pub at_element : ℕ → List ℕ → Result (List ℕ) BerFault
at_element nested rest = after_at (depth_limit - nested) rest >>= outer_at nested

-- What follows the outermost element, behind the first octet 00 of an end (X.690, End-of-contents octets).
abbrev pub at_end : ℕ → List ℕ → Result (List ℕ) BerFault
at_end nested [] = Err Short
at_end nested (b ∷ rest) = if b == 0x00 then outer_at (nested - 1) rest else Err BadTag

-- What follows the outermost element, behind a head with this length (X.690, Contents octets).
abbrev pub at_body : ℕ → Option ℕ × List ℕ → Result (List ℕ) BerFault
at_body nested l = body_at (depth_limit - nested) l.0 l.1 >>= outer_at nested

-- What follows the outermost element, where the length is due, behind a tag that is constructed or not
-- (X.690, Length octets).
abbrev pub at_length : Bool → ℕ → List ℕ → Result (List ℕ) BerFault
at_length constructed nested rest = length_at constructed rest >>= at_body nested

-- What follows the outermost element, behind so many further octets of a tag (X.690, Identifier octets).
abbrev pub behind_further : Bool → ℕ → List ℕ → Result ℕ BerFault → Result (List ℕ) BerFault
behind_further constructed nested rest count = count >>= (λ k. at_length constructed nested (drop k rest))

-- A length of which `left` octets are due, where those before them spelled `value`
-- (X.690, Length octets).
abbrev pub long_at : ℕ → ℕ → List ℕ → Result (Option ℕ × List ℕ) BerFault
long_at left value rest =
    if nat_lt (length rest) left then Err Short
    else if nat_lt length_limit (number_after value (take left rest)) then Err BadLength
    else Ok (Some (number_after value (take left rest)), drop left rest)

-- What follows the element where `left` octets of its length are due (X.690, Length octets).
abbrev pub at_long : ℕ → ℕ → ℕ → List ℕ → Result (List ℕ) BerFault
at_long nested left value rest = long_at left value rest >>= at_body nested

-- What follows the element, by what is due and how many indefinite ones are open
-- (X.690, Structure of an encoding).
abbrev pub at_due : Due → ℕ → List ℕ → Result (List ℕ) BerFault
at_due due.Tag nested rest = at_tag nested rest
at_due due.End nested rest = at_end nested rest
at_due (due.FirstFurther constructed) nested rest = behind_further constructed nested rest (all_further_at rest)
at_due (due.Further constructed left) nested rest = behind_further constructed nested rest (further_at left rest)
at_due (due.Length constructed) nested rest = at_length constructed nested rest
at_due (due.LongLength left value) nested rest = at_long nested left value rest
at_due (due.Content left) nested rest = skip_at rest left >>= outer_at nested

-- What follows the element, from the scanner's state on (own).
abbrev pub goes_on : Scanner → List ℕ → Result (List ℕ) BerFault
goes_on s rest = at_due s.due s.nested rest

-- What follows the outermost element where a scanner goes on, or all that follows where the element is
-- whole (own).
abbrev pub goes_on_or : Option Scanner → List ℕ → Result (List ℕ) BerFault
goes_on_or None rest = Ok rest
goes_on_or (Some s) rest = goes_on s rest

-- What is answered stands for what reading gives: it gives the same from the scanner's state on, or
-- the fault, whatever follows (own).
abbrev pub Leads : (List ℕ → Result (List ℕ) BerFault) → Result (Option Scanner) BerFault → Type 0
Leads reading (Ok s) = (rest : List ℕ) → goes_on_or s rest ≡ reading rest
Leads reading (Err f) = (is_short f ≡ false) × ((rest : List ℕ) → reading rest ≡ Err f)
