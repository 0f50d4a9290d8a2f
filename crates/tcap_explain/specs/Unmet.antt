-- What contents have to be to stand in a table, and what is not met first where they don't: the relations, one
-- case for each "when".
use Rattle.std.specs.Prelude.{◌≡◌, ◌≢◌, ℕ, true, false, List, [], ◌++◌, length, Some, None}
use Rattle.ber_core.specs.declared.fault.BerFault.{BerFault}
use Rattle.ber_core.specs.Element.{Parts, IsElement, depth_limit}
use Rattle.ber_core.specs.Fault.{ElementFault}
use Rattle.ber_core.specs.Place.{head_length}
use Rattle.tcap_explain.specs.declared.contents.Contents.{Contents}
use Rattle.tcap_explain.specs.declared.line.Line.{Line}
use Rattle.tcap_explain.specs.declared.line.Rule.TheVariants as rule
use Rattle.tcap_explain.specs.declared.line.Explained.{Explained}
use Rattle.tcap_explain.specs.declared.table.Inside.{Inside}
use Rattle.tcap_explain.specs.declared.table.Inside.TheVariants as inside
use Rattle.tcap_explain.specs.Choice.{leads}
use Rattle.tcap_explain.specs.EncodingPlace.{IsToldAt}
use Rattle.tcap_explain.specs.Octets.{fits}
use Rattle.tcap_explain.specs.Table.{next, may_end, is_over}
use Rattle.tcap_explain.specs.Walk.{unmet, further}

mutual
  -- The content of an element is what is asked of it (Q.773, tables of information elements).
  pub data Holds : Inside → List ℕ → Type 0 where
    octets : (contents : Contents) (content : List ℕ) → fits contents content ≡ true → Holds (inside.Octets contents) content
    elements : (line : Line) (content : List ℕ) → Stands line content → Holds (inside.Elements line) content
    listed : (first second : Line) (content : List ℕ) → Stands first content → Stands second content → Holds (inside.Listed first second) content

  -- The bytes are the elements of a table from the line on, in its order
  -- (Q.773, tables of information elements).
  pub data Stands : Line → List ℕ → Type 0 where
    ends : (line : Line) → may_end line ≡ true → Stands line []
    begins : (line then : Line) (held : Inside) (e : Parts) (rest : List ℕ) → IsElement depth_limit e → next line e.tag e.content ≡ Some (leads held then) → Holds held e.content → Stands then rest → Stands line (e.whole ++ rest)

mutual
  -- What is not met first in the content of an element, which begins behind a head of so many octets (own).
  pub data UnmetInside : ℕ → Inside → List ℕ → Explained → Type 0 where
    -- The contents octets aren't what they have to be: they are the place.
    bad_octets : (head : ℕ) (contents : Contents) (content : List ℕ) → fits contents content ≡ false → UnmetInside head (inside.Octets contents) content (unmet head 0 (rule.Octets contents (length content)))
    -- The elements aren't those of the table.
    bad_elements : (head : ℕ) (line : Line) (content : List ℕ) (x : Explained) → Unmet line content x → UnmetInside head (inside.Elements line) content (further head x)
    -- They aren't those of the first table; or they are, and not those of the second.
    not_first : (head : ℕ) (first second : Line) (content : List ℕ) (x : Explained) → Unmet first content x → UnmetInside head (inside.Listed first second) content (further head x)
    not_second : (head : ℕ) (first second : Line) (content : List ℕ) (x : Explained) → Stands first content → Unmet second content x → UnmetInside head (inside.Listed first second) content (further head x)

  -- What is not met first in bytes that are to be the elements of a table from the line on (own).
  pub data Unmet : Line → List ℕ → Explained → Type 0 where
    -- Nothing is left, and the line has an element that has to be there: the place is the end.
    missing : (line : Line) → may_end line ≡ false → Unmet line [] (unmet 0 0 (rule.Missing line))
    -- Something is left where nothing may follow: the place is its first octet.
    more : (line : Line) (bytes : List ℕ) → bytes ≢ [] → is_over line ≡ true → Unmet line bytes (unmet 0 0 (rule.Other line))
    -- No element can be read: the place is the octet at which its fault is told.
    unreadable : (line : Line) (bytes : List ℕ) (place : ℕ) (f : BerFault) → bytes ≢ [] → is_over line ≡ false → ElementFault depth_limit bytes f → IsToldAt place bytes → Unmet line bytes (unmet place 0 (rule.Encoding f))
    -- The element isn't one that the line has: the place is its first octet.
    other : (line : Line) (e : Parts) (rest : List ℕ) → IsElement depth_limit e → next line e.tag e.content ≡ None → Unmet line (e.whole ++ rest) (unmet 0 0 (rule.Other line))
    -- It is, and something is not met inside.
    inside_it : (line then : Line) (held : Inside) (e : Parts) (rest : List ℕ) (x : Explained) → IsElement depth_limit e → next line e.tag e.content ≡ Some (leads held then) → UnmetInside (head_length e.whole) held e.content x → Unmet line (e.whole ++ rest) x
    -- It fits its place and is passed: something is not met behind it.
    behind_it : (line then : Line) (held : Inside) (e : Parts) (rest : List ℕ) (x : Explained) → IsElement depth_limit e → next line e.tag e.content ≡ Some (leads held then) → Holds held e.content → Unmet then rest x → Unmet line (e.whole ++ rest) (further (length e.whole) x)
