-- The forms that a line may have.
use Rattle.std.specs.Prelude.{ℕ, pos, neg_ℤ, List, [], ◌∷◌, codes}
use Rattle.tcap_lines.specs.Table.{FormWords, LineTable}
use Rattle.tcap_lines.specs.declared.expected.Expected.{Expected}
use Rattle.tcap_lines.specs.declared.expected.Expected.TheVariants as expected

-- A form by its name and what the words behind it have to be (own).
abbrev pub form : List ℕ → List Expected → FormWords
form name words = record { name = name; words = words }

-- The identifier of a dialogue (own).
abbrev pub dialogue : Expected
dialogue = expected.Number 0 4294967295

-- Milliseconds (own).
abbrev pub milliseconds : Expected
milliseconds = expected.Number 0 18446744073709551615

-- An invoke identifier (own).
abbrev pub identifier : Expected
identifier = expected.Signed (neg_ℤ (pos 128)) (pos 127)

-- An invoke identifier that may be left out (own).
abbrev pub optional_identifier : Expected
optional_identifier = expected.OptionalSigned (neg_ℤ (pos 128)) (pos 127)

-- A local code (own).
abbrev pub code : Expected
code = expected.Signed (neg_ℤ (pos 2147483648)) (pos 2147483647)

-- The code of a body that may be left out (own).
abbrev pub optional_code : Expected
optional_code = expected.OptionalSigned (neg_ℤ (pos 2147483648)) (pos 2147483647)

-- The forms of dialogue handling, and those that ask no dialogue for anything (own).
abbrev pub other_forms : List FormWords
other_forms =
    form (codes "begin") (dialogue ∷ expected.Address ∷ expected.DottedContext ∷ expected.Octets ∷ [])
    ∷ form (codes "uni") (dialogue ∷ expected.Address ∷ expected.DottedContext ∷ expected.Octets ∷ [])
    ∷ form (codes "continue") (dialogue ∷ expected.DottedContext ∷ expected.Octets ∷ [])
    ∷ form (codes "end") (dialogue ∷ expected.DottedContext ∷ expected.Octets ∷ [])
    ∷ form (codes "prearranged") (dialogue ∷ [])
    ∷ form (codes "abort") (dialogue ∷ expected.AbortReason ∷ expected.Octets ∷ [])
    ∷ form (codes "receive") (expected.Address ∷ expected.Octets ∷ [])
    ∷ form (codes "advance") (milliseconds ∷ [])
    ∷ form (codes "timer") []
    ∷ form (codes "state") (dialogue ∷ [])
    ∷ []

-- All forms: a new dialogue, those of component handling, and the others (own).
abbrev pub live_forms : List FormWords
live_forms =
    form (codes "new") []
    ∷ form (codes "invoke") (dialogue ∷ identifier ∷ expected.Number 1 4 ∷ code ∷ milliseconds ∷ optional_identifier ∷ expected.Octets ∷ [])
    ∷ form (codes "last") (dialogue ∷ identifier ∷ optional_code ∷ expected.OctetsBehindCode ∷ [])
    ∷ form (codes "more") (dialogue ∷ identifier ∷ optional_code ∷ expected.OctetsBehindCode ∷ [])
    ∷ form (codes "error") (dialogue ∷ identifier ∷ code ∷ expected.Octets ∷ [])
    ∷ form (codes "reject") (dialogue ∷ optional_identifier ∷ expected.ProblemKind ∷ expected.Number 0 127 ∷ [])
    ∷ form (codes "cancel") (dialogue ∷ identifier ∷ [])
    ∷ other_forms

-- The table of a line: the name of a form is its first word (own).
abbrev pub live_table : LineTable
live_table = record { sides = []; on_side = []; alone = live_forms }
