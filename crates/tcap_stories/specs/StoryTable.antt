-- The forms of the lines of a story.
use Rattle.std.specs.Prelude.{ℕ, neg_ℤ, pos, List, [], ◌∷◌, codes}
use Rattle.tcap_invocation.specs.Stage.{moment_limit}
use Rattle.tcap_lines.specs.declared.expected.Expected.{Expected}
use Rattle.tcap_lines.specs.declared.expected.Expected.TheVariants as expected
use Rattle.tcap_lines.specs.Table.{FormWords, LineTable}

-- A form of this name (own).
abbrev pub form : List ℕ → List Expected → FormWords
form name words = record { name = name; words = words }

-- A dialogue (own).
abbrev pub dialogue : Expected
dialogue = expected.Number 0 4294967295

-- An invoke identifier (own).
abbrev pub identifier : Expected
identifier = expected.Signed (neg_ℤ (pos 128)) (pos 127)

-- An invoke identifier that may be absent (own).
abbrev pub optional_identifier : Expected
optional_identifier = expected.OptionalSigned (neg_ℤ (pos 128)) (pos 127)

-- A local code (own).
abbrev pub code : Expected
code = expected.Signed (neg_ℤ (pos 2147483648)) (pos 2147483647)

-- A local code that may be absent (own).
abbrev pub optional_code : Expected
optional_code = expected.OptionalSigned (neg_ℤ (pos 2147483648)) (pos 2147483647)

-- A moment or a timeout (own).
abbrev pub milliseconds : Expected
milliseconds = expected.Number 0 18446744073709551615

-- The words of a request with a dialogue portion (own).
abbrev pub portion : List Expected
portion = dialogue ∷ expected.Context ∷ expected.Octets ∷ []

-- The words of a result (own).
abbrev pub result : List Expected
result = dialogue ∷ identifier ∷ optional_code ∷ expected.OctetsBehindCode ∷ []

-- The words of an invoke (own).
abbrev pub invoke : List Expected
invoke = dialogue ∷ identifier ∷ expected.Number 1 4 ∷ code ∷ milliseconds ∷ optional_identifier ∷ expected.Octets ∷ []

-- The forms behind a side (docs/FORMATS.md, play: the script).
abbrev pub forms_on_side : List FormWords
forms_on_side =
    form (codes "new") []
    ∷ form (codes "invoke") invoke
    ∷ form (codes "last") result
    ∷ form (codes "more") result
    ∷ form (codes "error") (dialogue ∷ identifier ∷ code ∷ expected.Octets ∷ [])
    ∷ form (codes "reject") (dialogue ∷ optional_identifier ∷ expected.ProblemKind ∷ expected.Number 0 127 ∷ [])
    ∷ form (codes "cancel") (dialogue ∷ identifier ∷ [])
    ∷ form (codes "uni") portion
    ∷ form (codes "begin") portion
    ∷ form (codes "continue") portion
    ∷ form (codes "end") portion
    ∷ form (codes "beginto") (dialogue ∷ expected.Address ∷ expected.Context ∷ expected.Octets ∷ [])
    ∷ form (codes "prearranged") (dialogue ∷ [])
    ∷ form (codes "abort") (dialogue ∷ expected.AbortReason ∷ expected.Octets ∷ [])
    ∷ form (codes "raw") (expected.Octets ∷ [])
    ∷ form (codes "rawfrom") (expected.Address ∷ expected.Octets ∷ [])
    ∷ []

-- The forms without a side (docs/FORMATS.md, play: the script, and stories).
abbrev pub forms_alone : List FormWords
forms_alone =
    form (codes "deliver") (expected.Message ∷ [])
    ∷ form (codes "again") (expected.Message ∷ [])
    ∷ form (codes "lose") (expected.Message ∷ [])
    ∷ form (codes "advance") (milliseconds ∷ [])
    ∷ form (codes "idle") (expected.Number 0 moment_limit ∷ [])
    ∷ form (codes "expect") []
    ∷ []

-- The forms of the lines of a story (own).
abbrev pub story_table : LineTable
story_table = record { sides = codes "A" ∷ codes "B" ∷ []; on_side = forms_on_side; alone = forms_alone }
