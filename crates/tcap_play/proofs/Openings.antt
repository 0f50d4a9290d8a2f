-- How lines open.
use Rattle.std.proofs.Common.{◌≡◌, ◌+◌, ℕ, true, false, List, [], ◌∷◌, Option, Some, None, MatchOption, IfSome, length, ◌<◌, ◌≤◌, refl, arith}
use Rattle.ber_core.specs.Place.{Slice}
use Rattle.tcap_play.specs.Opening.{limit_of, opened_by, opening_from}
use Rattle.tcap_play.specs.Pieces.{is_skipped, left, pieces, pieces_left}

-- a line that is skipped is passed
pub from-skipped : (passed : ℕ) (line : List ℕ) (lines : List (List ℕ)) → is_skipped line ≡ true
    → opening_from passed (line ∷ lines) ≡ opening_from (passed + 1) lines
unfolding opening_from
from-skipped passed line lines is = rw is refl

-- the first that isn't sets the limit, or is the first of the play
pub from-first : (passed : ℕ) (line : List ℕ) (lines : List (List ℕ)) → is_skipped line ≡ false
    → opening_from passed (line ∷ lines) ≡ opened_by passed line lines (limit_of line)
unfolding opening_from
from-first passed line lines is = rw is refl

-- no line is left
pub passed-all : (passed : ℕ) → opening_from passed [] ≡ record { idle_ms = 0; passed = passed; lines = [] }
unfolding opening_from
passed-all passed = refl

-- a first line and those behind it
pub cut-lines : (lines line : List ℕ) (more : Option Slice)
    → MatchOption more (pieces 10 lines ≡ line ∷ []) (λ rest. pieces 10 lines ≡ line ∷ pieces 10 rest.now)
    → pieces 10 lines ≡ line ∷ pieces_left 10 more
cut-lines lines line None cut = cut
cut-lines lines line (Some rest) cut = cut

-- fewer lines are left behind it
pub left-passed : (passed : ℕ) (more : Option Slice) (lines : Slice) (most : ℕ) → IfSome more (λ rest. length rest.now < length lines.now)
    → passed + left (Some lines) ≤ most + 1 → passed + 1 + left more ≤ most + 1
left-passed passed None lines most shorter within = omega (arith, within)
left-passed passed (Some rest) lines most shorter within = omega (arith, shorter, within)
