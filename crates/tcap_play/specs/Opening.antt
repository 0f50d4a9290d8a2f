-- How a script opens: with a line that sets the idle limit, or with none.
use Rattle.std.specs.Prelude.{ℕ, ◌+◌, List, [], ◌∷◌, Option, Some, None, codes, bytes_eq, if◌then◌else◌}
use Rattle.tcap_play.specs.Pieces.{is_skipped, lines_of, words_of}
use Rattle.tcap_play.specs.ScriptWords.{idle_limit_of}

-- The idle limit of both engines, in milliseconds, 0 for none; how many lines stand before those of the
-- play; and these (own).
pub record Opening : Type 0 where
  pub idle_ms : ℕ
  pub passed : ℕ
  pub lines : List (List ℕ)

-- The idle limit that the words of a line set: `idle MS`; none where they have another form (own).
abbrev pub limit_in : List (List ℕ) → Option ℕ
limit_in (first ∷ second ∷ []) = if bytes_eq first (codes "idle") then idle_limit_of second else None
limit_in words = None

-- The idle limit that a line sets, none where it sets none (own).
abbrev pub limit_of : List ℕ → Option ℕ
limit_of line = limit_in (words_of line)

-- So many lines are skipped, and then comes this one, before these: it sets the limit, or it is the first
-- of the play (own).
abbrev pub opened_by : ℕ → List ℕ → List (List ℕ) → Option ℕ → Opening
opened_by passed line lines None = record { idle_ms = 0; passed = passed; lines = line ∷ lines }
opened_by passed line lines (Some idle_ms) = record { idle_ms = idle_ms; passed = passed + 1; lines = lines }

-- How the lines open that stand behind so many skipped ones: only the first that isn't skipped can set the
-- limit (own).
unfoldable pub opening_from : ℕ → List (List ℕ) → Opening
opening_from passed [] = record { idle_ms = 0; passed = passed; lines = [] }
opening_from passed (line ∷ lines) =
    if is_skipped line then opening_from (passed + 1) lines else opened_by passed line lines (limit_of line)

-- How a script opens (own).
abbrev pub opening_of : List ℕ → Opening
opening_of script = opening_from 0 (lines_of script)
