-- What an engine does for a line, as a contract sees it.
use Rattle.std.specs.Prelude.{◌≡◌, ℕ, Bool, true, false, List, ◌++◌, Option, Some, None}
use Rattle.tcap_model.specs.Histories.History.{History}
use Rattle.tcap_model.specs.Table.World.{StandsAt, World}
use Rattle.tcap_living.specs.LiveLine.{LiveLine}
use Rattle.tcap_living.specs.LiveText.{asked_after, asked_lines, is_good_line, line_after, line_text}
use Rattle.tcap_living.specs.declared.format.Format.{Format}

-- What a line asks for was done at a history: the engine stands at the history after it, and the answer was
-- added to a text (own).
pub record Does (format : Format) (h : History) (number : ℕ) (line : LiveLine) (new : World) (before after : List ℕ) : Type 0 where
  pub stands : StandsAt (asked_after h line) new
  pub prints : after ≡ before ++ asked_lines format number h line

-- What a line asks for was done, or it asks for nothing and nothing was done, and it was told which (own).
abbrev pub DoesIf : Format → History → ℕ → Option LiveLine → Bool → World → List ℕ → List ℕ → Type 0
DoesIf format h number None done new before after = (done ≡ false) × StandsAt h new × (after ≡ before)
DoesIf format h number (Some line) done new before after = (done ≡ true) × Does format h number line new before after

-- At each history at which the engine stands what a line asks for was done (own).
abbrev pub DoesAt : Format → ℕ → LiveLine → World → World → List ℕ → List ℕ → Type 0
DoesAt format number line old new before after = (h : History) → StandsAt h old → Does format h number line new before after

-- At each history at which the engine stands what a line asks for was done, if it is one, and it was told
-- whether it is (own).
abbrev pub DoesAtIf : Format → ℕ → Option LiveLine → Bool → World → World → List ℕ → List ℕ → Type 0
DoesAtIf format number line done old new before after = (h : History) → StandsAt h old → DoesIf format h number line done new before after

-- The line of these octets was answered at a history: the engine stands at the history after it, the answer
-- was added to a text, and this tells whether the line is good (own).
pub record Answers (format : Format) (h : History) (number : ℕ) (line : List ℕ) (good : Bool) (new : World) (before after : List ℕ) : Type 0 where
  pub stands : StandsAt (line_after h line) new
  pub prints : after ≡ before ++ line_text format number h line
  pub verdict : good ≡ is_good_line line

-- At each history at which the engine stands the line of these octets was answered (own).
abbrev pub AnswersAt : Format → ℕ → List ℕ → Bool → World → World → List ℕ → List ℕ → Type 0
AnswersAt format number line good old new before after = (h : History) → StandsAt h old → Answers format h number line good new before after
