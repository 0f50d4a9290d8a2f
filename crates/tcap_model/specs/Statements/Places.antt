-- Where a pair stands in a history, and what an answer tells.
use Rattle.std.specs.Prelude.{◌≡◌, List, ◌∷◌, ◌++◌}
use Rattle.tcap_model.specs.Words.Answer.{Answer}
use Rattle.tcap_model.specs.Words.Output.{Output}
use Rattle.tcap_model.specs.Histories.Pair.{Pair, Past}

-- A pair stands in a history, with this before it (own).
pub record StandsIn (pair : Pair) (before past : Past) : Type 0 where
  pub later : Past
  pub is_past : past ≡ later ++ pair ∷ before

-- An answer holds an output (own).
pub record Tells (answer : Answer) (output : Output) : Type 0 where
  pub earlier : List Output
  pub later : List Output
  pub is_answer : answer ≡ Answer.outputs (earlier ++ output ∷ later)
