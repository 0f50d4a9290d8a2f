-- What is stated of histories in which an engine answers wrongly.
use Rattle.std.specs.Prelude.{◌≡◌, ℕ, List, ◌∷◌, map, reverse, option_to_list}
use Rattle.tcap_model.specs.Invocations.Closings.{Told, closings}
use Rattle.tcap_model.specs.Invocations.Decision.{decision, as_list}
use Rattle.tcap_model.specs.Histories.History.{Start}
use Rattle.tcap_model.specs.Replies.Legal.{IsLegal}
use Rattle.tcap_model.specs.Invocations.Outcome.{outcome}
use Rattle.tcap_model.specs.Histories.Pair.{Pair, Past}

-- A history whose last answer is meant to be wrong: the pairs before it, and that pair (own).
pub record Wrong : Type 0 where
  pub start : Start
  pub before : Past
  pub last : Pair

-- A wrong history, its pairs written in order of time (own).
abbrev pub wrong : Start → List Pair → Pair → Wrong
wrong start pairs last = record { start = start; before = reverse pairs; last = last }

-- The pairs, with the last one (own).
abbrev pub whole : Wrong → Past
whole w = w.last ∷ w.before

-- All answers but the last are the replies to what stands before them, and the last one isn't (own).
pub record GoesWrong (w : Wrong) : Type 0 where
  pub legal_before : IsLegal (record { start = w.start; pairs = w.before })
  pub not_legal : IsLegal (record { start = w.start; pairs = whole w }) → ⊥

-- The closing indications of an invocation aren't those that its outcome asks for, at the place where
-- it was decided (own).
abbrev pub TellsWrong : ℕ → Past → Type 0
TellsWrong n past = closings n past ≡ as_list (decision n past) → ⊥

-- What is told of an invocation is its outcome, and no more, but not in the answer to the event that
-- decided it (own).
pub record TellsElsewhere (n : ℕ) (past : Past) : Type 0 where
  pub is_outcome : map (λ (t : Told). t.closing) (closings n past) ≡ option_to_list (outcome n past)
  pub tells_wrong : TellsWrong n past
