-- What waits, in two outboxes.
use Rattle.std.specs.Prelude.{◌≡◌, ℕ, ◌≤◌, List, [], ◌++◌, length, drop}
use Rattle.tcap_model.specs.Words.Output.{Output}
use Rattle.tcap_station.specs.Marks.{AreMarked, IsOrdered, marked, marks_in}
use Rattle.tcap_station.specs.WaitingOutput.{WaitingOutput}
use Rattle.tcap_station.specs.declared.line.Line.{Line}

-- Of the outputs in front so many are taken; they are forgotten with the last of them (own).
abbrev pub IsLeft : ℕ → List Output → Type 0
IsLeft taken outputs = length outputs ≤ taken → outputs ≡ []

module _ {A : Type 0} where
  -- The outputs that wait: those in front that aren't taken yet, then those behind (own).
  abbrev pub line_outputs : Line A → List Output
  line_outputs l = drop l.taken l.front.outputs ++ l.back.outputs

  -- The same, each with the number of its event (own).
  abbrev pub waiting_in : Line A → List WaitingOutput
  waiting_in l = marked (marks_in l.marks) (line_outputs l)

  -- The events have all outputs that wait, in order, and the outputs in front are forgotten once they are taken (own).
  pub record IsInLine (l : Line A) : Type 0 where
    pub marked : AreMarked (marks_in l.marks) (line_outputs l)
    pub ordered : IsOrdered l.marks
    pub left : IsLeft l.taken l.front.outputs
