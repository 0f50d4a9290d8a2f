-- The events of which outputs wait: what private steps do to them.
use Rattle.std.specs.Prelude.{◌≡◌, ◌⊎◌, ℕ, ◌<◌, ◌≤◌, zero, suc, List, [], ◌∷◌, ◌++◌, length, take, drop, Option, Some, None}
use Rattle.std.specs.VecDeque.{deque_capacity, deque_len}
use Rattle.tcap_model.specs.Words.Output.{Output}
use Rattle.tcap_station.specs.WaitingOutput.{WaitingOutput, numbered_outputs}
use Rattle.tcap_station.specs.declared.line.marks.Mark.{Mark}
use Rattle.tcap_station.specs.declared.line.marks.Marks.{Marks}

-- The first of them, and then the others (own).
abbrev pub with_first : Option Mark → List Mark → List Mark
with_first None others = []
with_first (Some m) others = m ∷ others

module _ {A : Type 0} where
  -- The events of which outputs wait, in order (own).
  abbrev pub marks_in : Marks A → List Mark
  marks_in ms = with_first ms.first ms.others.items

  -- There are others only where there is a first (own).
  abbrev pub IsOrdered : Marks A → Type 0
  IsOrdered ms = ms.first ≡ None → ms.others.items ≡ []

  -- There is a place for an event more (own).
  abbrev pub HasPlace : Marks A → Type 0
  HasPlace ms = (ms.first ≡ None) ⊎ (deque_len ms.others < deque_capacity ms.others)

-- The outputs that wait, where events have so many of them, one event after the other (own).
abbrev pub marked : List Mark → List Output → List WaitingOutput
marked [] outputs = []
marked (m ∷ ms) outputs = numbered_outputs m.event (take m.left outputs) ++ marked ms (drop m.left outputs)

-- An event has one output at least, and no more than there are (own).
pub record IsMarked (m : Mark) (outputs : List Output) : Type 0 where
  pub some : 0 < m.left
  pub within : m.left ≤ length outputs

-- The events have all outputs, one event after the other (own).
abbrev pub AreMarked : List Mark → List Output → Type 0
AreMarked [] outputs = outputs ≡ []
AreMarked (m ∷ ms) outputs = IsMarked m outputs × AreMarked ms (drop m.left outputs)

-- An event more, where it has outputs (own).
abbrev pub with_mark : List Mark → ℕ → ℕ → List Mark
with_mark ms event zero = ms
with_mark ms event (suc count) = ms ++ record { event = event; left = suc count } ∷ []

-- An event of which so many outputs are left has one less; without outputs it goes (own).
abbrev pub one_less : ℕ → ℕ → List Mark → List Mark
one_less event zero ms = ms
one_less event (suc zero) ms = ms
one_less event (suc (suc left)) ms = record { event = event; left = suc left } ∷ ms

-- The first event has an output less (own).
abbrev pub less_one : List Mark → List Mark
less_one [] = []
less_one (m ∷ ms) = one_less m.event m.left ms
