-- What a call of a dialogue gives, beside what the table says.
use Rattle.std.specs.Prelude.{◌≡◌, ℕ, Bool, List, Option, Some, None, if◌then◌else◌}
use Rattle.tcap_model.specs.Procedures.QueueRules.{queue_limit}
use Rattle.tcap_model.specs.Table.Dialogue as model
use Rattle.tcap_model.specs.Procedures.Refusals.{due_on}
use Rattle.tcap_model.specs.Table.TableMove.{Moved, Setting, left_standing, situation, requested_by}
use Rattle.tcap_model.specs.Words.Answer.{Answer}
use Rattle.tcap_model.specs.Words.Output.{Output}
use Rattle.tcap_model.specs.Words.Request.{Request}
use Rattle.tcap_dialogue.specs.declared.dialogue.Step.{Step}
use Rattle.tcap_primitives.specs.OutputViews.{all_shown}
use Rattle.tcap_primitives.specs.SinkViews.{KeepsOutputs, told_since}

-- What is answered, and the dialogue if it stands (own).
abbrev pub Outcome : Type 0
Outcome = Answer × Option model.Dialogue

-- What the table says (own).
abbrev pub outcome : Moved → Outcome
outcome m = (m.answer, left_standing m)

-- What a step gave, where the dialogue is then this one; of one that is over nothing is said (own).
abbrev pub stepped : {A : Type 0} → Step A → model.Dialogue → Outcome
stepped s d = (Answer.outputs (all_shown s.outputs.items), (if s.over then None else Some d))

-- What was told, where the dialogue is then this one; of one that is over nothing is said (own).
abbrev pub told_outcome : List Output → Bool → model.Dialogue → Outcome
told_outcome told over d = (Answer.outputs told, (if over then None else Some d))

-- What a step appended to the outputs is what the outcome answers, and the dialogue is what it says; what was there
-- before stays (own).
abbrev pub StepsTo : List Output → List Output → Bool → model.Dialogue → Outcome → Type 0
StepsTo before after over d o = KeepsOutputs before after × (told_outcome (told_since before after) over d ≡ o)

-- What is around a dialogue of which something is asked at this moment, where an invocation gets this
-- number (own).
abbrev pub asked : ℕ → ℕ → Setting
asked clock number = record { clock = clock; number = number; limit = queue_limit }

-- What is around a dialogue that takes a message at this moment: no invocation gets a number (own).
abbrev pub at_clock : ℕ → Setting
at_clock clock = asked clock 0

-- What the table says of a request at this moment, where an invocation gets this number (own).
abbrev pub requested : ℕ → ℕ → model.Dialogue → Request → Outcome
requested clock number d r =
    outcome (requested_by (asked clock number) d r (due_on (situation (asked clock number) d r) r))
