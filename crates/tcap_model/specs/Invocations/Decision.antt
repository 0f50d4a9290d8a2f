-- Where the outcome of an invocation was decided.
use Rattle.std.specs.Prelude.{ℕ, List, [], ◌∷◌, Option, Some, None, option_to_list}
use Rattle.std.specs.Option.{option_or}
use Rattle.tcap_model.specs.Invocations.Closings.{Told}
use Rattle.tcap_model.specs.Invocations.Invocation.{Invocation, invocation_of}
use Rattle.tcap_model.specs.Invocations.Outcome.{outcome_of}
use Rattle.tcap_model.specs.Words.Output.{Closing}
use Rattle.tcap_model.specs.Histories.Pair.{Past}

-- The closing indication that an outcome asks for at this place (own).
abbrev pub told_outcome : Past → Invocation → Option Closing → Option Told
told_outcome place i None = None
told_outcome place i (Some closing) =
    Some (record { place = place; dialogue = i.dialogue; id = i.id; closing = closing })

-- Where an invocation was decided, and how, if there is such an invocation (own).
abbrev pub decided_of : Past → Option Invocation → Option Told
decided_of place None = None
decided_of place (Some i) = told_outcome place i (outcome_of (Some i) place)

-- The outcome as it stands at this place (own).
abbrev pub decided_at : ℕ → Past → Option Told
decided_at n place = decided_of place (invocation_of n place)

-- The outcome of the invocation of a number, at the first place where there was one: the answer
-- there has to tell it (own).
abbrev pub decision : ℕ → Past → Option Told
decision n [] = None
decision n (pair ∷ past) = option_or (decision n past) (decided_at n (pair ∷ past))

-- The closing indications that a decision asks for: none, or the one (own).
abbrev pub as_list : Option Told → List Told
as_list decided = option_to_list decided
