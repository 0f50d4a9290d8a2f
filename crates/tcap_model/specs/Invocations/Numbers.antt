-- The numbers of invocations that were told.
use Rattle.std.specs.Prelude.{ℕ, List, Option, Some, None, option_to_list}
use Rattle.tcap_model.specs.Words.Answer.{Answer}
use Rattle.tcap_model.specs.Histories.Pair.{Past, gathered}

-- The number of a new invocation that an answer carries (own).
abbrev pub number_of : Answer → Option ℕ
number_of (Answer.new_dialogue dialogue) = None
number_of (Answer.number n) = Some n
number_of Answer.done = None
number_of (Answer.given_up n) = None
number_of (Answer.outputs outputs) = None
number_of (Answer.refused fault) = None

-- The numbers that answers carry, in order of time (own).
abbrev pub numbers : Past → List ℕ
numbers past = gathered (λ pair before. option_to_list (number_of pair.answer)) past
