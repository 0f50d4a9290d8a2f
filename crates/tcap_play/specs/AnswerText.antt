-- The lines of an answer, and of what follows it.
use Rattle.std.specs.Prelude.{ℕ, ◌+◌, Bool, true, false, List, [], ◌∷◌, ◌++◌, codes, length}
use Rattle.std.specs.List.{filter}
use Rattle.std.specs.Fmt.{decimal}
use Rattle.tcap_model.specs.Words.Answer.{Answer}
use Rattle.tcap_model.specs.Words.Fault.{fault_number}
use Rattle.tcap_model.specs.Words.Output.{Output}
use Rattle.tcap_play.specs.OutputText.{engine_line, output_line}
use Rattle.tcap_play.specs.Sides.{Engine}

-- Whether an output sends a message (own).
abbrev pub is_message : Output → Bool
is_message (Output.send to bytes) = true
is_message (Output.dialogue told) = false
is_message (Output.component told) = false
is_message (Output.dropped why) = false

-- How many messages these outputs send (own).
abbrev pub sends_in : List Output → ℕ
sends_in outputs = length (filter is_message outputs)

-- The lines of the outputs of an engine that has sent so many messages before them, in their order: each
-- message has the number that follows those of all before it (own).
abbrev pub output_lines : Engine → ℕ → List Output → List ℕ
output_lines engine sent [] = []
output_lines engine sent (output ∷ outputs) = output_line engine (sent + 1) output ++ output_lines engine (sent + sends_in (output ∷ [])) outputs

-- Whether an answer prints nothing: it has no outputs (own).
abbrev pub prints_nothing : Answer → Bool
prints_nothing (Answer.new_dialogue dialogue) = false
prints_nothing (Answer.number number) = false
prints_nothing Answer.done = false
prints_nothing (Answer.given_up number) = false
prints_nothing (Answer.outputs []) = true
prints_nothing (Answer.outputs (output ∷ outputs)) = false
prints_nothing (Answer.refused fault) = false

-- The lines of an answer of an engine that has sent so many messages before it: its outputs one by one,
-- and every other answer in one line (own).
abbrev pub answer_lines : Engine → ℕ → Answer → List ℕ
answer_lines engine sent (Answer.new_dialogue dialogue) = engine_line engine (codes "new " ++ decimal dialogue)
answer_lines engine sent (Answer.number number) = engine_line engine (codes "number " ++ decimal number)
answer_lines engine sent Answer.done = engine_line engine (codes "done")
answer_lines engine sent (Answer.given_up number) = engine_line engine (codes "givenup " ++ decimal number)
answer_lines engine sent (Answer.outputs outputs) = output_lines engine sent outputs
answer_lines engine sent (Answer.refused fault) = engine_line engine (codes "refused " ++ decimal (fault_number fault))
