-- The outputs of an answer.
use Rattle.std.specs.Prelude.{List, []}
use Rattle.tcap_model.specs.Words.Answer.{Answer}
use Rattle.tcap_model.specs.Words.Output.{Output}

-- The outputs of an answer (own).
abbrev pub outputs_in : Answer → List Output
outputs_in (Answer.new_dialogue dialogue) = []
outputs_in (Answer.number number) = []
outputs_in Answer.done = []
outputs_in (Answer.given_up number) = []
outputs_in (Answer.outputs outputs) = outputs
outputs_in (Answer.refused fault) = []
