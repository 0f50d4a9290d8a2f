use Rattle.std.proofs.Common.{◌≡◌, ◌++◌}
use Rattle.tcap_play.specs.Pieces.{left}
use Rattle.tcap_stories.specs.Outputs.{outputs_in}
use Rattle.tcap_stories.specs.Views.{outputs_left, texts_of}
use Rattle.tcap_stories.proofs.outputs.outputs_in.Given as goal

-- the outputs so far, and those of what is left, are all
abbrev pub invariant-loop-rest : goal.invariant-loop-rest
invariant-loop-rest g l = texts_of l.outputs.items ++ outputs_left l.rest ≡ outputs_in l.text

abbrev pub decreases-loop-rest : goal.decreases-loop-rest
decreases-loop-rest g l = left l.rest
