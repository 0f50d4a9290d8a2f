use Rattle.std.proofs.Common.{take}
use Rattle.tcap_primitives.specs.OutputViews.{all_shown}
use Rattle.tcap_register.specs.Serving.{ServesAll}
use Rattle.tcap_register.proofs.register.serve_all.Given as goal

abbrev pub invariant-loop-output : goal.invariant-loop-output
invariant-loop-output g l =
    ServesAll g.O.Operations.class_of_gives g.O.Operations.answer_gives g.O.Operations.refused_gives
    (take l.output-index (all_shown l.heard)) l.initial.engine l.initial.operations l.engine l.operations
