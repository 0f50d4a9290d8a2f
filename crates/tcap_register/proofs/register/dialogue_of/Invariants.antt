use Rattle.std.proofs.Common.{◌≡◌, drop}
use Rattle.tcap_primitives.specs.OutputViews.{all_shown}
use Rattle.tcap_register.specs.Serving.{dialogue_of}
use Rattle.tcap_register.proofs.register.dialogue_of.Given as goal

abbrev pub invariant-loop-output : goal.invariant-loop-output
invariant-loop-output g l = dialogue_of (all_shown l.heard) ≡ dialogue_of (all_shown (drop l.output-index l.heard))
