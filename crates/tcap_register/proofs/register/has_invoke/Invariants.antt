use Rattle.std.proofs.Common.{◌≡◌, drop}
use Rattle.std.specs.List.{list_any}
use Rattle.tcap_primitives.specs.OutputViews.{all_shown}
use Rattle.tcap_register.specs.Serving.{is_invoke}
use Rattle.tcap_register.proofs.register.has_invoke.Given as goal

abbrev pub invariant-loop-output : goal.invariant-loop-output
invariant-loop-output g l =
    list_any is_invoke (all_shown l.heard) ≡ list_any is_invoke (all_shown (drop l.output-index l.heard))
