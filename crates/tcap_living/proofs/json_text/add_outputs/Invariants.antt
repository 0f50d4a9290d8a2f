use Rattle.std.proofs.Common.{◌≡◌, ◌++◌, drop, string_bytes}
use Rattle.tcap_primitives.specs.OutputViews.{all_shown}
use Rattle.tcap_living.specs.JsonText.{json_outputs}
use Rattle.tcap_living.proofs.json_text.add_outputs.Given as goal

-- the objects so far and those of the outputs that are left
abbrev pub invariant-loop-output : goal.invariant-loop-output
invariant-loop-output g l = string_bytes l.text ++ json_outputs l.number (all_shown (drop l.output-index l.outputs)) ≡ string_bytes l.fn.text ++ json_outputs l.number (all_shown l.outputs)
