use Rattle.std.proofs.Common.{◌≡◌, ◌++◌, drop, string_bytes}
use Rattle.tcap_primitives.specs.OutputViews.{all_shown}
use Rattle.tcap_living.specs.LiveText.{output_lines}
use Rattle.tcap_living.proofs.answer_text.add_outputs.Given as goal

-- the lines so far and those of the outputs that are left
abbrev pub invariant-loop-output : goal.invariant-loop-output
invariant-loop-output g l = string_bytes l.text ++ output_lines l.number (all_shown (drop l.output-index l.outputs)) ≡ string_bytes l.fn.text ++ output_lines l.number (all_shown l.outputs)
