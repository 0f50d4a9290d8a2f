use Rattle.std.proofs.Common.{◌≡◌, ◌≤◌, ◌+◌, ◌++◌, drop, string_bytes}
use Rattle.tcap_primitives.specs.OutputViews.{all_shown}
use Rattle.tcap_play.specs.AnswerText.{output_lines}
use Rattle.tcap_play.specs.SideView.{side_view}
use Rattle.tcap_play.proofs.output_text.add_outputs.Given as goal

-- the lines so far and those of the outputs that are left
abbrev pub invariant-loop-output : goal.invariant-loop-output
invariant-loop-output g l = record {
  written : string_bytes l.text ++ output_lines (side_view l.side) l.count (all_shown (drop l.output-index l.outputs)) ≡ string_bytes l.fn.text ++ output_lines (side_view l.side) l.sent (all_shown l.outputs);
  few : l.count ≤ l.sent + l.output-index;
}
