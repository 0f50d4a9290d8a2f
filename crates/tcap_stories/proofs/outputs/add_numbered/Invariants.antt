use Rattle.std.proofs.Common.{◌≡◌, ◌++◌, drop}
use Rattle.tcap_stories.specs.Outputs.{numbered}
use Rattle.tcap_stories.specs.Views.{texts_of}
use Rattle.tcap_stories.proofs.outputs.add_numbered.Given as goal

-- what was added, and the outputs that are left, are all
abbrev pub invariant-loop-output : goal.invariant-loop-output
invariant-loop-output g l = l.text.items ++ numbered l.line (texts_of (drop l.output-index l.outputs)) ≡ l.fn.text.items ++ numbered l.line (texts_of l.outputs)
