use Rattle.std.proofs.Common.{◌≡◌, ◌-◌, [], drop, length, true}
use Rattle.tcap_stories.specs.Comparing.{and_then}
use Rattle.tcap_stories.specs.Views.{so_far, still_told, texts_of}
use Rattle.tcap_stories.proofs.comparing.hold_rest.Given as goal

-- what was told, and what is told of the outputs that are left, is all
abbrev pub invariant-loop-place : goal.invariant-loop-place
invariant-loop-place g l =
    and_then (so_far l.fn.text.items true) (still_told l.expected l.line (drop l.fn.place (texts_of l.outputs)) []) ≡ and_then (so_far l.text.items l.good) (still_told l.expected l.line (drop l.place (texts_of l.outputs)) [])

abbrev pub decreases-loop-place : goal.decreases-loop-place
decreases-loop-place g l = length l.outputs - l.place
