use Rattle.std.proofs.Common.{◌≤◌, ◌+◌, length, map}
use Rattle.tcap_judging.proofs.NameLists.{IsSoFar}
use Rattle.tcap_judging.specs.NameViews.{named_view}
use Rattle.tcap_judging.proofs.name_list.read_names.Given as goal

-- the lines so far, and what is left
abbrev pub invariant-loop-line : goal.invariant-loop-line
invariant-loop-line g l =
    IsSoFar l.fn.text l.rest (map named_view l.names.items) l.number
    × (l.number + length l.rest ≤ 1 + length l.fn.text)

abbrev pub decreases-loop-line : goal.decreases-loop-line
decreases-loop-line g l = length l.rest
