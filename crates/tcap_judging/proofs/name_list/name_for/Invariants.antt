use Rattle.std.proofs.Common.{◌≡◌, drop, map}
use Rattle.tcap_judging.specs.Names.{name_for}
use Rattle.tcap_judging.specs.NameViews.{named_view}
use Rattle.tcap_judging.proofs.name_list.name_for.Given as goal

-- none so far
abbrev pub invariant-loop-named : goal.invariant-loop-named
invariant-loop-named l =
    name_for l.fn.kind l.fn.key (map named_view (drop l.named-index l.names)) ≡ name_for l.fn.kind l.fn.key (map named_view l.fn.names)
