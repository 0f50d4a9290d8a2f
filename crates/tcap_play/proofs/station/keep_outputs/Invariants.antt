use Rattle.std.proofs.Common.{◌≡◌, ◌++◌}
use Rattle.tcap_primitives.specs.OutputViews.{all_shown}
use Rattle.tcap_play.specs.Play.{messages_of}
use Rattle.tcap_play.specs.PlayViews.{messages_view}
use Rattle.tcap_play.proofs.station.keep_outputs.Given as goal

abbrev pub invariant-loop-output : goal.invariant-loop-output
invariant-loop-output g l = messages_view l.fn.sent.items ++ messages_of (all_shown l.fn.outputs.items) ≡ messages_view l.sent.items ++ messages_of (all_shown l.output-iterator.rest.items)
