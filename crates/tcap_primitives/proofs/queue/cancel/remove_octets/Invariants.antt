use Rattle.tcap_primitives.proofs.CancelLemmas.{Holds}
use Rattle.tcap_primitives.proofs.queue.cancel.remove_octets.Given as goal

abbrev pub invariant-loop-part : goal.invariant-loop-part
invariant-loop-part g l = Holds l.number l.parts l.fn.octets.items l.octets.items l.part-index l.kept l.from
