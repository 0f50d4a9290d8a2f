use Rattle.std.proofs.Common.{◌∙◌, sym}
use Rattle.tcap_primitives.proofs.CutLemmas.{cut-joined}
use Rattle.tcap_primitives.proofs.queue.Queue.all_octets.Goals as goal

pub returns : goal.returns
returns g c = let s = c.args.self.now in c.deref.ensures.value ∙ sym (cut-joined s.parts.items s.octets.items s.whole)
