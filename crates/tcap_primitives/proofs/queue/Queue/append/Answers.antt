use Rattle.std.proofs.Common.{◌≡◌, ◌+◌, length, ap, ◌∙◌, arith, length-append}
use Rattle.tcap_primitives.specs.Parts.{total}
use Rattle.tcap_primitives.proofs.CutLemmas.{cut-append, total-append}
use Rattle.tcap_primitives.proofs.queue.Queue.append.Goals as goal

pub invariant_of-self : goal.invariant_of-self
invariant_of-self g c =
    let s = c.args.self.now in
    let more : total c.append_part.new.parts.items ≡ length c.append_part.new.all.items =
    ap total c.append_part.ensures.parts ∙ total-append s.parts.items _ ∙ ap (λ n. n + length c.args.octets.now) s.whole ∙ rw (c.append_part.ensures.octets) (omega (arith, length-append s.octets.items c.args.octets.now)) in
    record { whole = more }

pub returns-clause-queue : goal.returns-clause-queue
returns-clause-queue g c =
    let s = c.args.self.now in
    rw (c.append_part.ensures.octets, c.append_part.ensures.parts) (cut-append s.parts.items s.octets.items c.args.octets.now c.args.invoking s.whole)
