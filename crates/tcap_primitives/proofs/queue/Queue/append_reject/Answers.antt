use Rattle.std.proofs.Common.{◌≡◌, ◌++◌, ◌∷◌, [], List, ℕ, length, ap, ◌∙◌, sym, arith, None}
use Rattle.tcap_component.specs.Component.ComponentParts.{reject_back}
use Rattle.tcap_component.specs.Views.{problem_parts}
use Rattle.tcap_model.specs.Procedures.QueueRules.{Queued, queued}
use Rattle.tcap_primitives.specs.QueueViews.{queue_view}
use Rattle.tcap_primitives.proofs.CutLemmas.{cut-fits, cut-full}
use Rattle.tcap_primitives.proofs.queue.Queue.append_reject.Goals as goal

pub returns-then-len-le-MAX_QUEUE-clause-queue : goal.returns-then-len-le-MAX_QUEUE-clause-queue
returns-then-len-le-MAX_QUEUE-clause-queue g c =
    let s = c.args.self.now in
    let reject : Queued = queued None (reject_back c.args.id (problem_parts c.args.problem)) in
    let len : length reject.octets ≡ c.reject_octets-len.result.1 = sym c.reject_octets-len.ensures.len in
    let fits = cut-fits s.parts.items s.octets.items reject s.whole (omega (arith, len)) in
    c.append.ensures.queue ∙ ap (λ (o : List ℕ). let q : Queued = record { octets = o; invoking = None } in queue_view s ++ q ∷ []) c.reject_octets-len.ensures.octets ∙ sym fits

pub returns-else-len-le-MAX_QUEUE-clause-queue : goal.returns-else-len-le-MAX_QUEUE-clause-queue
returns-else-len-le-MAX_QUEUE-clause-queue g c =
    let s = c.args.self.now in
    let reject : Queued = queued None (reject_back c.args.id (problem_parts c.args.problem)) in
    let len : length reject.octets ≡ c.reject_octets-len.result.1 = sym c.reject_octets-len.ensures.len in
    sym (cut-full s.parts.items s.octets.items reject s.whole (omega (arith, len)))
