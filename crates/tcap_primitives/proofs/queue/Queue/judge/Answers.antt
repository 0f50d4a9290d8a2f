use Rattle.std.proofs.Common.{rules, sym, ap, ◌∙◌, Some, true, false}
use Rattle.tcap_component.specs.Views.{component_parts}
use Rattle.tcap_model.specs.Words.Fault.{Fault}
use Rattle.tcap_primitives.specs.QueueViews.{queue_view}
use Rattle.tcap_primitives.proofs.RoomLemmas.{refused-component, room-tested}
use Rattle.tcap_primitives.proofs.queue.Queue.judge.Goals as goal

pub returns-then-len-le-MAX_QUEUE-clause-ok : goal.returns-then-len-le-MAX_QUEUE-clause-ok
returns-then-len-le-MAX_QUEUE-clause-ok g c =
    let s = c.args.self.now in
    room-tested s.parts.items s.octets.items (component_parts c.args.component.now) c.len.result c.in-Ok.len true s.whole (search rules) c.in-Ok.ensures.value c.in-Ok.ensures.none (search (rules, c.if-len-le-MAX_QUEUE.true))

pub returns-else-len-le-MAX_QUEUE-clause-err : goal.returns-else-len-le-MAX_QUEUE-clause-err
returns-else-len-le-MAX_QUEUE-clause-err g c =
    let s = c.args.self.now in
    room-tested s.parts.items s.octets.items (component_parts c.args.component.now) c.len.result c.in-Ok.len false s.whole (search rules) c.in-Ok.ensures.value c.in-Ok.ensures.none (search (rules, c.if-len-le-MAX_QUEUE.false))

pub returns-in-Err-clause-err : goal.returns-in-Err-clause-err
returns-in-Err-clause-err g c =
    sym (ap (λ (f : Fault). Some f) c.fault_of.ensures ∙ refused-component (queue_view c.args.self.now) (component_parts c.args.component.now) c.in-Err.fault (sym c.in-Err.ensures.exact))
