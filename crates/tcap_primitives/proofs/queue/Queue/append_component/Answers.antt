use Rattle.std.proofs.Common.{◌≡◌, ◌+◌, length, ap, ◌∙◌, arith, length-append}
use Rattle.tcap_component.specs.Views.{component_parts}
use Rattle.tcap_component.specs.Written.{written_component}
use Rattle.tcap_primitives.specs.Parts.{total}
use Rattle.tcap_primitives.proofs.CutLemmas.{cut-counted, total-append}
use Rattle.tcap_primitives.proofs.queue.Queue.append_component.Goals as goal

pub invariant_of-self : goal.invariant_of-self
invariant_of-self g c =
    let s = c.args.self.now in
    let octets = written_component (component_parts c.args.component.now) in
    let more : total c.push_reserved.new.self.items ≡ length c.append_component.new.out.items =
    ap total c.push_reserved.ensures.items ∙ total-append s.parts.items _ ∙ ap (λ n. n + c.args.len) s.whole ∙ rw (c.append_component.ensures.items) (omega (arith, length-append s.octets.items octets, c.requires.len)) in
    record { whole = more }

pub returns : goal.returns
returns g c =
    let s = c.args.self.now in
    rw (c.append_component.ensures.items, c.push_reserved.ensures.items) (cut-counted s.parts.items s.octets.items (written_component (component_parts c.args.component.now)) c.args.len c.args.invoking s.whole c.requires.len)
