use Rattle.std.proofs.Common.{◌≡◌, List, length, ap, ◌∙◌}
use Rattle.tcap_primitives.specs.declared.queue.Part.{Part}
use Rattle.tcap_primitives.specs.Parts.{total}
use Rattle.tcap_primitives.proofs.CancelLemmas.{left, cut-filtered, total-filtered}
use Rattle.tcap_primitives.proofs.queue.Queue.remove_invoke.Goals as goal

pub invariant_of-self : goal.invariant_of-self
invariant_of-self g c =
    let s = c.args.self.now in
    let octets : c.remove_octets.new.octets.items ≡ left c.args.number s.parts.items s.octets.items =
    c.remove_octets.ensures ∙ ap (λ (ps : List Part). left c.args.number ps s.octets.items) c.deref.ensures.value in
    let whole : total c.remove_parts.new.parts.items ≡ length c.remove_octets.new.octets.items =
    rw (c.remove_parts.ensures, octets) (total-filtered c.args.number s.parts.items s.octets.items s.whole) in
    record { whole = whole }

pub returns : goal.returns
returns g c =
    let s = c.args.self.now in
    let octets : c.remove_octets.new.octets.items ≡ left c.args.number s.parts.items s.octets.items =
    c.remove_octets.ensures ∙ ap (λ (ps : List Part). left c.args.number ps s.octets.items) c.deref.ensures.value in
    rw (c.remove_parts.ensures, octets) (cut-filtered c.args.number s.parts.items s.octets.items s.whole)
