use Rattle.std.proofs.Common.{◌++◌, ◌∙◌, ap, arith}
use Rattle.std.proofs.lemmas.Grind.{common_steps, elements}
use Rattle.tcap_primitives.proofs.OutboxRecords.{all_fit_sent, all_read_sent}
use Rattle.tcap_primitives.proofs.outbox.Outbox.send_frame.Goals as goal

pub invariant_of-self-2 : goal.invariant_of-self-2
invariant_of-self-2 g c = (
  all_fit_sent c.self.inside.octets.items c.args.to.now _ c.keep-to.new.octets.items c.keep_frame-bytes.new.octets.items
      c.self.inside.records.items c.push_reserved.new.self.items c.keep-to.result c.keep_frame-bytes.result
      (c.keep-to.ensures.items ∙ ap (λ o. o ++ c.args.to.now) c.make_room.ensures.items)
      c.keep_frame-bytes.ensures.items c.push_reserved.ensures.items c.self.invariant.0
      c.keep-to.ensures.fits c.keep_frame-bytes.ensures.fits,
  c.keep_frame-bytes.ensures.within,
)

pub returns-clause-ok : goal.returns-clause-ok
returns-clause-ok g c =
    all_read_sent c.self.inside.octets.items c.args.to.now _ c.keep-to.new.octets.items c.keep_frame-bytes.new.octets.items
    c.self.inside.records.items c.push_reserved.new.self.items c.keep-to.result c.keep_frame-bytes.result _
    (c.keep-to.ensures.items ∙ ap (λ o. o ++ c.args.to.now) c.make_room.ensures.items)
    c.keep_frame-bytes.ensures.items c.push_reserved.ensures.items c.self.invariant.0
    (ap (λ v. v.outputs) c.self.view_is) c.keep-to.ensures.fits c.keep-to.ensures.reads c.keep_frame-bytes.ensures.reads

pub invariant_of-self : goal.invariant_of-self
invariant_of-self g c = grind (arith, elements)

pub returns-clause-places : goal.returns-clause-places
returns-clause-places g c = grind (arith, common_steps)
