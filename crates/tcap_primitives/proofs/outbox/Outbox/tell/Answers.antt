use Rattle.std.proofs.Common.{◌≡◌, ap, arith, vec_len, vec_capacity}
use Rattle.tcap_primitives.specs.OutboxOctets.{indicated_named}
use Rattle.tcap_primitives.specs.OutboxSpans.{octets_left}
use Rattle.tcap_primitives.proofs.OutboxRecords.{all_fit_behind, all_read_behind}
use Rattle.tcap_primitives.proofs.outbox.Outbox.tell.Goals as goal

pub invariant_of-self : goal.invariant_of-self
invariant_of-self g c =
    let said : octets_left (vec_capacity c.self.inside.octets) (vec_len c.self.inside.octets) ≡ c.args.self.now.octets
    = ap (λ v. v.octets) c.self.view_is in (
      all_fit_behind c.self.inside.octets.items (indicated_named c.args.indication) c.keep_indication-kept.new.octets.items
          c.self.inside.records.items c.push_reserved.new.self.items c.keep_indication-kept.result
          c.keep_indication-kept.ensures.items c.push_reserved.ensures.items c.self.invariant.0 c.keep_indication-kept.ensures.fits,
      omega (arith, said, c.requires.octets, c.keep_indication-kept.ensures.len, c.self.invariant.1),
    )

pub returns-clause-told : goal.returns-clause-told
returns-clause-told g c =
    all_read_behind c.self.inside.octets.items (indicated_named c.args.indication) c.keep_indication-kept.new.octets.items
    c.self.inside.records.items c.push_reserved.new.self.items c.keep_indication-kept.result _ _
    c.keep_indication-kept.ensures.items c.push_reserved.ensures.items c.self.invariant.0
    (ap (λ v. v.outputs) c.self.view_is) c.keep_indication-kept.ensures.reads

pub returns-clause-octets : goal.returns-clause-octets
returns-clause-octets g c =
    let said : octets_left (vec_capacity c.self.inside.octets) (vec_len c.self.inside.octets) ≡ c.args.self.now.octets
    = ap (λ v. v.octets) c.self.view_is in
    omega (arith, said, c.keep_indication-kept.ensures.len, c.keep_indication-kept.ensures.capacity)
