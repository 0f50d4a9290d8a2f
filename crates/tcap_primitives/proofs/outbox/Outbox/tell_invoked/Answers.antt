use Rattle.std.proofs.Common.{◌≡◌, refl, ap, arith, vec_len, vec_capacity, w8}
use Rattle.std.proofs.lemmas.Int.{to_z-of_z}
use Rattle.tcap_primitives.specs.OutboxOctets.{operation_named}
use Rattle.tcap_primitives.specs.OutboxSpans.{octets_left}
use Rattle.tcap_primitives.proofs.OutboxRecords.{all_fit_behind, all_read_behind}
use Rattle.tcap_primitives.specs.declared.outbox.records.Record.TheVariants as kept
use Rattle.tcap_primitives.proofs.outbox.Outbox.tell_invoked.Goals as goal

pub invariant_of-self : goal.invariant_of-self
invariant_of-self g c =
    let said : octets_left (vec_capacity c.self.inside.octets) (vec_len c.self.inside.octets) ≡ c.args.self.now.octets
    = ap (λ v. v.octets) c.self.view_is in
    let pushed = (rw (to_z-of_z w8 c.args.id c.ranges.id) at c.push_reserved.ensures.items) in (
      all_fit_behind c.self.inside.octets.items (operation_named c.args.code c.args.parameter) c.keep_operation-body.new.octets.items
          c.self.inside.records.items c.push_reserved.new.self.items (kept.Invoked c.args.dialogue c.args.id c.args.linked c.keep_operation-body.result)
          c.keep_operation-body.ensures.items pushed c.self.invariant.0 c.keep_operation-body.ensures.fits,
      omega (arith, said, c.requires.octets, c.keep_operation-body.ensures.len, c.self.invariant.1),
    )

pub returns-clause-told : goal.returns-clause-told
returns-clause-told g c =
    let pushed = (rw (to_z-of_z w8 c.args.id c.ranges.id) at c.push_reserved.ensures.items) in
    all_read_behind c.self.inside.octets.items (operation_named c.args.code c.args.parameter) c.keep_operation-body.new.octets.items
    c.self.inside.records.items c.push_reserved.new.self.items (kept.Invoked c.args.dialogue c.args.id c.args.linked c.keep_operation-body.result) _ _
    c.keep_operation-body.ensures.items pushed c.self.invariant.0
    (ap (λ v. v.outputs) c.self.view_is) (rw (c.keep_operation-body.ensures.code, c.keep_operation-body.ensures.parameter) refl)

pub returns-clause-octets : goal.returns-clause-octets
returns-clause-octets g c =
    let said : octets_left (vec_capacity c.self.inside.octets) (vec_len c.self.inside.octets) ≡ c.args.self.now.octets
    = ap (λ v. v.octets) c.self.view_is in
    omega (arith, said, c.keep_operation-body.ensures.len, c.keep_operation-body.ensures.capacity)
