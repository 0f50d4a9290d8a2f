use Rattle.std.proofs.Common.{◌≡◌, ◌∙◌, ◌++◌, sym, subst, arith}
use Rattle.tcap_model.specs.Words.Event.{Event}
use Rattle.tcap_record.specs.Records.{DamagedFirst, HasRecord, record_of}
use Rattle.tcap_record.specs.RecordViews.{kept_view}
use Rattle.tcap_record.proofs.OctetLemmas.{octets_from}
use Rattle.tcap_record.proofs.RecordLaws.{damaged_first, left_within, read_only, record_found}
use Rattle.tcap_record.proofs.reading.read_first.Goals as goal

pub place_of-requires : goal.place_of-requires
place_of-requires c =
    let are = octets_from c.args.octets.now (λ i. omega (arith, c.type_inv.octets i)) in
    left_within c.args.octets.now c.in-Err.left are c.in-Err.ensures

pub returns-in-Ok-clause-found : goal.returns-in-Ok-clause-found
returns-in-Ok-clause-found c =
    let are = octets_from c.args.octets.now (λ i. omega (arith, c.type_inv.octets i)) in
    subst (λ (e : Event). HasRecord e × (c.args.octets.now ≡ record_of e ++ c.in-Ok.rest.now)) (sym c.of.ensures)
    (record_found c.args.octets.now (kept_view c.in-Ok.kept) c.in-Ok.rest.now are c.in-Ok.ensures)

pub returns-in-Ok-clause-only : goal.returns-in-Ok-clause-only
returns-in-Ok-clause-only c = λ event rest has is.
    let p = read_only c.args.octets.now (kept_view c.in-Ok.kept) c.in-Ok.rest.now c.in-Ok.ensures event rest has is in
    (c.of.ensures ∙ p.0, p.1)

pub returns-in-Err-clause-only : goal.returns-in-Err-clause-only
returns-in-Err-clause-only c = λ event rest has is.
    let are = octets_from c.args.octets.now (λ i. omega (arith, c.type_inv.octets i)) in
    (damaged_first c.args.octets.now c.in-Err.left are c.in-Err.ensures).no_record event rest has is

pub returns-in-Err-clause-fault : goal.returns-in-Err-clause-fault
returns-in-Err-clause-fault c =
    let are = octets_from c.args.octets.now (λ i. omega (arith, c.type_inv.octets i)) in
    subst (DamagedFirst c.args.octets.now) (sym c.place_of.ensures) (damaged_first c.args.octets.now c.in-Err.left are c.in-Err.ensures)
