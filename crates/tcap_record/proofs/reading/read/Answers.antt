use Rattle.std.proofs.Common.{◌≡◌, ◌∙◌, sym, subst, arith}
use Rattle.tcap_model.specs.Words.Event.{Event}
use Rattle.tcap_record.specs.Records.{Damaged, HasRecord, record_of}
use Rattle.tcap_record.specs.RecordViews.{kept_view}
use Rattle.tcap_record.proofs.OctetLemmas.{octets_from}
use Rattle.tcap_record.proofs.RecordLaws.{alone_found, alone_only, damaged_alone, left_alone}
use Rattle.tcap_record.proofs.reading.read.Goals as goal

pub place_of-requires : goal.place_of-requires
place_of-requires c =
    let are = octets_from c.args.octets.now (λ i. omega (arith, c.type_inv.octets i)) in
    left_alone c.args.octets.now c.in-Err.left are c.in-Err.ensures

pub returns-in-Ok-clause-found : goal.returns-in-Ok-clause-found
returns-in-Ok-clause-found c =
    let are = octets_from c.args.octets.now (λ i. omega (arith, c.type_inv.octets i)) in
    subst (λ (e : Event). HasRecord e × (c.args.octets.now ≡ record_of e)) (sym c.of.ensures)
    (alone_found c.args.octets.now (kept_view c.in-Ok.kept) are c.in-Ok.ensures)

pub returns-in-Ok-clause-only : goal.returns-in-Ok-clause-only
returns-in-Ok-clause-only c = λ event has is.
    c.of.ensures ∙ alone_only c.args.octets.now (kept_view c.in-Ok.kept) c.in-Ok.ensures event has is

pub returns-in-Err-clause-only : goal.returns-in-Err-clause-only
returns-in-Err-clause-only c = λ event has is.
    let are = octets_from c.args.octets.now (λ i. omega (arith, c.type_inv.octets i)) in
    (damaged_alone c.args.octets.now c.in-Err.left are c.in-Err.ensures).no_record event has is

pub returns-in-Err-clause-fault : goal.returns-in-Err-clause-fault
returns-in-Err-clause-fault c =
    let are = octets_from c.args.octets.now (λ i. omega (arith, c.type_inv.octets i)) in
    subst (Damaged c.args.octets.now) (sym c.place_of.ensures) (damaged_alone c.args.octets.now c.in-Err.left are c.in-Err.ensures)
