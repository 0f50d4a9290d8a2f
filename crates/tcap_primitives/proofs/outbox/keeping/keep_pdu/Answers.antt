-- What an arm copies is what its PDU names.
use Rattle.tcap_pdu.specs.DialogueSpelling.{PduValue}
use Rattle.tcap_pdu.specs.DialogueViews.{source}
use Rattle.tcap_primitives.proofs.outbox.keeping.keep_pdu.Goals as goal

pub returns-in-Aarq : goal.returns-in-Aarq
returns-in-Aarq g c =
    let kept = c.keep_both.ensures in
    rw c.in-Aarq.is (record {
      items = kept.items;
      len = kept.len;
      capacity = kept.capacity;
      fits = (kept.first_fits, kept.second_fits);
      reads = λ i. PduValue.aarq c.in-Aarq.version1 (kept.first i) (kept.second i);
    })

pub returns-in-Audt : goal.returns-in-Audt
returns-in-Audt g c =
    let kept = c.keep_both-in-Audt.ensures in
    rw c.in-Audt.is (record {
      items = kept.items;
      len = kept.len;
      capacity = kept.capacity;
      fits = (kept.first_fits, kept.second_fits);
      reads = λ i. PduValue.audt c.in-Audt.version1 (kept.first i) (kept.second i);
    })

pub returns-in-Aare : goal.returns-in-Aare
returns-in-Aare g c =
    let kept = c.keep_both-in-Aare.ensures in
    rw c.in-Aare.is (record {
      items = kept.items;
      len = kept.len;
      capacity = kept.capacity;
      fits = (kept.first_fits, kept.second_fits);
      reads = λ i. PduValue.aare c.in-Aare.version1 (kept.first i) c.in-Aare.accepted
          (source c.in-Aare.diagnostic) (kept.second i);
    })

pub returns-in-Abrt : goal.returns-in-Abrt
returns-in-Abrt g c =
    let kept = c.keep.ensures in
    rw c.in-Abrt.is (record {
      items = kept.items;
      len = kept.len;
      capacity = kept.capacity;
      fits = kept.fits;
      reads = λ i. PduValue.abrt c.in-Abrt.by_provider (kept.reads i);
    })

pub returns-in-Foreign : goal.returns-in-Foreign
returns-in-Foreign g c =
    let kept = c.keep-in-Foreign.ensures in
    rw c.in-Foreign.is (record {
      items = kept.items;
      len = kept.len;
      capacity = kept.capacity;
      fits = kept.fits;
      reads = λ i. PduValue.foreign (kept.reads i);
    })
