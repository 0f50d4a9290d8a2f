-- What an arm copies is what its indication names. The arms with a lone identifier are left to the search: it is
-- read back from its octet there.
use Rattle.std.proofs.Common.{sym, append-nil, arith, refl}
use Rattle.tcap_model.specs.Words.Output.{Output, DialogueIndication}
use Rattle.tcap_primitives.proofs.outbox.indications.keep_indication.Goals as goal

pub returns-in-Uni : goal.returns-in-Uni
returns-in-Uni g c =
    let kept = c.keep_portion.ensures in
    rw c.in-Uni.is (record {
      items = kept.items;
      len = kept.len;
      capacity = kept.capacity;
      fits = kept.fits;
      reads = λ i. Output.dialogue (DialogueIndication.uni (kept.context i) (kept.info i));
    })

pub returns-in-Begin : goal.returns-in-Begin
returns-in-Begin g c =
    let kept = c.keep_portion-in-Begin.ensures in
    rw c.in-Begin.is (record {
      items = kept.items;
      len = kept.len;
      capacity = kept.capacity;
      fits = kept.fits;
      reads = λ i. Output.dialogue (DialogueIndication.begin c.in-Begin.dialogue (kept.context i) (kept.info i));
    })

pub returns-in-Continue : goal.returns-in-Continue
returns-in-Continue g c =
    let kept = c.keep_portion-in-Continue.ensures in
    rw c.in-Continue.is (record {
      items = kept.items;
      len = kept.len;
      capacity = kept.capacity;
      fits = kept.fits;
      reads = λ i. Output.dialogue (DialogueIndication.go_on c.in-Continue.dialogue (kept.context i) (kept.info i));
    })

pub returns-in-End : goal.returns-in-End
returns-in-End g c =
    let kept = c.keep_portion-in-End.ensures in
    rw c.in-End.is (record {
      items = kept.items;
      len = kept.len;
      capacity = kept.capacity;
      fits = kept.fits;
      reads = λ i. Output.dialogue (DialogueIndication.end c.in-End.dialogue (kept.context i) (kept.info i));
    })

pub returns-in-UAbort : goal.returns-in-UAbort
returns-in-UAbort g c =
    let kept = c.keep_abort.ensures in
    rw c.in-UAbort.is (record {
      items = kept.items;
      len = kept.len;
      capacity = kept.capacity;
      fits = kept.fits;
      reads = λ i. Output.dialogue (DialogueIndication.u_abort c.in-UAbort.dialogue (kept.reads i));
    })

pub returns-in-PAbort : goal.returns-in-PAbort
returns-in-PAbort g c = rw c.in-PAbort.is (record {
  items = sym (append-nil _);
  len = omega arith;
  capacity = omega arith;
  fits = tt;
  reads = refl;
})

pub returns-in-LocalReject : goal.returns-in-LocalReject
returns-in-LocalReject g c = rw c.in-LocalReject.is (record {
  items = sym (append-nil _);
  len = omega arith;
  capacity = omega arith;
  fits = tt;
  reads = refl;
})

pub returns-in-RemoteReject : goal.returns-in-RemoteReject
returns-in-RemoteReject g c = rw c.in-RemoteReject.is (record {
  items = sym (append-nil _);
  len = omega arith;
  capacity = omega arith;
  fits = tt;
  reads = refl;
})

pub returns-in-Dropped : goal.returns-in-Dropped
returns-in-Dropped g c = rw c.in-Dropped.is (record {
  items = sym (append-nil _);
  len = omega arith;
  capacity = omega arith;
  fits = tt;
  reads = refl;
})
