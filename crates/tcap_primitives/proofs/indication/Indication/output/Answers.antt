-- An arm's output computes to that of its indication. The arms with a lone identifier are left to the search: it is
-- read back from its octet there.
use Rattle.std.proofs.Common.{ap, sym}
use Rattle.tcap_primitives.specs.IndicationViews.{indicated, indicated_slices}
use Rattle.tcap_primitives.proofs.indication.Indication.output.Goals as goal

pub returns-in-Uni : goal.returns-in-Uni
returns-in-Uni g c = record {
  told = sym (ap indicated c.in-Uni.is);
  slices = sym (ap indicated_slices c.in-Uni.is);
}

pub returns-in-Begin : goal.returns-in-Begin
returns-in-Begin g c = record {
  told = sym (ap indicated c.in-Begin.is);
  slices = sym (ap indicated_slices c.in-Begin.is);
}

pub returns-in-Continue : goal.returns-in-Continue
returns-in-Continue g c = record {
  told = sym (ap indicated c.in-Continue.is);
  slices = sym (ap indicated_slices c.in-Continue.is);
}

pub returns-in-End : goal.returns-in-End
returns-in-End g c = record {
  told = sym (ap indicated c.in-End.is);
  slices = sym (ap indicated_slices c.in-End.is);
}

pub returns-in-UAbort : goal.returns-in-UAbort
returns-in-UAbort g c = record {
  told = sym (ap indicated c.in-UAbort.is);
  slices = sym (ap indicated_slices c.in-UAbort.is);
}

pub returns-in-PAbort : goal.returns-in-PAbort
returns-in-PAbort g c = record {
  told = sym (ap indicated c.in-PAbort.is);
  slices = sym (ap indicated_slices c.in-PAbort.is);
}

pub returns-in-LocalReject : goal.returns-in-LocalReject
returns-in-LocalReject g c = record {
  told = sym (ap indicated c.in-LocalReject.is);
  slices = sym (ap indicated_slices c.in-LocalReject.is);
}

pub returns-in-RemoteReject : goal.returns-in-RemoteReject
returns-in-RemoteReject g c = record {
  told = sym (ap indicated c.in-RemoteReject.is);
  slices = sym (ap indicated_slices c.in-RemoteReject.is);
}

pub returns-in-Dropped : goal.returns-in-Dropped
returns-in-Dropped g c = record {
  told = sym (ap indicated c.in-Dropped.is);
  slices = sym (ap indicated_slices c.in-Dropped.is);
}
