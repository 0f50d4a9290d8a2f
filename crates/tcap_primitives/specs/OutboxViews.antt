-- Outputs that are read in an outbox, as a contract sees them.
use Rattle.std.specs.Prelude.{List, drop}
use Rattle.tcap_model.specs.Words.Output.{Output}
use Rattle.tcap_primitives.specs.IndicationViews.{indicated}
use Rattle.tcap_primitives.specs.declared.outbox.iter.OutboxIter.{OutboxIter}
use Rattle.tcap_primitives.specs.declared.outbox.output_ref.OutputRef.{OutputRef}
use Rattle.tcap_primitives.specs.declared.outbox.output_ref.OutputRef.TheVariants as lent

-- An output, by what its slices hold (own).
abbrev pub output_ref_view : OutputRef → Output
output_ref_view (lent.Send to bytes) = Output.send to.now bytes.now
output_ref_view (lent.Indication told) = indicated told

-- The outputs that are still to come (own).
abbrev pub outputs_left : {A : Type 0} → OutboxIter A → List Output
outputs_left i = drop i.index i.outbox.now.outputs
