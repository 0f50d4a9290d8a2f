-- An output as an outbox keeps it, as a contract sees it.
use Rattle.tcap_model.specs.Words.Output.{Output}
use Rattle.tcap_primitives.specs.OutboxReading.{output_read}
use Rattle.tcap_primitives.specs.OutboxSpans.{RecordFits}
use Rattle.tcap_primitives.specs.declared.outbox.kept_output.KeptOutput.{KeptOutput}

-- What is sent or told, by what its octets hold (own).
abbrev pub kept_view : KeptOutput → Output
kept_view kept = output_read kept.octets.now kept.record.now

-- The parts that it names lie within its octets (own).
abbrev pub FitsKept : KeptOutput → Type 0
FitsKept kept = RecordFits kept.octets.now kept.record.now
