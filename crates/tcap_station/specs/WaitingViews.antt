-- An output that waits, as a contract sees it.
use Rattle.tcap_primitives.specs.OutboxViews.{output_ref_view}
use Rattle.tcap_model.specs.Words.Output.{Output}
use Rattle.tcap_station.specs.WaitingOutput.{WaitingOutput}
use Rattle.tcap_station.specs.declared.waiting.Answering.{Answering}
use Rattle.tcap_station.specs.declared.waiting.Waiting.{Waiting}

-- An output that waits, by what its slices hold (own).
abbrev pub waiting_view : Waiting → WaitingOutput
waiting_view w = record { output = output_ref_view w.output; event = w.event; is_last = w.is_last }

-- Which event an output that waits answers (own).
abbrev pub answering : WaitingOutput → Answering
answering w = record { event = w.event; is_last = w.is_last }

-- An output that waits, without its event (own).
abbrev pub output_of : WaitingOutput → Output
output_of w = w.output
