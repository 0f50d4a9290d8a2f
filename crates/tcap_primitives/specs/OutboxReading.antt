-- What the records of an outbox say, read from its octets.
use Rattle.std.specs.Prelude.{ℕ, List, take, drop, Option}
use Rattle.std.specs.Option.{option_map}
use Rattle.tcap_component.specs.Component.{CodeParts, BodyParts}
use Rattle.tcap_component.specs.Views.{problem_parts}
use Rattle.tcap_pdu.specs.DialogueSpelling.{PduValue}
use Rattle.tcap_pdu.specs.DialogueViews.{source}
use Rattle.tcap_model.specs.Words.Output.{Output, Closing, ComponentIndication, DialogueIndication}
use Rattle.tcap_primitives.specs.OutputViews.{cause_view, drop_view, rejector}
use Rattle.tcap_primitives.specs.declared.outbox.records.Span.{Span}
use Rattle.tcap_primitives.specs.declared.outbox.records.CodeRecord.{CodeRecord}
use Rattle.tcap_primitives.specs.declared.outbox.records.CodeRecord.TheVariants as code
use Rattle.tcap_primitives.specs.declared.outbox.records.BodyRecord.{BodyRecord}
use Rattle.tcap_primitives.specs.declared.outbox.records.PduRecord.{PduRecord}
use Rattle.tcap_primitives.specs.declared.outbox.records.PduRecord.TheVariants as pdu
use Rattle.tcap_primitives.specs.declared.outbox.records.PortionRecord.{PortionRecord}
use Rattle.tcap_primitives.specs.declared.outbox.records.Record.{Record}
use Rattle.tcap_primitives.specs.declared.outbox.records.Record.TheVariants as kept

-- A part of the octets (own).
abbrev pub part : List ℕ → Span → List ℕ
part octets span = take span.len (drop span.at octets)

-- A code (own).
abbrev pub code_read : List ℕ → CodeRecord → CodeParts
code_read octets (code.Local number) = CodeParts.local number
code_read octets (code.Global span) = CodeParts.global (part octets span)

-- The body of a result (own).
abbrev pub body_read : List ℕ → BodyRecord → BodyParts
body_read octets body = record { code = code_read octets body.code; parameter = option_map (part octets) body.parameter }

-- A dialogue PDU (own).
abbrev pub pdu_read : List ℕ → PduRecord → PduValue
pdu_read octets (pdu.Aarq version1 context info) = PduValue.aarq version1 (part octets context) (part octets info)
pdu_read octets (pdu.Audt version1 context info) = PduValue.audt version1 (part octets context) (part octets info)
pdu_read octets (pdu.Aare version1 context accepted diagnostic info) =
    PduValue.aare version1 (part octets context) accepted (source diagnostic) (part octets info)
pdu_read octets (pdu.Abrt by_provider info) = PduValue.abrt by_provider (part octets info)
pdu_read octets (pdu.Foreign external) = PduValue.foreign (part octets external)

-- The context of a dialogue portion, if there is one (own).
abbrev pub context_read : List ℕ → PortionRecord → Option (List ℕ)
context_read octets portion = option_map (part octets) portion.context

-- The user information of a dialogue portion (own).
abbrev pub info_read : List ℕ → PortionRecord → List ℕ
info_read octets portion = part octets portion.info

-- An output (own).
abbrev pub output_read : List ℕ → Record → Output
output_read octets (kept.Send to bytes) = Output.send (part octets to) (part octets bytes)
output_read octets (kept.Uni portion) = Output.dialogue (DialogueIndication.uni (context_read octets portion) (info_read octets portion))
output_read octets (kept.Begin d portion) = Output.dialogue (DialogueIndication.begin d (context_read octets portion) (info_read octets portion))
output_read octets (kept.Continue d portion) = Output.dialogue (DialogueIndication.go_on d (context_read octets portion) (info_read octets portion))
output_read octets (kept.End d portion) = Output.dialogue (DialogueIndication.end d (context_read octets portion) (info_read octets portion))
output_read octets (kept.UAbort d pdu) = Output.dialogue (DialogueIndication.u_abort d (option_map (pdu_read octets) pdu))
output_read octets (kept.PAbort d why) = Output.dialogue (DialogueIndication.p_abort d (cause_view why))
output_read octets (kept.Invoked d id linked body) =
    Output.component (ComponentIndication.invoked d id linked (code_read octets body.code) (option_map (part octets) body.parameter))
output_read octets (kept.ResultMore d number id body) = Output.component (ComponentIndication.result_more d number id (option_map (body_read octets) body))
output_read octets (kept.LocalReject d id problem) = Output.component (ComponentIndication.local_reject d id (problem_parts problem))
output_read octets (kept.RemoteReject d id problem by) = Output.component (ComponentIndication.remote_reject d id (problem_parts problem) (rejector by))
output_read octets (kept.ResultLast d number id body) = Output.component (ComponentIndication.closed d number id (Closing.result_last (option_map (body_read octets) body)))
output_read octets (kept.ErrorBack d number id body) =
    Output.component (ComponentIndication.closed d number id (Closing.error_back (code_read octets body.code) (option_map (part octets) body.parameter)))
output_read octets (kept.Rejected d number id problem by) = Output.component (ComponentIndication.closed d number id (Closing.rejected (problem_parts problem) (rejector by)))
output_read octets (kept.Lapsed d number id) = Output.component (ComponentIndication.closed d number id Closing.lapsed)
output_read octets (kept.Ended d number id) = Output.component (ComponentIndication.closed d number id Closing.ended)
output_read octets (kept.Dropped why) = Output.dropped (drop_view why)
