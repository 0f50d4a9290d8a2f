-- The parts that the records of an outbox name lie within its octets.
use Rattle.std.specs.Prelude.{ℕ, ◌+◌, ◌-◌, ◌≤◌, List, length, min, Option, Some, None}
use Rattle.std.specs.List.{AllByRecursion}
use Rattle.tcap_primitives.specs.declared.outbox.records.Span.{Span}
use Rattle.tcap_primitives.specs.declared.outbox.records.CodeRecord.{CodeRecord}
use Rattle.tcap_primitives.specs.declared.outbox.records.CodeRecord.TheVariants as code
use Rattle.tcap_primitives.specs.declared.outbox.records.BodyRecord.{BodyRecord}
use Rattle.tcap_primitives.specs.declared.outbox.records.PduRecord.{PduRecord}
use Rattle.tcap_primitives.specs.declared.outbox.records.PduRecord.TheVariants as pdu
use Rattle.tcap_primitives.specs.declared.outbox.records.PortionRecord.{PortionRecord}
use Rattle.tcap_primitives.specs.declared.outbox.records.Record.{Record}
use Rattle.tcap_primitives.specs.declared.outbox.records.Record.TheVariants as kept

-- The most octets that an outbox keeps: parts are named by numbers of 32 bits (own).
abbrev pub most_octets : ℕ
most_octets = 4294967295

-- For how many octets more there is room, within the limit (own).
abbrev pub octets_left : ℕ → ℕ → ℕ
octets_left capacity len = min capacity most_octets - len

-- There is room for so many octets more, within the limit (own).
abbrev pub HasRoom : ℕ → ℕ → ℕ → Type 0
HasRoom capacity len count = len + count ≤ min capacity most_octets

-- A part lies within the octets (own).
abbrev pub Fits : List ℕ → Span → Type 0
Fits octets span = span.at + span.len ≤ length octets

-- A part that may be left out lies within them (own).
abbrev pub OptionFits : List ℕ → Option Span → Type 0
OptionFits octets None = Unit {0}
OptionFits octets (Some span) = Fits octets span

-- The part of a code lies within them (own).
abbrev pub CodeFits : List ℕ → CodeRecord → Type 0
CodeFits octets (code.Local number) = Unit {0}
CodeFits octets (code.Global span) = Fits octets span

-- The parts of a body lie within them (own).
abbrev pub BodyFits : List ℕ → BodyRecord → Type 0
BodyFits octets body = CodeFits octets body.code × OptionFits octets body.parameter

-- The parts of a body that may be left out lie within them (own).
abbrev pub ResultFits : List ℕ → Option BodyRecord → Type 0
ResultFits octets None = Unit {0}
ResultFits octets (Some body) = BodyFits octets body

-- The parts of a dialogue portion lie within them (own).
abbrev pub PortionFits : List ℕ → PortionRecord → Type 0
PortionFits octets portion = OptionFits octets portion.context × Fits octets portion.info

-- The parts of a dialogue PDU lie within them (own).
abbrev pub PduFits : List ℕ → PduRecord → Type 0
PduFits octets (pdu.Aarq version1 context info) = Fits octets context × Fits octets info
PduFits octets (pdu.Audt version1 context info) = Fits octets context × Fits octets info
PduFits octets (pdu.Aare version1 context accepted diagnostic info) = Fits octets context × Fits octets info
PduFits octets (pdu.Abrt by_provider info) = Fits octets info
PduFits octets (pdu.Foreign external) = Fits octets external

-- The parts of the dialogue PDU of an Abort, if there is one, lie within them (own).
abbrev pub AbortFits : List ℕ → Option PduRecord → Type 0
AbortFits octets None = Unit {0}
AbortFits octets (Some pdu) = PduFits octets pdu

-- The parts of an output lie within them (own).
abbrev pub RecordFits : List ℕ → Record → Type 0
RecordFits octets (kept.Send to bytes) = Fits octets to × Fits octets bytes
RecordFits octets (kept.Uni portion) = PortionFits octets portion
RecordFits octets (kept.Begin d portion) = PortionFits octets portion
RecordFits octets (kept.Continue d portion) = PortionFits octets portion
RecordFits octets (kept.End d portion) = PortionFits octets portion
RecordFits octets (kept.UAbort d pdu) = AbortFits octets pdu
RecordFits octets (kept.PAbort d why) = Unit {0}
RecordFits octets (kept.Invoked d id linked body) = BodyFits octets body
RecordFits octets (kept.ResultMore d number id body) = ResultFits octets body
RecordFits octets (kept.LocalReject d id problem) = Unit {0}
RecordFits octets (kept.RemoteReject d id problem by) = Unit {0}
RecordFits octets (kept.ResultLast d number id body) = ResultFits octets body
RecordFits octets (kept.ErrorBack d number id body) = BodyFits octets body
RecordFits octets (kept.Rejected d number id problem by) = Unit {0}
RecordFits octets (kept.Lapsed d number id) = Unit {0}
RecordFits octets (kept.Ended d number id) = Unit {0}
RecordFits octets (kept.Dropped why) = Unit {0}

-- The parts of all outputs lie within them (own).
abbrev pub AllFit : List ℕ → List Record → Type 0
AllFit octets records = AllByRecursion (RecordFits octets) records
