-- The tables of dialogue PDUs (Q.773, Dialogue portion).
use Rattle.std.specs.Prelude.{ℕ, Bool, true, false, List, Option}
use Rattle.tcap_explain.specs.declared.contents.Contents.TheVariants as contents
use Rattle.tcap_explain.specs.declared.line.Line.TheVariants as line
use Rattle.tcap_explain.specs.declared.line.ListLine.TheVariants as list
use Rattle.tcap_explain.specs.declared.line.PduLine.{PduLine}
use Rattle.tcap_explain.specs.declared.line.PduLine.TheVariants as pdu
use Rattle.tcap_explain.specs.declared.table.Inside.TheVariants as inside
use Rattle.tcap_explain.specs.Choice.{Choice, only, either}

-- What stands at each line, by its tag: what it holds, and the line that follows it
-- (Q.773, tables of information elements).
abbrev pub pdu_next : PduLine → List ℕ → Option Choice
pdu_next pdu.RequestVersion tag =
    either (only 0x80 tag (inside.Octets contents.ProtocolVersion) (line.Pdu pdu.RequestContext))
    (only 0xa1 tag (inside.Elements (line.Pdu pdu.ContextName)) (line.Pdu pdu.UserInformation))
pdu_next pdu.RequestContext tag = only 0xa1 tag (inside.Elements (line.Pdu pdu.ContextName)) (line.Pdu pdu.UserInformation)
pdu_next pdu.ResponseVersion tag =
    either (only 0x80 tag (inside.Octets contents.ProtocolVersion) (line.Pdu pdu.ResponseContext))
    (only 0xa1 tag (inside.Elements (line.Pdu pdu.ContextName)) (line.Pdu pdu.AssociateResult))
pdu_next pdu.ResponseContext tag = only 0xa1 tag (inside.Elements (line.Pdu pdu.ContextName)) (line.Pdu pdu.AssociateResult)
pdu_next pdu.AssociateResult tag = only 0xa2 tag (inside.Elements (line.Pdu pdu.ResultNumber)) (line.Pdu pdu.Diagnostic)
pdu_next pdu.Diagnostic tag = only 0xa3 tag (inside.Elements (line.Pdu pdu.DiagnosticSource)) (line.Pdu pdu.UserInformation)
pdu_next pdu.AbortSource tag = only 0x80 tag (inside.Octets contents.AbortSource) (line.Pdu pdu.UserInformation)
pdu_next pdu.UserInformation tag = only 0xbe tag (inside.Elements (line.Pdu pdu.Externals)) (line.List list.End)
pdu_next pdu.Externals tag = only 0x28 tag (inside.Octets contents.Any) (line.Pdu pdu.Externals)
pdu_next pdu.ContextName tag = only 0x06 tag (inside.Octets contents.ObjectIdentifier) (line.List list.End)
pdu_next pdu.ResultNumber tag = only 0x02 tag (inside.Octets contents.ResultNumber) (line.List list.End)
pdu_next pdu.DiagnosticSource tag =
    either (only 0xa1 tag (inside.Elements (line.Pdu pdu.DiagnosticNumber)) (line.List list.End))
    (only 0xa2 tag (inside.Elements (line.Pdu pdu.DiagnosticNumber)) (line.List list.End))
pdu_next pdu.DiagnosticNumber tag = only 0x02 tag (inside.Octets contents.DiagnosticNumber) (line.List list.End)

-- Whether the contents may end at the line (Q.773, tables of information elements).
abbrev pub pdu_may_end : PduLine → Bool
pdu_may_end pdu.RequestVersion = false
pdu_may_end pdu.RequestContext = false
pdu_may_end pdu.ResponseVersion = false
pdu_may_end pdu.ResponseContext = false
pdu_may_end pdu.AssociateResult = false
pdu_may_end pdu.Diagnostic = false
pdu_may_end pdu.AbortSource = false
pdu_may_end pdu.UserInformation = true
pdu_may_end pdu.Externals = true
pdu_may_end pdu.ContextName = false
pdu_may_end pdu.ResultNumber = false
pdu_may_end pdu.DiagnosticSource = false
pdu_may_end pdu.DiagnosticNumber = false
