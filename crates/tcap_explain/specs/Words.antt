-- The words for what is expected: of a line of the tables, of contents octets, of an encoding.
use Rattle.std.specs.Prelude.{ℕ, List, codes}
use Rattle.ber_core.specs.declared.fault.BerFault.{BerFault}
use Rattle.ber_core.specs.declared.fault.BerFault.TheVariants as ber
use Rattle.tcap_explain.specs.declared.contents.Contents.{Contents}
use Rattle.tcap_explain.specs.declared.contents.Contents.TheVariants as contents
use Rattle.tcap_explain.specs.declared.line.Line.{Line}
use Rattle.tcap_explain.specs.declared.line.Line.TheVariants as line
use Rattle.tcap_explain.specs.declared.line.ListLine.{ListLine}
use Rattle.tcap_explain.specs.declared.line.ListLine.TheVariants as list
use Rattle.tcap_explain.specs.declared.line.MessageLine.{MessageLine}
use Rattle.tcap_explain.specs.declared.line.MessageLine.TheVariants as message
use Rattle.tcap_explain.specs.declared.line.PortionLine.{PortionLine}
use Rattle.tcap_explain.specs.declared.line.PortionLine.TheVariants as portion
use Rattle.tcap_explain.specs.declared.line.PduLine.{PduLine}
use Rattle.tcap_explain.specs.declared.line.PduLine.TheVariants as pdu
use Rattle.tcap_explain.specs.declared.line.ComponentLine.{ComponentLine}
use Rattle.tcap_explain.specs.declared.line.ComponentLine.TheVariants as component
use Rattle.tcap_explain.specs.declared.line.Rule.{Rule}
use Rattle.tcap_explain.specs.declared.line.Rule.TheVariants as rule

-- The words for a list of elements (own).
abbrev pub list_words : ListLine → List ℕ
list_words list.OneElement = codes "an element"
list_words list.OneConstructed = codes "an element"
list_words list.Elements = codes "an element"
list_words list.End = codes "the end"

-- The words for a line of messages (own).
abbrev pub message_words : MessageLine → List ℕ
message_words message.MessageType = codes "a message 0x61, 0x62, 0x64, 0x65 or 0x67"
message_words message.UniPortions = codes "the dialogue portion 0x6b or the component portion 0x6c"
message_words message.UniComponents = codes "the component portion 0x6c"
message_words message.BeginOrigin = codes "the originating transaction identifier 0x48"
message_words message.ContinueOrigin = codes "the originating transaction identifier 0x48"
message_words message.Destination = codes "the destination transaction identifier 0x49"
message_words message.Portions = codes "the dialogue portion 0x6b, the component portion 0x6c or the end"
message_words message.ComponentPortion = codes "the component portion 0x6c or the end"
message_words message.AbortDestination = codes "the destination transaction identifier 0x49"
message_words message.AbortReason = codes "the P-Abort cause 0x4a, the dialogue portion 0x6b or the end"

-- The words for a line of the dialogue portion (own).
abbrev pub portion_words : PortionLine → List ℕ
portion_words portion.External = codes "the EXTERNAL 0x28"
portion_words portion.AbortExternal = codes "the EXTERNAL 0x28"
portion_words portion.DialogueSyntax = codes "the abstract syntax 0x06"
portion_words portion.AnySyntax = codes "the abstract syntax 0x06"
portion_words portion.Structured = codes "the single-ASN1-type 0xa0"
portion_words portion.Unstructured = codes "the single-ASN1-type 0xa0"
portion_words portion.StructuredPdu = codes "the AARQ 0x60, the AARE 0x61 or the ABRT 0x64"
portion_words portion.UnstructuredPdu = codes "the AUDT 0x60"

-- The words for a line of dialogue PDUs (own).
abbrev pub pdu_words : PduLine → List ℕ
pdu_words pdu.RequestVersion = codes "the protocol version 0x80 or the application context name 0xa1"
pdu_words pdu.RequestContext = codes "the application context name 0xa1"
pdu_words pdu.ResponseVersion = codes "the protocol version 0x80 or the application context name 0xa1"
pdu_words pdu.ResponseContext = codes "the application context name 0xa1"
pdu_words pdu.AssociateResult = codes "the result 0xa2"
pdu_words pdu.Diagnostic = codes "the result source diagnostic 0xa3"
pdu_words pdu.AbortSource = codes "the abort source 0x80"
pdu_words pdu.UserInformation = codes "the user information 0xbe or the end"
pdu_words pdu.Externals = codes "an EXTERNAL 0x28 or the end"
pdu_words pdu.ContextName = codes "the object identifier 0x06"
pdu_words pdu.ResultNumber = codes "the integer 0x02"
pdu_words pdu.DiagnosticSource = codes "the dialogue service user 0xa1 or the dialogue service provider 0xa2"
pdu_words pdu.DiagnosticNumber = codes "the integer 0x02"

-- The words for a line of components (own).
abbrev pub component_words : ComponentLine → List ℕ
component_words component.ComponentType = codes "a component 0xa1, 0xa2, 0xa3, 0xa4 or 0xa7"
component_words component.InvokeId = codes "the invoke identifier 0x02"
component_words component.LinkedOrCode = codes "the linked identifier 0x80, the local code 0x02 or the global code 0x06"
component_words component.Code = codes "the local code 0x02 or the global code 0x06"
component_words component.Parameter = codes "a parameter or the end"
component_words component.ResultId = codes "the invoke identifier 0x02"
component_words component.ResultBody = codes "the sequence 0x30 or the end"
component_words component.ErrorId = codes "the invoke identifier 0x02"
component_words component.RejectId = codes "the invoke identifier 0x02 or the null 0x05"
component_words component.Problem = codes "the problem 0x80, 0x81, 0x82 or 0x83"
component_words component.ResultList = codes "an element"
component_words component.ResultListSecond = codes "an element"

-- The words for a line of the tables (own).
abbrev pub line_words : Line → List ℕ
line_words (line.List l) = list_words l
line_words (line.Message l) = message_words l
line_words (line.Portion l) = portion_words l
line_words (line.Pdu l) = pdu_words l
line_words (line.Component l) = component_words l

-- The words for contents octets (own).
abbrev pub contents_words : Contents → List ℕ
contents_words contents.Any = codes "any octets"
contents_words contents.TransactionId = codes "a transaction identifier of 1 to 4 octets"
contents_words contents.PAbortCause = codes "a P-Abort cause of one octet 0x00 to 0x7f"
contents_words contents.DialogueSyntax = codes "the abstract syntax of structured or of unstructured dialogues"
contents_words contents.ObjectIdentifier = codes "an object identifier"
contents_words contents.ProtocolVersion = codes "a protocol version in a bit string"
contents_words contents.ResultNumber = codes "a result of one octet 0x00 or 0x01"
contents_words contents.DiagnosticNumber = codes "a diagnostic of one octet 0x00 to 0x7f"
contents_words contents.AbortSource = codes "an abort source of one octet 0x00 or 0x01"
contents_words contents.Identifier = codes "an identifier of one octet"
contents_words contents.LocalCode = codes "a local code of 1 to 4 octets in the fewest octets"
contents_words contents.Null = codes "a null of no octets"
contents_words contents.ProblemCode = codes "a problem code of one octet 0x00 to 0x7f"

-- The words for an encoding (own).
abbrev pub ber_words : BerFault → List ℕ
ber_words ber.Short = codes "more octets"
ber_words ber.BadTag = codes "a tag"
ber_words ber.BadLength = codes "a length of at most 65535"
ber_words ber.IndefinitePrimitive = codes "a definite length behind a primitive tag"
ber_words ber.TooDeep = codes "at most 32 open elements of indefinite length"

-- The words for what a rule expects (own).
abbrev pub expected_words : Rule → List ℕ
expected_words rule.MessageLength = codes "at most 65535 octets"
expected_words (rule.Encoding fault) = ber_words fault
expected_words (rule.Other l) = line_words l
expected_words (rule.Missing l) = line_words l
expected_words (rule.Octets kind count) = contents_words kind
