-- The tables of the dialogue portion, down to its PDU (Q.773, Dialogue portion).
use Rattle.std.specs.Prelude.{ℕ, Bool, false, List, Option, if◌then◌else◌}
use Rattle.std.specs.Str.{bytes_eq}
use Rattle.tcap_pdu.specs.DialogueSpelling.{structured_syntax, unstructured_syntax}
use Rattle.tcap_explain.specs.declared.contents.Contents.TheVariants as contents
use Rattle.tcap_explain.specs.declared.line.Line.{Line}
use Rattle.tcap_explain.specs.declared.line.Line.TheVariants as line
use Rattle.tcap_explain.specs.declared.line.ListLine.TheVariants as list
use Rattle.tcap_explain.specs.declared.line.PortionLine.{PortionLine}
use Rattle.tcap_explain.specs.declared.line.PortionLine.TheVariants as portion
use Rattle.tcap_explain.specs.declared.line.PduLine.TheVariants as pdu
use Rattle.tcap_explain.specs.declared.table.Inside.TheVariants as inside
use Rattle.tcap_explain.specs.Choice.{Choice, only, either}

-- The line behind an abstract syntax: the PDU of a structured or of an unstructured dialogue; behind
-- another syntax any elements (Q.773, Dialogue portion).
abbrev pub line_behind : List ℕ → Line
line_behind syntax =
    if bytes_eq syntax structured_syntax then line.Portion portion.Structured
    else if bytes_eq syntax unstructured_syntax then line.Portion portion.Unstructured
    else line.List list.Elements

-- What stands at each line, by its tag: what it holds, and the line that follows it
-- (Q.773, tables of information elements).
abbrev pub portion_next : PortionLine → List ℕ → List ℕ → Option Choice
portion_next portion.External tag content = only 0x28 tag (inside.Elements (line.Portion portion.DialogueSyntax)) (line.List list.End)
portion_next portion.AbortExternal tag content = only 0x28 tag (inside.Elements (line.Portion portion.AnySyntax)) (line.List list.End)
portion_next portion.DialogueSyntax tag content = only 0x06 tag (inside.Octets contents.DialogueSyntax) (line_behind content)
portion_next portion.AnySyntax tag content = only 0x06 tag (inside.Octets contents.ObjectIdentifier) (line_behind content)
portion_next portion.Structured tag content = only 0xa0 tag (inside.Elements (line.Portion portion.StructuredPdu)) (line.List list.End)
portion_next portion.Unstructured tag content = only 0xa0 tag (inside.Elements (line.Portion portion.UnstructuredPdu)) (line.List list.End)
portion_next portion.StructuredPdu tag content =
    either (only 0x60 tag (inside.Elements (line.Pdu pdu.RequestVersion)) (line.List list.End))
    (either (only 0x61 tag (inside.Elements (line.Pdu pdu.ResponseVersion)) (line.List list.End))
    (only 0x64 tag (inside.Elements (line.Pdu pdu.AbortSource)) (line.List list.End)))
portion_next portion.UnstructuredPdu tag content = only 0x60 tag (inside.Elements (line.Pdu pdu.RequestVersion)) (line.List list.End)

-- Whether the contents may end at the line (Q.773, tables of information elements).
abbrev pub portion_may_end : PortionLine → Bool
portion_may_end portion.External = false
portion_may_end portion.AbortExternal = false
portion_may_end portion.DialogueSyntax = false
portion_may_end portion.AnySyntax = false
portion_may_end portion.Structured = false
portion_may_end portion.Unstructured = false
portion_may_end portion.StructuredPdu = false
portion_may_end portion.UnstructuredPdu = false
