-- Lists of elements, as tables of one line.
use Rattle.std.specs.Prelude.{Bool, true, false, Option, Some, None}
use Rattle.tcap_explain.specs.declared.contents.Contents.TheVariants as contents
use Rattle.tcap_explain.specs.declared.line.Line.TheVariants as line
use Rattle.tcap_explain.specs.declared.line.ListLine.{ListLine}
use Rattle.tcap_explain.specs.declared.line.ListLine.TheVariants as list
use Rattle.tcap_explain.specs.declared.table.Inside.TheVariants as inside
use Rattle.tcap_explain.specs.Choice.{Choice, leads}

-- What stands at each line, by its tag: what it holds, and the line that follows it
-- (Q.773, tables of information elements).
abbrev pub list_next : ListLine → Option Choice
list_next list.OneElement = Some (leads (inside.Octets contents.Any) (line.List list.End))
list_next list.OneConstructed = Some (leads (inside.Elements (line.List list.Elements)) (line.List list.End))
list_next list.Elements = Some (leads (inside.Octets contents.Any) (line.List list.Elements))
list_next list.End = None

-- Whether the contents may end at the line (Q.773, tables of information elements).
abbrev pub list_may_end : ListLine → Bool
list_may_end list.OneElement = false
list_may_end list.OneConstructed = false
list_may_end list.Elements = true
list_may_end list.End = true

-- Whether nothing may follow at the line (Q.773, tables of information elements).
abbrev pub list_is_over : ListLine → Bool
list_is_over list.OneElement = false
list_is_over list.OneConstructed = false
list_is_over list.Elements = false
list_is_over list.End = true
