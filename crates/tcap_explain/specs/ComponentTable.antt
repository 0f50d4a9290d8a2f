-- The tables of components (Q.773, Component portion).
use Rattle.std.specs.Prelude.{ℕ, Bool, true, false, List, Option, Some}
use Rattle.tcap_explain.specs.declared.contents.Contents.TheVariants as contents
use Rattle.tcap_explain.specs.declared.line.Line.TheVariants as line
use Rattle.tcap_explain.specs.declared.line.ListLine.TheVariants as list
use Rattle.tcap_explain.specs.declared.line.ComponentLine.{ComponentLine}
use Rattle.tcap_explain.specs.declared.line.ComponentLine.TheVariants as component
use Rattle.tcap_explain.specs.declared.table.Inside.TheVariants as inside
use Rattle.tcap_explain.specs.Choice.{Choice, leads, only, either}

-- What stands at each line, by its tag: what it holds, and the line that follows it
-- (Q.773, tables of information elements).
abbrev pub component_next : ComponentLine → List ℕ → Option Choice
component_next component.ComponentType tag =
    either (only 0xa1 tag (inside.Listed (line.List list.Elements) (line.Component component.InvokeId)) (line.List list.Elements))
    (either (only 0xa2 tag (inside.Listed (line.Component component.ResultList) (line.Component component.ResultId)) (line.List list.Elements))
    (either (only 0xa3 tag (inside.Listed (line.List list.Elements) (line.Component component.ErrorId)) (line.List list.Elements))
    (either (only 0xa4 tag (inside.Listed (line.List list.Elements) (line.Component component.RejectId)) (line.List list.Elements))
    (only 0xa7 tag (inside.Listed (line.Component component.ResultList) (line.Component component.ResultId)) (line.List list.Elements)))))
component_next component.InvokeId tag = only 0x02 tag (inside.Octets contents.Identifier) (line.Component component.LinkedOrCode)
component_next component.LinkedOrCode tag =
    either (only 0x80 tag (inside.Octets contents.Identifier) (line.Component component.Code))
    (either (only 0x02 tag (inside.Octets contents.LocalCode) (line.Component component.Parameter))
    (only 0x06 tag (inside.Octets contents.ObjectIdentifier) (line.Component component.Parameter)))
component_next component.Code tag =
    either (only 0x02 tag (inside.Octets contents.LocalCode) (line.Component component.Parameter))
    (only 0x06 tag (inside.Octets contents.ObjectIdentifier) (line.Component component.Parameter))
component_next component.Parameter tag = Some (leads (inside.Octets contents.Any) (line.List list.End))
component_next component.ResultId tag = only 0x02 tag (inside.Octets contents.Identifier) (line.Component component.ResultBody)
component_next component.ResultBody tag = only 0x30 tag (inside.Elements (line.Component component.Code)) (line.List list.End)
component_next component.ErrorId tag = only 0x02 tag (inside.Octets contents.Identifier) (line.Component component.Code)
component_next component.RejectId tag =
    either (only 0x02 tag (inside.Octets contents.Identifier) (line.Component component.Problem))
    (only 0x05 tag (inside.Octets contents.Null) (line.Component component.Problem))
component_next component.Problem tag =
    either (only 0x80 tag (inside.Octets contents.ProblemCode) (line.List list.End))
    (either (only 0x81 tag (inside.Octets contents.ProblemCode) (line.List list.End))
    (either (only 0x82 tag (inside.Octets contents.ProblemCode) (line.List list.End))
    (only 0x83 tag (inside.Octets contents.ProblemCode) (line.List list.End))))
component_next component.ResultList tag = Some (leads (inside.Octets contents.Any) (line.Component component.ResultListSecond))
component_next component.ResultListSecond tag =
    either (only 0x30 tag (inside.Elements (line.List list.Elements)) (line.List list.Elements))
    (Some (leads (inside.Octets contents.Any) (line.List list.Elements)))

-- Whether the contents may end at the line (Q.773, tables of information elements).
abbrev pub component_may_end : ComponentLine → Bool
component_may_end component.ComponentType = false
component_may_end component.InvokeId = false
component_may_end component.LinkedOrCode = false
component_may_end component.Code = false
component_may_end component.Parameter = true
component_may_end component.ResultId = false
component_may_end component.ResultBody = true
component_may_end component.ErrorId = false
component_may_end component.RejectId = false
component_may_end component.Problem = false
component_may_end component.ResultList = true
component_may_end component.ResultListSecond = true
