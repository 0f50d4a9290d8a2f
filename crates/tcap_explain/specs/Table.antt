-- The tables of Q.773 as one: which elements may stand at a line.
use Rattle.std.specs.Prelude.{ℕ, Bool, false, List, Option}
use Rattle.tcap_explain.specs.declared.line.Line.{Line}
use Rattle.tcap_explain.specs.declared.line.Line.TheVariants as line
use Rattle.tcap_explain.specs.Choice.{Choice}
use Rattle.tcap_explain.specs.ListTable.{list_next, list_may_end, list_is_over}
use Rattle.tcap_explain.specs.MessageTable.{message_next, message_may_end}
use Rattle.tcap_explain.specs.PortionTable.{portion_next, portion_may_end}
use Rattle.tcap_explain.specs.PduTable.{pdu_next, pdu_may_end}
use Rattle.tcap_explain.specs.ComponentTable.{component_next, component_may_end}

-- What an element with this tag and this content holds at the line, and the line that follows it; none, where
-- the line has no such element (Q.773, tables of information elements).
unfoldable pub next : Line → List ℕ → List ℕ → Option Choice
next (line.List l) tag content = list_next l
next (line.Message l) tag content = message_next l tag
next (line.Portion l) tag content = portion_next l tag content
next (line.Pdu l) tag content = pdu_next l tag
next (line.Component l) tag content = component_next l tag

-- Whether the contents may end at the line: what it has is optional, or nothing
-- (Q.773, tables of information elements).
unfoldable pub may_end : Line → Bool
may_end (line.List l) = list_may_end l
may_end (line.Message l) = message_may_end l
may_end (line.Portion l) = portion_may_end l
may_end (line.Pdu l) = pdu_may_end l
may_end (line.Component l) = component_may_end l

-- Whether nothing may follow at the line (Q.773, tables of information elements).
unfoldable pub is_over : Line → Bool
is_over (line.List l) = list_is_over l
is_over (line.Message l) = false
is_over (line.Portion l) = false
is_over (line.Pdu l) = false
is_over (line.Component l) = false
