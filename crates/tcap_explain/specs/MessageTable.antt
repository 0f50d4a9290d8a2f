-- The tables of messages: which elements may stand at each line (Q.773, Structure of TC messages).
use Rattle.std.specs.Prelude.{ℕ, Bool, true, false, List, Option}
use Rattle.tcap_explain.specs.declared.contents.Contents.TheVariants as contents
use Rattle.tcap_explain.specs.declared.line.Line.TheVariants as line
use Rattle.tcap_explain.specs.declared.line.ListLine.TheVariants as list
use Rattle.tcap_explain.specs.declared.line.MessageLine.{MessageLine}
use Rattle.tcap_explain.specs.declared.line.MessageLine.TheVariants as message
use Rattle.tcap_explain.specs.declared.table.Inside.TheVariants as inside
use Rattle.tcap_explain.specs.Choice.{Choice, only, either}

-- What stands at each line, by its tag: what it holds, and the line that follows it
-- (Q.773, tables of information elements).
abbrev pub message_next : MessageLine → List ℕ → Option Choice
message_next message.MessageType tag =
    either (only 0x61 tag (inside.Elements (line.Message message.UniPortions)) (line.List list.End))
    (either (only 0x62 tag (inside.Elements (line.Message message.BeginOrigin)) (line.List list.End))
    (either (only 0x64 tag (inside.Elements (line.Message message.Destination)) (line.List list.End))
    (either (only 0x65 tag (inside.Elements (line.Message message.ContinueOrigin)) (line.List list.End))
    (only 0x67 tag (inside.Elements (line.Message message.AbortDestination)) (line.List list.End)))))
message_next message.UniPortions tag =
    either (only 0x6b tag (inside.Octets contents.Any) (line.Message message.UniComponents))
    (only 0x6c tag (inside.Octets contents.Any) (line.List list.End))
message_next message.UniComponents tag = only 0x6c tag (inside.Octets contents.Any) (line.List list.End)
message_next message.BeginOrigin tag = only 0x48 tag (inside.Octets contents.TransactionId) (line.Message message.Portions)
message_next message.ContinueOrigin tag = only 0x48 tag (inside.Octets contents.TransactionId) (line.Message message.Destination)
message_next message.Destination tag = only 0x49 tag (inside.Octets contents.TransactionId) (line.Message message.Portions)
message_next message.Portions tag =
    either (only 0x6b tag (inside.Octets contents.Any) (line.Message message.ComponentPortion))
    (only 0x6c tag (inside.Octets contents.Any) (line.List list.End))
message_next message.ComponentPortion tag = only 0x6c tag (inside.Octets contents.Any) (line.List list.End)
message_next message.AbortDestination tag = only 0x49 tag (inside.Octets contents.TransactionId) (line.Message message.AbortReason)
message_next message.AbortReason tag =
    either (only 0x4a tag (inside.Octets contents.PAbortCause) (line.List list.End))
    (only 0x6b tag (inside.Octets contents.Any) (line.List list.End))

-- Whether the contents may end at the line (Q.773, tables of information elements).
abbrev pub message_may_end : MessageLine → Bool
message_may_end message.MessageType = false
message_may_end message.UniPortions = false
message_may_end message.UniComponents = false
message_may_end message.BeginOrigin = false
message_may_end message.ContinueOrigin = false
message_may_end message.Destination = false
message_may_end message.Portions = true
message_may_end message.ComponentPortion = true
message_may_end message.AbortDestination = false
message_may_end message.AbortReason = true
