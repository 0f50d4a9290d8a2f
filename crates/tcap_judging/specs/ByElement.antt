-- The verdict on a message by the element that it is.
use Rattle.std.specs.Prelude.{ℕ, List, Option, Some, None, is_ok, if◌then◌else◌}
use Rattle.std.specs.List.{list_all}
use Rattle.ber_core.specs.Options.{◌>>=◌}
use Rattle.ber_core.specs.Element.{Parts}
use Rattle.ber_core.specs.ListReading.{items_of}
use Rattle.tcap_pdu.specs.FrameReading.{message_at, type_at}
use Rattle.tcap_pdu.specs.FrameSpelling.{Message}
use Rattle.tcap_pdu.specs.declared.fault.FrameFault.{FrameFault}
use Rattle.tcap_pdu.specs.declared.fault.FrameFault.TheVariants.{Unknown, BadlyFormatted, Incorrect}
use Rattle.tcap_pdu.specs.declared.frame.read.MessageType.{MessageType}

-- The message that an element is, if it is one (Q.773, Structure of TC messages).
abbrev pub message_in : Parts → Option Message
message_in e = type_at e.tag >>= (λ kind. message_at kind e.content)

-- The fault of an element of this type, if of one, that is no message, by its contents (own).
abbrev pub unread_by : Option MessageType → List ℕ → FrameFault
unread_by None content = Unknown
unread_by (Some kind) content = if list_all is_ok (items_of content) then Incorrect else BadlyFormatted

-- The fault of an element that is no message (own).
abbrev pub unread : Parts → FrameFault
unread e = unread_by (type_at e.tag) e.content
