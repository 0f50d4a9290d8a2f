-- Which dialogues an event names.
use Rattle.std.specs.Prelude.{ℕ, List, length, Bool, true, false, Option, Some, None, nat_le, ◌==◌}
use Rattle.tcap_pdu.specs.FrameWritten.{message_limit}
use Rattle.tcap_model.specs.Procedures.Destination.{destination_of}
use Rattle.tcap_model.specs.Words.Event.{Event}
use Rattle.tcap_model.specs.Words.Event.Event.{new_dialogue, on_dialogue, received, moment}
use Rattle.tcap_model.specs.Words.LocalId.{dialogue_named, is_that}

-- A destination transaction identifier names the dialogue whose four octets it is (own).
abbrev pub is_destined : ℕ → Option (List ℕ) → Bool
is_destined dialogue None = false
is_destined dialogue (Some octets) = is_that dialogue (dialogue_named octets)

-- Bytes name the dialogue that their destination names, unless they are longer than a message may
-- be; the first argument tells whether they are short enough (own).
abbrev pub named_within : Bool → ℕ → List ℕ → Bool
named_within false dialogue bytes = false
named_within true dialogue bytes = is_destined dialogue (destination_of bytes)

-- A request names its dialogue, received bytes that of their destination, and a moment names every
-- dialogue (own).
abbrev pub names : Event → ℕ → Bool
names new_dialogue dialogue = false
names (on_dialogue asked request) dialogue = asked == dialogue
names (received from bytes) dialogue = named_within (nat_le (length bytes) message_limit) dialogue bytes
names (moment now) dialogue = true
