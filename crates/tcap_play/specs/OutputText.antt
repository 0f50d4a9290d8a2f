-- The line of an output: what is sent, told or dropped.
use Rattle.std.specs.Prelude.{ℕ, ℤ, List, [], ◌++◌, bytes_eq, codes, Option, Some, None, if◌then◌else◌}
use Rattle.std.specs.Fmt.{decimal, signed_decimal}
use Rattle.hex.specs.Hex.{encode_lower}
use Rattle.tcap_pdu.specs.DialogueSpelling.{PduValue}
use Rattle.tcap_model.specs.Words.Address.{Address}
use Rattle.tcap_model.specs.Words.Output.{AbortCause, Rejector, DropCause, Closing, ComponentIndication, DialogueIndication, Output}
use Rattle.tcap_play.specs.Sides.{Engine, address_of, far}
use Rattle.tcap_words.specs.ComponentText.{identifier_words, coded_words, body_words, problem_words}
use Rattle.tcap_words.specs.DialogueText.{pdu_words}
use Rattle.tcap_words.specs.Text.{octets_words, optional_octets_words}

-- An engine: its letter (own).
abbrev pub engine_words : Engine → List ℕ
engine_words Engine.a = codes "A"
engine_words Engine.b = codes "B"

-- A dialogue by its identifier, `-` in a Unidirectional, which has none (own).
abbrev pub place_words : Option ℕ → List ℕ
place_words None = codes "-"
place_words (Some dialogue) = decimal dialogue

-- The application context name and the user information, each `-` where it is empty or absent (own).
abbrev pub context_words : Option (List ℕ) → List ℕ → List ℕ
context_words context info = codes "context " ++ (optional_octets_words context ++ (codes " info " ++ octets_words info))

-- An indication of a message of this name: its dialogue, its context and its user information (own).
abbrev pub message_words : List ℕ → ℕ → Option (List ℕ) → List ℕ → List ℕ
message_words name dialogue context info = name ++ (codes " " ++ (decimal dialogue ++ (codes " " ++ context_words context info)))

-- The dialogue PDU of an Abort, `-` where it has none (own).
abbrev pub abort_words : Option PduValue → List ℕ
abort_words None = codes "-"
abort_words (Some pdu) = pdu_words pdu

-- Why the provider aborts (own).
abbrev pub cause_words : AbortCause → List ℕ
cause_words (AbortCause.cause number) = codes "cause " ++ decimal number
cause_words AbortCause.abnormal = codes "abnormal"
cause_words AbortCause.no_common = codes "nocommon"
cause_words AbortCause.idle = codes "idle"

-- An indication of dialogue handling (own).
abbrev pub dialogue_words : DialogueIndication → List ℕ
dialogue_words (DialogueIndication.uni context info) = codes "uni " ++ context_words context info
dialogue_words (DialogueIndication.begin dialogue context info) = message_words (codes "begin") dialogue context info
dialogue_words (DialogueIndication.go_on dialogue context info) = message_words (codes "continue") dialogue context info
dialogue_words (DialogueIndication.end dialogue context info) = message_words (codes "end") dialogue context info
dialogue_words (DialogueIndication.u_abort dialogue pdu) = codes "uabort " ++ (decimal dialogue ++ (codes " " ++ abort_words pdu))
dialogue_words (DialogueIndication.p_abort dialogue why) = codes "pabort " ++ (decimal dialogue ++ (codes " " ++ cause_words why))

-- Who rejects (own).
abbrev pub rejector_words : Rejector → List ℕ
rejector_words Rejector.local = codes "local"
rejector_words Rejector.remote_provider = codes "provider"
rejector_words Rejector.remote_user = codes "user"

-- An indication of this name for an invocation: its dialogue, its invoke identifier and its number (own).
abbrev pub invocation_words : List ℕ → ℕ → ℕ → ℤ → List ℕ
invocation_words name dialogue number id = name ++ (codes " " ++ (decimal dialogue ++ (codes " id " ++ (signed_decimal id ++ (codes " number " ++ decimal number)))))

-- That the invocation of a dialogue with this number and invoke identifier is closed, and by what (own).
abbrev pub closed_words : ℕ → ℕ → ℤ → Closing → List ℕ
closed_words dialogue number id (Closing.result_last body) = invocation_words (codes "last") dialogue number id ++ (codes " op " ++ body_words body)
closed_words dialogue number id (Closing.error_back code parameter) = invocation_words (codes "error") dialogue number id ++ (codes " code " ++ coded_words code parameter)
closed_words dialogue number id (Closing.rejected problem by) = invocation_words (codes "rejected") dialogue number id ++ (codes " " ++ (problem_words problem ++ (codes " by " ++ rejector_words by)))
closed_words dialogue number id Closing.lapsed = invocation_words (codes "lapsed") dialogue number id
closed_words dialogue number id Closing.ended = invocation_words (codes "ended") dialogue number id
closed_words dialogue number id Closing.given_up = invocation_words (codes "givenup") dialogue number id

-- An indication of component handling (own).
abbrev pub component_words : ComponentIndication → List ℕ
component_words (ComponentIndication.invoked dialogue id linked code parameter) = codes "invoked " ++ (place_words dialogue ++ (codes " id " ++ (signed_decimal id ++ (codes " linked " ++ (identifier_words linked ++ (codes " op " ++ coded_words code parameter))))))
component_words (ComponentIndication.result_more dialogue number id body) = invocation_words (codes "more") dialogue number id ++ (codes " op " ++ body_words body)
component_words (ComponentIndication.local_reject dialogue id problem) = codes "localreject " ++ (place_words dialogue ++ (codes " id " ++ (identifier_words id ++ (codes " " ++ problem_words problem))))
component_words (ComponentIndication.remote_reject dialogue id problem by) = codes "remotereject " ++ (place_words dialogue ++ (codes " id " ++ (identifier_words id ++ (codes " " ++ (problem_words problem ++ (codes " by " ++ rejector_words by))))))
component_words (ComponentIndication.closed dialogue number id closing) = closed_words dialogue number id closing

-- Why a message is dropped (own).
abbrev pub drop_words : DropCause → List ℕ
drop_words DropCause.too_long = codes "toolong"
drop_words DropCause.bad_message = codes "badmessage"
drop_words DropCause.no_dialogue = codes "nodialogue"
drop_words DropCause.bad_dialogue = codes "baddialogue"

-- Where a message goes that doesn't go to the other engine; nothing of one that does (own).
abbrev pub strange_words : Engine → Address → List ℕ
strange_words engine to = if bytes_eq to (address_of (far engine)) then [] else codes " to " ++ octets_words to

-- A message that an engine sends: its name, which is the engine and the number of the message among all
-- that the engine sends; its octets; and where it goes if not to the other engine (own).
abbrev pub send_words : Engine → ℕ → Address → List ℕ → List ℕ
send_words engine number to bytes =
    codes "send " ++ (engine_words engine ++ (decimal number ++ (codes " " ++ (encode_lower bytes ++ strange_words engine to))))

-- An output; the number is that of the message, if it sends one (own).
abbrev pub output_words : Engine → ℕ → Output → List ℕ
output_words engine number (Output.send to bytes) = send_words engine number to bytes
output_words engine number (Output.dialogue told) = dialogue_words told
output_words engine number (Output.component told) = component_words told
output_words engine number (Output.dropped why) = codes "dropped " ++ drop_words why

-- A line of an engine (own).
abbrev pub engine_line : Engine → List ℕ → List ℕ
engine_line engine words = engine_words engine ++ (codes " " ++ (words ++ codes "\n"))

-- The line of an output (own).
abbrev pub output_line : Engine → ℕ → Output → List ℕ
output_line engine number output = engine_line engine (output_words engine number output)
