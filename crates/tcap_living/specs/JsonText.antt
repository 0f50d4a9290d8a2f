-- An answer in JSON: an object in each line. Octets are hexadecimal between quotation marks, what is absent is null, and
-- no word has a quotation mark or a backslash.
use Rattle.std.specs.Prelude.{ℕ, ℤ, List, ◌++◌, codes, Option, Some, None}
use Rattle.std.specs.Fmt.{decimal, signed_decimal}
use Rattle.std.specs.List.{flat_map}
use Rattle.hex.specs.Hex.{encode_lower}
use Rattle.tcap_component.specs.Component.{BodyParts, CodeParts}
use Rattle.tcap_component.specs.Component.CodeParts.{global, local}
use Rattle.tcap_component.specs.Problem.{ProblemParts}
use Rattle.tcap_model.specs.Words.Address.{Address}
use Rattle.tcap_model.specs.Words.Answer.{Answer}
use Rattle.tcap_model.specs.Words.Fault.{Fault, fault_number}
use Rattle.tcap_model.specs.Words.Output.{AbortCause, Closing, ComponentIndication, DialogueIndication, DropCause, Output, Rejector}
use Rattle.tcap_pdu.specs.DialogueSpelling.{PduValue}
use Rattle.tcap_play.specs.OutputText.{cause_words, drop_words, rejector_words}
use Rattle.tcap_reception.specs.declared.state.State.{State}
use Rattle.tcap_reception.specs.declared.state.State.TheVariants as state
use Rattle.tcap_words.specs.ComponentText.{problem_words}
use Rattle.tcap_words.specs.DialogueText.{pdu_words}
use Rattle.tcap_lines.specs.FaultNames.{fault_name_of}
use Rattle.tcap_lines.specs.FaultText.{line_fault_words}
use Rattle.tcap_lines.specs.LineFaults.{or_empty}
use Rattle.tcap_lines.specs.declared.fault.LineFault.{LineFault}
use Rattle.tcap_living.specs.LiveTable.{live_table}
use Rattle.tcap_living.specs.Outputs.{outputs_in}

-- ---- values

-- Octets (own).
abbrev pub json_octets : List ℕ → List ℕ
json_octets octets = codes "\"" ++ (encode_lower octets ++ codes "\"")

-- Octets that may be absent (own).
abbrev pub json_optional : Option (List ℕ) → List ℕ
json_optional None = codes "null"
json_optional (Some octets) = json_octets octets

-- An invoke identifier that may be absent (own).
abbrev pub json_identifier : Option ℤ → List ℕ
json_identifier None = codes "null"
json_identifier (Some id) = signed_decimal id

-- A number that may be absent: a dialogue, a moment (own).
abbrev pub json_number : Option ℕ → List ℕ
json_number None = codes "null"
json_number (Some number) = decimal number

-- A code: a local one is a number, a global one the contents octets of its object identifier (own).
abbrev pub json_code : CodeParts → List ℕ
json_code (local number) = signed_decimal number
json_code (global octets) = json_octets octets

-- ---- members

-- An application context name and user information (own).
abbrev pub json_portion : Option (List ℕ) → List ℕ → List ℕ
json_portion context info = (codes ",\"context\":" ++ json_optional context) ++ (codes ",\"info\":" ++ json_octets info)

-- A code and a parameter (own).
abbrev pub json_coded : CodeParts → Option (List ℕ) → List ℕ
json_coded code parameter = (codes ",\"code\":" ++ json_code code) ++ (codes ",\"parameter\":" ++ json_optional parameter)

-- The body of a result (own).
abbrev pub json_body : Option BodyParts → List ℕ
json_body None = codes ",\"code\":null,\"parameter\":null"
json_body (Some body) = json_coded body.code body.parameter

-- A problem (own).
abbrev pub json_problem : ProblemParts → List ℕ
json_problem problem = codes ",\"problem\":\"" ++ (problem_words problem ++ codes "\"")

-- Who rejects (own).
abbrev pub json_by : Rejector → List ℕ
json_by by = codes ",\"by\":\"" ++ (rejector_words by ++ codes "\"")

-- The name of an output, and its dialogue, which a Unidirectional lacks (own).
abbrev pub json_placed : List ℕ → Option ℕ → List ℕ
json_placed name dialogue = name ++ (codes "\",\"dialogue\":" ++ json_number dialogue)

-- The name of an output for an invocation, its dialogue, its invoke identifier and its number (own).
abbrev pub json_invocation : List ℕ → ℕ → ℕ → ℤ → List ℕ
json_invocation name dialogue number id =
    json_placed name (Some dialogue) ++ ((codes ",\"id\":" ++ signed_decimal id) ++ (codes ",\"number\":" ++ decimal number))

-- The name of an output for a component that is known by its identifier at most, its dialogue and the identifier (own).
abbrev pub json_unnumbered : List ℕ → Option ℕ → Option ℤ → List ℕ
json_unnumbered name dialogue id = json_placed name dialogue ++ (codes ",\"id\":" ++ json_identifier id)

-- The dialogue PDU of an Abort, by its words (own).
abbrev pub json_pdu : Option PduValue → List ℕ
json_pdu None = codes ",\"pdu\":null"
json_pdu (Some pdu) = codes ",\"pdu\":\"" ++ (pdu_words pdu ++ codes "\"")

-- Why the provider aborts (own).
abbrev pub json_cause : AbortCause → List ℕ
json_cause why = codes ",\"why\":\"" ++ (cause_words why ++ codes "\"")

-- ---- outputs

-- An indication of dialogue handling: its name, and its members (own).
abbrev pub json_dialogue : DialogueIndication → List ℕ
json_dialogue (DialogueIndication.uni context info) = codes "uni\"" ++ json_portion context info
json_dialogue (DialogueIndication.begin dialogue context info) = json_placed (codes "begin") (Some dialogue) ++ json_portion context info
json_dialogue (DialogueIndication.go_on dialogue context info) = json_placed (codes "continue") (Some dialogue) ++ json_portion context info
json_dialogue (DialogueIndication.end dialogue context info) = json_placed (codes "end") (Some dialogue) ++ json_portion context info
json_dialogue (DialogueIndication.u_abort dialogue pdu) = json_placed (codes "uabort") (Some dialogue) ++ json_pdu pdu
json_dialogue (DialogueIndication.p_abort dialogue why) = json_placed (codes "pabort") (Some dialogue) ++ json_cause why

-- That an invocation is closed, and by what (own).
abbrev pub json_closed : ℕ → ℕ → ℤ → Closing → List ℕ
json_closed dialogue number id (Closing.result_last body) = json_invocation (codes "last") dialogue number id ++ json_body body
json_closed dialogue number id (Closing.error_back code parameter) = json_invocation (codes "error") dialogue number id ++ json_coded code parameter
json_closed dialogue number id (Closing.rejected problem by) = json_invocation (codes "rejected") dialogue number id ++ (json_problem problem ++ json_by by)
json_closed dialogue number id Closing.lapsed = json_invocation (codes "lapsed") dialogue number id
json_closed dialogue number id Closing.ended = json_invocation (codes "ended") dialogue number id
json_closed dialogue number id Closing.given_up = json_invocation (codes "givenup") dialogue number id

-- An indication of component handling (own).
abbrev pub json_component : ComponentIndication → List ℕ
json_component (ComponentIndication.invoked dialogue id linked code parameter) =
    json_unnumbered (codes "invoked") dialogue (Some id) ++ ((codes ",\"linked\":" ++ json_identifier linked) ++ json_coded code parameter)
json_component (ComponentIndication.result_more dialogue number id body) = json_invocation (codes "more") dialogue number id ++ json_body body
json_component (ComponentIndication.local_reject dialogue id problem) = json_unnumbered (codes "localreject") dialogue id ++ json_problem problem
json_component (ComponentIndication.remote_reject dialogue id problem by) =
    json_unnumbered (codes "remotereject") dialogue id ++ (json_problem problem ++ json_by by)
json_component (ComponentIndication.closed dialogue number id closing) = json_closed dialogue number id closing

-- What is sent, and where it goes (own).
abbrev pub json_send : Address → List ℕ → List ℕ
json_send to bytes = (codes "send\",\"to\":" ++ json_octets to) ++ (codes ",\"octets\":" ++ json_octets bytes)

-- Why a message is dropped (own).
abbrev pub json_dropped : DropCause → List ℕ
json_dropped why = codes "dropped\",\"why\":\"" ++ (drop_words why ++ codes "\"")

-- An output (own).
abbrev pub json_members : Output → List ℕ
json_members (Output.send to bytes) = json_send to bytes
json_members (Output.dialogue told) = json_dialogue told
json_members (Output.component told) = json_component told
json_members (Output.dropped why) = json_dropped why

-- An object: the number of the line that is answered, and its members; the first begins so (own).
abbrev pub json_object : ℕ → List ℕ → List ℕ → List ℕ
json_object number first members = codes "{\"line\":" ++ (decimal number ++ (first ++ (members ++ codes "}\n")))

-- The object of an output (own).
unfoldable pub json_output : ℕ → Output → List ℕ
json_output number output = json_object number (codes ",\"output\":\"") (json_members output)

-- The objects of outputs, in their order (own).
abbrev pub json_outputs : ℕ → List Output → List ℕ
json_outputs number outputs = flat_map (λ output. json_output number output) outputs

-- ---- last objects

-- The last object of an answer (own).
unfoldable pub json_last : ℕ → List ℕ → List ℕ
json_last number members = json_object number (codes ",\"last\":\"") members

-- A refusal: the fault's number and its name (own).
abbrev pub json_refused : Fault → List ℕ
json_refused fault = (codes "refused\",\"fault\":" ++ decimal (fault_number fault)) ++ (codes ",\"name\":\"" ++ (or_empty (fault_name_of (fault_number fault)) ++ codes "\""))

-- What was made, or that all outputs stand before (own).
abbrev pub json_made : Answer → List ℕ
json_made (Answer.new_dialogue dialogue) = codes "new\",\"dialogue\":" ++ decimal dialogue
json_made (Answer.number number) = codes "number\",\"number\":" ++ decimal number
json_made Answer.done = codes "done\""
json_made (Answer.given_up number) = codes "givenup\",\"number\":" ++ decimal number
json_made (Answer.outputs outputs) = codes "done\""
json_made (Answer.refused fault) = json_refused fault

-- The objects of an answer: its outputs one by one, and a last one (own).
abbrev pub json_answer : ℕ → Answer → List ℕ
json_answer number answer = json_outputs number (outputs_in answer) ++ json_last number (json_made answer)

-- The moment at which the next timer is due (own).
abbrev pub json_timer : Option ℕ → List ℕ
json_timer moment = codes "timer\",\"moment\":" ++ json_number moment

-- The state of a dialogue (own; Q.774, Transaction state machine).
abbrev pub json_state : Option State → List ℕ
json_state None = codes "state\",\"state\":null"
json_state (Some state.Fresh) = codes "state\",\"state\":\"fresh\""
json_state (Some state.Sent) = codes "state\",\"state\":\"sent\""
json_state (Some state.Received) = codes "state\",\"state\":\"received\""
json_state (Some state.Active) = codes "state\",\"state\":\"active\""

-- That a line has no form: which word of it is wrong first, and what was expected there (own).
abbrev pub json_wrong : Option LineFault → List ℕ
json_wrong None = codes "bad\""
json_wrong (Some found) = (codes "bad\",\"word\":" ++ decimal found.word) ++ (codes ",\"why\":\"" ++ (line_fault_words live_table found ++ codes "\""))
