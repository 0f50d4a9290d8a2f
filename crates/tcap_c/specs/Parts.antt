-- The octets of an output, in the parts that stand one after the other in the room of C.
use Rattle.std.specs.Prelude.{ℕ, ◌+◌, List, [], ◌++◌, length, Option, Some, None}
use Rattle.tcap_component.specs.Component.{CodeParts, BodyParts}
use Rattle.tcap_pdu.specs.DialogueSpelling.{PduValue}
use Rattle.tcap_model.specs.Words.Output.{Output, Closing, ComponentIndication, DialogueIndication}
use Rattle.tcap_c.specs.declared.output_numbers.PartLengths.{PartLengths}

-- The address and the message of a Send; the context and the user information of a dialogue portion; a global code, by
-- its contents octets; a parameter (own).
pub record Parts : Type 0 where
  pub address : List ℕ
  pub message : List ℕ
  pub context : List ℕ
  pub info : List ℕ
  pub global : List ℕ
  pub parameter : List ℕ

-- No octets (own).
abbrev pub no_parts : Parts
no_parts = record { address = []; message = []; context = []; info = []; global = []; parameter = [] }

-- The octets, none where there are none (own).
abbrev pub octets_if_any : Option (List ℕ) → List ℕ
octets_if_any None = []
octets_if_any (Some octets) = octets

-- The octets of a code: those of a global one (Q.773, Operation Code; Q.773, Error Code).
abbrev pub code_octets : CodeParts → List ℕ
code_octets (CodeParts.local number) = []
code_octets (CodeParts.global octets) = octets

-- The parts of a dialogue portion (Q.771, Dialogue handling).
abbrev pub portion_parts : List ℕ → List ℕ → Parts
portion_parts context info = record no_parts { context = context; info = info }

-- The parts of a code and a parameter (Q.771, Component handling).
abbrev pub coded_parts : CodeParts → Option (List ℕ) → Parts
coded_parts code parameter = record no_parts { global = code_octets code; parameter = octets_if_any parameter }

-- The parts of the body of a result, if it has one (Q.773, Return Result component).
abbrev pub body_octets : Option BodyParts → Parts
body_octets None = no_parts
body_octets (Some body) = coded_parts body.code body.parameter

-- The parts of a dialogue PDU, if there is one; an EXTERNAL of another syntax stands as the user information (own).
abbrev pub pdu_parts : Option PduValue → Parts
pdu_parts None = no_parts
pdu_parts (Some (PduValue.aarq version1 context info)) = portion_parts context info
pdu_parts (Some (PduValue.audt version1 context info)) = portion_parts context info
pdu_parts (Some (PduValue.aare version1 context accepted diagnostic info)) = portion_parts context info
pdu_parts (Some (PduValue.abrt by_provider info)) = portion_parts [] info
pdu_parts (Some (PduValue.foreign external)) = portion_parts [] external

-- Those of an indication of dialogue handling (Q.771, Dialogue handling).
abbrev pub dialogue_parts : DialogueIndication → Parts
dialogue_parts (DialogueIndication.uni context info) = portion_parts (octets_if_any context) info
dialogue_parts (DialogueIndication.begin d context info) = portion_parts (octets_if_any context) info
dialogue_parts (DialogueIndication.go_on d context info) = portion_parts (octets_if_any context) info
dialogue_parts (DialogueIndication.end d context info) = portion_parts (octets_if_any context) info
dialogue_parts (DialogueIndication.u_abort d pdu) = pdu_parts pdu
dialogue_parts (DialogueIndication.p_abort d why) = no_parts

-- Those of the closing of an invocation (Q.771, Component handling).
abbrev pub closing_parts : Closing → Parts
closing_parts (Closing.result_last body) = body_octets body
closing_parts (Closing.error_back code parameter) = coded_parts code parameter
closing_parts (Closing.rejected problem by) = no_parts
closing_parts Closing.lapsed = no_parts
closing_parts Closing.ended = no_parts
closing_parts Closing.given_up = no_parts

-- Those of an indication of component handling (Q.771, Component handling).
abbrev pub component_parts : ComponentIndication → Parts
component_parts (ComponentIndication.invoked d id linked code parameter) = coded_parts code parameter
component_parts (ComponentIndication.result_more d number id body) = body_octets body
component_parts (ComponentIndication.local_reject d id problem) = no_parts
component_parts (ComponentIndication.remote_reject d id problem by) = no_parts
component_parts (ComponentIndication.closed d number id closing) = closing_parts closing

-- Those of an output (own).
abbrev pub parts_of : Output → Parts
parts_of (Output.send to bytes) = record no_parts { address = to; message = bytes }
parts_of (Output.dialogue told) = dialogue_parts told
parts_of (Output.component told) = component_parts told
parts_of (Output.dropped why) = no_parts

-- One after the other, as they stand in the room (own).
abbrev pub joined : Parts → List ℕ
joined p = p.address ++ (p.message ++ (p.context ++ (p.info ++ (p.global ++ p.parameter))))

-- How many octets each has (own).
abbrev pub lengths_of : Parts → PartLengths
lengths_of p = record {
  address = length p.address;
  message = length p.message;
  context = length p.context;
  info = length p.info;
  global = length p.global;
  parameter = length p.parameter;
}

-- How many octets there are (own).
abbrev pub count_of : PartLengths → ℕ
count_of l = l.address + (l.message + (l.context + (l.info + (l.global + l.parameter))))
