-- What a message asks of a register.
use Rattle.std.specs.Prelude.{ℕ, ℤ, List, Option, Some, None, option_copied}
use Rattle.tcap_component.specs.Component.{CodeParts}
use Rattle.tcap_component.specs.Views.{code_parts}
use Rattle.tcap_model.specs.Words.Output.{ComponentIndication, DialogueIndication, Output}
use Rattle.tcap_register.specs.declared.invoke.Invoke as rust

-- An Invoke of a dialogue: the identifiers of both, the code and the parameter (Q.771, TC-INVOKE indication).
pub record InvokeParts : Type 0 where
  pub dialogue : ℕ
  pub id : ℤ
  pub code : CodeParts
  pub parameter : Option (List ℕ)

-- An Invoke, by what its slices hold (own).
abbrev pub invoke_view : rust.Invoke → InvokeParts
invoke_view invoke = record {
  dialogue = invoke.dialogue;
  id = invoke.id;
  code = code_parts invoke.code;
  parameter = option_copied invoke.parameter;
}

-- The Invoke that a component's indication tells, if there is a dialogue in which it can be answered: a
-- Unidirectional has none (Q.771, TC-INVOKE indication).
abbrev pub invoke_in : ComponentIndication → Option InvokeParts
invoke_in (ComponentIndication.invoked None id linked code parameter) = None
invoke_in (ComponentIndication.invoked (Some dialogue) id linked code parameter) =
    Some (record { dialogue = dialogue; id = id; code = code; parameter = parameter })
invoke_in (ComponentIndication.result_more dialogue number id body) = None
invoke_in (ComponentIndication.local_reject dialogue id problem) = None
invoke_in (ComponentIndication.remote_reject dialogue id problem by) = None
invoke_in (ComponentIndication.closed dialogue number id closing) = None

-- The Invoke that an output tells, if it tells one that can be answered (own).
abbrev pub invoke_told : Output → Option InvokeParts
invoke_told (Output.send to bytes) = None
invoke_told (Output.dialogue told) = None
invoke_told (Output.component told) = invoke_in told
invoke_told (Output.dropped why) = None

-- The dialogue that an indication begins or continues, if it does (Q.771, Dialogue handling).
abbrev pub dialogue_in : DialogueIndication → Option ℕ
dialogue_in (DialogueIndication.uni context info) = None
dialogue_in (DialogueIndication.begin dialogue context info) = Some dialogue
dialogue_in (DialogueIndication.go_on dialogue context info) = Some dialogue
dialogue_in (DialogueIndication.end dialogue context info) = None
dialogue_in (DialogueIndication.u_abort dialogue pdu) = None
dialogue_in (DialogueIndication.p_abort dialogue why) = None

-- The dialogue that an output begins or continues, if it does (own).
abbrev pub dialogue_told : Output → Option ℕ
dialogue_told (Output.send to bytes) = None
dialogue_told (Output.dialogue told) = dialogue_in told
dialogue_told (Output.component told) = None
dialogue_told (Output.dropped why) = None
