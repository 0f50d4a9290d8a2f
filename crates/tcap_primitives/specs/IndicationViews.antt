-- Indications as a contract sees them.
use Rattle.std.specs.Prelude.{ℕ, ◌+◌, length, option_copied, Option, Some, None, Result, Ok, Err}
use Rattle.std.specs.Option.{option_map}
use Rattle.ber_core.specs.Place.{Slice}
use Rattle.tcap_component.specs.Views.{code_parts, body_parts, problem_parts}
use Rattle.tcap_component.specs.declared.component.Body.{Body}
use Rattle.tcap_component.specs.declared.component.Code.{Code}
use Rattle.tcap_component.specs.declared.component.Code.TheVariants as code
use Rattle.tcap_component.specs.declared.component.Component.{Component}
use Rattle.tcap_component.specs.declared.component.Component.TheVariants as component
use Rattle.tcap_component.specs.declared.fault.ComponentFault.{ComponentFault}
use Rattle.tcap_pdu.specs.DialogueViews.{pdu_value}
use Rattle.tcap_pdu.specs.declared.dialogue_pdu.DialoguePdu.{DialoguePdu}
use Rattle.tcap_pdu.specs.declared.dialogue_pdu.DialoguePdu.TheVariants as pdu
use Rattle.tcap_model.specs.Words.Output.{Output, Closing, ComponentIndication, DialogueIndication}
use Rattle.tcap_primitives.specs.OutputViews.{cause_view, drop_view, rejector}
use Rattle.tcap_primitives.specs.Slices.{Slices}
use Rattle.tcap_primitives.specs.declared.indication.Indication.{Indication}
use Rattle.tcap_primitives.specs.declared.indication.Indication.TheVariants as told

-- An indication, by what its slices hold (own).
abbrev pub indicated : Indication → Output
indicated (told.Uni context info) = Output.dialogue (DialogueIndication.uni (option_copied context) info.now)
indicated (told.Begin d context info) = Output.dialogue (DialogueIndication.begin d (option_copied context) info.now)
indicated (told.Continue d context info) = Output.dialogue (DialogueIndication.go_on d (option_copied context) info.now)
indicated (told.End d context info) = Output.dialogue (DialogueIndication.end d (option_copied context) info.now)
indicated (told.UAbort d pdu) = Output.dialogue (DialogueIndication.u_abort d (option_map pdu_value pdu))
indicated (told.PAbort d why) = Output.dialogue (DialogueIndication.p_abort d (cause_view why))
indicated (told.Invoked d id linked code parameter) = Output.component (ComponentIndication.invoked d id linked (code_parts code) (option_copied parameter))
indicated (told.ResultMore d number id body) = Output.component (ComponentIndication.result_more d number id (option_map body_parts body))
indicated (told.LocalReject d id problem) = Output.component (ComponentIndication.local_reject d id (problem_parts problem))
indicated (told.RemoteReject d id problem by) = Output.component (ComponentIndication.remote_reject d id (problem_parts problem) (rejector by))
indicated (told.ResultLast d number id body) = Output.component (ComponentIndication.closed d number id (Closing.result_last (option_map body_parts body)))
indicated (told.ErrorBack d number id code parameter) = Output.component (ComponentIndication.closed d number id (Closing.error_back (code_parts code) (option_copied parameter)))
indicated (told.Rejected d number id problem by) = Output.component (ComponentIndication.closed d number id (Closing.rejected (problem_parts problem) (rejector by)))
indicated (told.Lapsed d number id) = Output.component (ComponentIndication.closed d number id Closing.lapsed)
indicated (told.Ended d number id) = Output.component (ComponentIndication.closed d number id Closing.ended)
indicated (told.Dropped why) = Output.dropped (drop_view why)

-- The slices of an indication: a Unidirectional and a Begin tell an AUDT or an AARQ, 60, a Continue and
-- an End an AARE, 61 (Q.773, Dialogue portion; Q.773, Component portion).
abbrev pub indicated_slices : Indication → Slices
indicated_slices (told.Uni context info) = Slices.held 0x60 context info
indicated_slices (told.Begin d context info) = Slices.held 0x60 context info
indicated_slices (told.Continue d context info) = Slices.held 0x61 context info
indicated_slices (told.End d context info) = Slices.held 0x61 context info
indicated_slices (told.UAbort d pdu) = Slices.of_pdu pdu
indicated_slices (told.PAbort d why) = Slices.none
indicated_slices (told.Invoked d id linked code parameter) = Slices.of_component (component.Invoke id linked code parameter)
indicated_slices (told.ResultMore d number id body) = Slices.of_component (component.ResultMore id body)
indicated_slices (told.LocalReject d id problem) = Slices.none
indicated_slices (told.RemoteReject d id problem by) = Slices.none
indicated_slices (told.ResultLast d number id body) = Slices.of_component (component.ResultLast id body)
indicated_slices (told.ErrorBack d number id code parameter) = Slices.of_component (component.ErrorBack id code parameter)
indicated_slices (told.Rejected d number id problem by) = Slices.none
indicated_slices (told.Lapsed d number id) = Slices.none
indicated_slices (told.Ended d number id) = Slices.none
indicated_slices (told.Dropped why) = Slices.none

-- How many octets an optional slice has (own).
abbrev pub optional_octets : Option Slice → ℕ
optional_octets None = 0
optional_octets (Some octets) = length octets.now

-- How many octets a code has apart from its number (own).
abbrev pub code_octets : Code → ℕ
code_octets (code.Local number) = 0
code_octets (code.Global octets) = length octets.now

-- How many octets the body of a result names (own).
abbrev pub body_octets : Option Body → ℕ
body_octets None = 0
body_octets (Some body) = code_octets body.code + optional_octets body.parameter

-- How many octets a component names: those of its slices (own).
abbrev pub component_octets : Component → ℕ
component_octets (component.Invoke id linked code parameter) = code_octets code + optional_octets parameter
component_octets (component.ResultLast id body) = body_octets body
component_octets (component.ResultMore id body) = body_octets body
component_octets (component.ErrorBack id code parameter) = code_octets code + optional_octets parameter
component_octets (component.RejectBack id problem) = 0

-- How many octets an item names; a fault names none (own).
abbrev pub item_octets : Result Component ComponentFault → ℕ
item_octets (Ok c) = component_octets c
item_octets (Err f) = 0

-- How many octets a dialogue PDU names (own).
abbrev pub pdu_octets : Option DialoguePdu → ℕ
pdu_octets None = 0
pdu_octets (Some (pdu.Aarq version1 context info)) = length context.now + length info.now
pdu_octets (Some (pdu.Audt version1 context info)) = length context.now + length info.now
pdu_octets (Some (pdu.Aare version1 context accepted diagnostic info)) = length context.now + length info.now
pdu_octets (Some (pdu.Abrt by_provider info)) = length info.now
pdu_octets (Some (pdu.Foreign external)) = length external.now

-- How many octets an indication names: those of its slices (own).
abbrev pub indicated_octets : Indication → ℕ
indicated_octets (told.Uni context info) = optional_octets context + length info.now
indicated_octets (told.Begin d context info) = optional_octets context + length info.now
indicated_octets (told.Continue d context info) = optional_octets context + length info.now
indicated_octets (told.End d context info) = optional_octets context + length info.now
indicated_octets (told.UAbort d pdu) = pdu_octets pdu
indicated_octets (told.PAbort d why) = 0
indicated_octets (told.Invoked d id linked code parameter) = code_octets code + optional_octets parameter
indicated_octets (told.ResultMore d number id body) = body_octets body
indicated_octets (told.LocalReject d id problem) = 0
indicated_octets (told.RemoteReject d id problem by) = 0
indicated_octets (told.ResultLast d number id body) = body_octets body
indicated_octets (told.ErrorBack d number id code parameter) = code_octets code + optional_octets parameter
indicated_octets (told.Rejected d number id problem by) = 0
indicated_octets (told.Lapsed d number id) = 0
indicated_octets (told.Ended d number id) = 0
indicated_octets (told.Dropped why) = 0
