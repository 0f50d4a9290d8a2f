-- An output as numbers: what the struct of C holds of it.
use Rattle.std.specs.Prelude.{ℕ, ℤ, pos, ◌+◌, Bool, true, false, List, Option, Some, None}
use Rattle.tcap_component.specs.Component.{CodeParts, BodyParts}
use Rattle.tcap_component.specs.Problem.{ProblemParts}
use Rattle.tcap_component.specs.declared.problem.Kind.{Kind}
use Rattle.tcap_component.specs.declared.problem.Kind.TheVariants as problem
use Rattle.tcap_pdu.specs.DialogueSpelling.{Source, PduValue}
use Rattle.tcap_model.specs.Words.Output.{Output, AbortCause, Closing, ComponentIndication, DialogueIndication, DropCause}
use Rattle.tcap_c.specs.Kinds.{kind_number, rejected_kind, remote_kind, untold_closing}
use Rattle.tcap_c.specs.declared.output_kind.OutputKind.{OutputKind}
use Rattle.tcap_c.specs.declared.output_kind.OutputKind.TheVariants as kind
use Rattle.tcap_c.specs.declared.output_numbers.OutputNumbers.{OutputNumbers}
use Rattle.tcap_c.specs.declared.output_numbers.PartLengths.{PartLengths}
use Rattle.tcap_c.specs.declared.output_numbers.PartPlace.{PartPlace}

-- In place of an identifier: none (own).
abbrev pub no_id : ℤ
no_id = pos 256

-- No octets (own).
abbrev pub no_lengths : PartLengths
no_lengths = record { address = 0; message = 0; context = 0; info = 0; global = 0; parameter = 0 }

-- No part (own).
abbrev pub no_place : PartPlace
no_place = record { at = 0; len = 0 }

-- An output of this number, of which nothing else is said (own).
abbrev pub bare_numbers : ℕ → OutputNumbers
bare_numbers kind = record {
  event = 0;
  number = 0;
  address = no_place;
  message = no_place;
  context = no_place;
  info = no_place;
  code_kind = 0;
  local = pos 0;
  global = no_place;
  parameter = no_place;
  dialogue = 0;
  invoke_id = no_id;
  linked_id = no_id;
  problem = 0;
  cause = 0;
  diagnostic = 0;
  kind = kind;
  pdu = 0;
  closes = false;
  is_last = false;
  has_context = false;
  has_parameter = false;
  is_version1 = false;
  is_accepted = false;
  is_by_provider = false;
  has_dialogue = false;
}

-- An output of this kind, of which nothing else is said (own).
abbrev pub bare : OutputKind → OutputNumbers
bare kind = bare_numbers (kind_number kind)

-- Its parts have so many octets, and each stands behind the one before (own).
abbrev pub with_lengths : PartLengths → OutputNumbers → OutputNumbers
with_lengths l n =
    let context = l.address + l.message in
    let info = context + l.context in
    let global = info + l.info in
    record n {
      address = record { at = 0; len = l.address };
      message = record { at = l.address; len = l.message };
      context = record { at = context; len = l.context };
      info = record { at = info; len = l.info };
      global = record { at = global; len = l.global };
      parameter = record { at = global + l.global; len = l.parameter };
    }

-- ---- what is said of it besides

-- Whether there is one (own).
abbrev pub is_some : {T : Type 0} → Option T → Bool
is_some None = false
is_some (Some x) = true

-- It is of this dialogue (own).
abbrev pub of_dialogue : ℕ → OutputNumbers → OutputNumbers
of_dialogue dialogue n = record n { dialogue = dialogue; has_dialogue = true }

-- The identifier of a dialogue, or none (own).
abbrev pub dialogue_number : Option ℕ → ℕ
dialogue_number None = 0
dialogue_number (Some dialogue) = dialogue

-- It is of this dialogue, or of a Unidirectional, which has none (Q.771, Dialogue handling).
abbrev pub of_dialogue_if_any : Option ℕ → OutputNumbers → OutputNumbers
of_dialogue_if_any dialogue n = record n { dialogue = dialogue_number dialogue; has_dialogue = is_some dialogue }

-- It has an application context name, or none (Q.771, Dialogue handling).
abbrev pub with_context : Option (List ℕ) → OutputNumbers → OutputNumbers
with_context context n = record n { has_context = is_some context }

-- An identifier, or none (Q.773, Invoke ID; that none is 256 is own).
abbrev pub id_number : Option ℤ → ℤ
id_number None = no_id
id_number (Some id) = id

-- It has an invoke identifier, or none (Q.771, Component handling).
abbrev pub with_id : Option ℤ → OutputNumbers → OutputNumbers
with_id id n = record n { invoke_id = id_number id }

-- It has a linked identifier, or none (Q.771, Component handling).
abbrev pub with_linked : Option ℤ → OutputNumbers → OutputNumbers
with_linked linked n = record n { linked_id = id_number linked }

-- It is of this invocation (own).
abbrev pub of_invocation : ℕ → ℕ → ℤ → OutputNumbers → OutputNumbers
of_invocation dialogue number id n = with_id (Some id) (of_dialogue dialogue (record n { number = number }))

-- It closes this invocation (own).
abbrev pub closing_of : ℕ → ℕ → ℤ → OutputNumbers → OutputNumbers
closing_of dialogue number id n = of_invocation dialogue number id (record n { closes = true })

-- It has a code: 1 local, 2 global (Q.773, Operation Code; Q.773, Error Code; the numbers are own).
abbrev pub with_code : CodeParts → OutputNumbers → OutputNumbers
with_code (CodeParts.local number) n = record n { code_kind = 1; local = number }
with_code (CodeParts.global octets) n = record n { code_kind = 2 }

-- It has a parameter, or none (Q.773, Parameter).
abbrev pub with_parameter : Option (List ℕ) → OutputNumbers → OutputNumbers
with_parameter parameter n = record n { has_parameter = is_some parameter }

-- It has the body of a result, or none (Q.773, Return Result component).
abbrev pub with_body : Option BodyParts → OutputNumbers → OutputNumbers
with_body None n = n
with_body (Some body) n = with_parameter body.parameter (with_code body.code n)

-- The number of a problem: 256 times its kind, and its code (Q.773, Problem; the numbers of the kinds are own).
abbrev pub problem_number : ProblemParts → ℕ
problem_number p = number_of p.kind p.code
  where
    number_of : Kind → ℕ → ℕ
    number_of problem.General code = code
    number_of problem.Invoke code = 256 + code
    number_of problem.Result code = 512 + code
    number_of problem.Error code = 768 + code

-- It has a problem (Q.773, Problem).
abbrev pub with_problem : ProblemParts → OutputNumbers → OutputNumbers
with_problem p n = record n { problem = problem_number p }

-- The number of a cause: that of the message, or our own above 255 (Q.773, P-Abort cause; the others are own).
abbrev pub cause_number : AbortCause → ℕ
cause_number (AbortCause.cause number) = number
cause_number AbortCause.abnormal = 256
cause_number AbortCause.no_common = 257
cause_number AbortCause.idle = 258

-- It has a cause (own).
abbrev pub with_cause : ℕ → OutputNumbers → OutputNumbers
with_cause cause n = record n { cause = cause }

-- Why a message is dropped, as a number (own).
abbrev pub drop_number : DropCause → ℕ
drop_number DropCause.too_long = 0
drop_number DropCause.bad_message = 1
drop_number DropCause.no_dialogue = 2
drop_number DropCause.bad_dialogue = 3

-- A diagnostic: 256 more where the provider gives it (Q.773, Dialogue portion; that is own).
abbrev pub diagnostic_number : Source → ℕ
diagnostic_number (Source.user number) = number
diagnostic_number (Source.provider number) = 256 + number

-- It has a dialogue PDU, or none (Q.773, Dialogue portion; the numbers of the PDUs are own).
abbrev pub with_pdu : Option PduValue → OutputNumbers → OutputNumbers
with_pdu None n = n
with_pdu (Some (PduValue.aarq version1 context info)) n =
    record n { pdu = 1; is_version1 = version1; has_context = true }
with_pdu (Some (PduValue.audt version1 context info)) n =
    record n { pdu = 2; is_version1 = version1; has_context = true }
with_pdu (Some (PduValue.aare version1 context accepted diagnostic info)) n = record n {
  pdu = 3;
  is_version1 = version1;
  has_context = true;
  is_accepted = accepted;
  diagnostic = diagnostic_number diagnostic;
}
with_pdu (Some (PduValue.abrt by_provider info)) n = record n { pdu = 4; is_by_provider = by_provider }
with_pdu (Some (PduValue.foreign external)) n = record n { pdu = 5 }

-- ---- the outputs

-- An indication of dialogue handling (Q.771, Dialogue handling).
abbrev pub dialogue_numbers : DialogueIndication → OutputNumbers
dialogue_numbers (DialogueIndication.uni context info) = with_context context (bare kind.Uni)
dialogue_numbers (DialogueIndication.begin d context info) = with_context context (of_dialogue d (bare kind.Begin))
dialogue_numbers (DialogueIndication.go_on d context info) = with_context context (of_dialogue d (bare kind.Continue))
dialogue_numbers (DialogueIndication.end d context info) = with_context context (of_dialogue d (bare kind.End))
dialogue_numbers (DialogueIndication.u_abort d pdu) = with_pdu pdu (of_dialogue d (bare kind.UserAbort))
dialogue_numbers (DialogueIndication.p_abort d why) =
    with_cause (cause_number why) (of_dialogue d (bare kind.ProviderAbort))

-- The closing of an invocation (Q.771, Component handling; that of a dialogue that is over is own).
abbrev pub closing_numbers : ℕ → ℕ → ℤ → Closing → OutputNumbers
closing_numbers d number id (Closing.result_last body) = with_body body (closing_of d number id (bare kind.ResultLast))
closing_numbers d number id (Closing.error_back code parameter) =
    with_parameter parameter (with_code code (closing_of d number id (bare kind.Error)))
closing_numbers d number id (Closing.rejected problem by) =
    with_problem problem (closing_of d number id (bare (rejected_kind by)))
closing_numbers d number id Closing.lapsed = closing_of d number id (bare kind.Cancel)
closing_numbers d number id Closing.ended = closing_of d number id (bare kind.Closed)
closing_numbers d number id Closing.given_up = closing_of d number id (bare_numbers untold_closing)

-- An indication of component handling (Q.771, Component handling).
abbrev pub component_numbers : ComponentIndication → OutputNumbers
component_numbers (ComponentIndication.invoked d id linked code parameter) =
    with_parameter parameter (with_code code
    (with_linked linked (with_id (Some id) (of_dialogue_if_any d (bare kind.Invoke)))))
component_numbers (ComponentIndication.result_more d number id body) =
    with_body body (of_invocation d number id (bare kind.ResultNotLast))
component_numbers (ComponentIndication.local_reject d id problem) =
    with_problem problem (with_id id (of_dialogue_if_any d (bare kind.LocalReject)))
component_numbers (ComponentIndication.remote_reject d id problem by) =
    with_problem problem (with_id id (of_dialogue_if_any d (bare (remote_kind by))))
component_numbers (ComponentIndication.closed d number id closing) = closing_numbers d number id closing

-- An output as numbers, without its event and its parts (own).
abbrev pub numbers_of : Output → OutputNumbers
numbers_of (Output.send to bytes) = bare kind.Send
numbers_of (Output.dialogue told) = dialogue_numbers told
numbers_of (Output.component told) = component_numbers told
numbers_of (Output.dropped why) = with_cause (drop_number why) (bare kind.Dropped)
