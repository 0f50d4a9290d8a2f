-- Outputs as a contract sees them.
use Rattle.std.specs.Prelude.{option_copied, List, map}
use Rattle.std.specs.Option.{option_map}
use Rattle.tcap_component.specs.Views.{code_parts, body_parts, problem_parts}
use Rattle.tcap_pdu.specs.DialogueViews.{pdu_value}
use Rattle.tcap_model.specs.Words.Output as model
use Rattle.tcap_model.specs.Words.Output.{AbortCause, Rejector, DropCause, Closing, ComponentIndication, DialogueIndication}
use Rattle.tcap_primitives.specs.declared.output.Why.{Why}
use Rattle.tcap_primitives.specs.declared.output.Why.TheVariants as why
use Rattle.tcap_primitives.specs.declared.output.By.{By}
use Rattle.tcap_primitives.specs.declared.output.By.TheVariants as by
use Rattle.tcap_primitives.specs.declared.output.DropWhy.{DropWhy}
use Rattle.tcap_primitives.specs.declared.output.DropWhy.TheVariants as drop
use Rattle.tcap_primitives.specs.declared.output.Output.{Output}
use Rattle.tcap_primitives.specs.declared.output.Output.TheVariants as output

-- Why the provider aborted (own).
abbrev pub cause_view : Why → AbortCause
cause_view (why.Cause number) = AbortCause.cause number
cause_view why.Abnormal = AbortCause.abnormal
cause_view why.NoCommon = AbortCause.no_common
cause_view why.Idle = AbortCause.idle

-- Who rejects (own).
abbrev pub rejector : By → Rejector
rejector by.Local = Rejector.local
rejector by.RemoteProvider = Rejector.remote_provider
rejector by.RemoteUser = Rejector.remote_user

-- Why a message is dropped (own).
abbrev pub drop_view : DropWhy → DropCause
drop_view drop.TooLong = DropCause.too_long
drop_view drop.BadMessage = DropCause.bad_message
drop_view drop.NoDialogue = DropCause.no_dialogue
drop_view drop.BadDialogue = DropCause.bad_dialogue

module _ {A : Type 0} where
  -- An output, by what its slices hold (own).
  abbrev pub shown : Output A → model.Output
  shown (output.Send to bytes) = model.Output.send to bytes.items
  shown (output.Uni context info) = model.Output.dialogue (DialogueIndication.uni (option_copied context) info.now)
  shown (output.Begin d context info) = model.Output.dialogue (DialogueIndication.begin d (option_copied context) info.now)
  shown (output.Continue d context info) = model.Output.dialogue (DialogueIndication.go_on d (option_copied context) info.now)
  shown (output.End d context info) = model.Output.dialogue (DialogueIndication.end d (option_copied context) info.now)
  shown (output.UAbort d pdu) = model.Output.dialogue (DialogueIndication.u_abort d (option_map pdu_value pdu))
  shown (output.PAbort d why) = model.Output.dialogue (DialogueIndication.p_abort d (cause_view why))
  shown (output.Invoked d id linked code parameter) = model.Output.component (ComponentIndication.invoked d id linked (code_parts code) (option_copied parameter))
  shown (output.ResultMore d number id body) = model.Output.component (ComponentIndication.result_more d number id (option_map body_parts body))
  shown (output.LocalReject d id problem) = model.Output.component (ComponentIndication.local_reject d id (problem_parts problem))
  shown (output.RemoteReject d id problem by) = model.Output.component (ComponentIndication.remote_reject d id (problem_parts problem) (rejector by))
  shown (output.ResultLast d number id body) = model.Output.component (ComponentIndication.closed d number id (Closing.result_last (option_map body_parts body)))
  shown (output.ErrorBack d number id code parameter) = model.Output.component (ComponentIndication.closed d number id (Closing.error_back (code_parts code) (option_copied parameter)))
  shown (output.Rejected d number id problem by) = model.Output.component (ComponentIndication.closed d number id (Closing.rejected (problem_parts problem) (rejector by)))
  shown (output.Lapsed d number id) = model.Output.component (ComponentIndication.closed d number id Closing.lapsed)
  shown (output.Ended d number id) = model.Output.component (ComponentIndication.closed d number id Closing.ended)
  shown (output.Dropped why) = model.Output.dropped (drop_view why)

  -- Outputs, by what their slices hold (own).
  abbrev pub all_shown : List (Output A) → List model.Output
  all_shown outputs = map shown outputs
