-- The first output of an answer: which begin a dialogue, and which begin or continue it.
use Rattle.std.proofs.Common.{◌≡◌, ℕ, true, false, Bool, List, [], ◌∷◌, Some, None, Result, Ok, Err, if◌then◌else◌, refl}
use Rattle.tcap_pdu.specs.declared.fault.DialogueFault.{DialogueFault}
use Rattle.tcap_pdu.specs.DialogueReading.{dialogue_at}
use Rattle.tcap_pdu.specs.DialogueSpelling.{PduValue, Source}
use Rattle.tcap_pdu.specs.DialogueSpelling.PduValue.{aarq, audt, aare, abrt, foreign}
use Rattle.tcap_pdu.specs.FrameSpelling.{Reason}
use Rattle.tcap_model.specs.Procedures.AbortRules.{is_no_common, response_told, abort_pdu_told, portion_told, abort_told}
use Rattle.tcap_model.specs.Histories.Birth.{first_begun}
use Rattle.tcap_model.specs.Words.Output.{Output, AbortCause, ComponentIndication, DialogueIndication}
use Rattle.tcap_model.specs.Statements.Submitted.{begins_or_continues}
use Rattle.tcap_laws.proofs.Receptions.ToldOutputKinds.{IsTold, AreTold}

-- ---- what is told besides begins no dialogue

pub told-first : (output : Output) (outputs : List Output) → IsTold output → first_begun outputs ≡ None →
    first_begun (output ∷ outputs) ≡ None
told-first (Output.send to bytes) outputs told e = absurd told
told-first (Output.dialogue (DialogueIndication.uni context info)) outputs told e = e
told-first (Output.dialogue (DialogueIndication.begin dialogue context info)) outputs told e = absurd told
told-first (Output.dialogue (DialogueIndication.go_on dialogue context info)) outputs told e = e
told-first (Output.dialogue (DialogueIndication.end dialogue context info)) outputs told e = e
told-first (Output.dialogue (DialogueIndication.u_abort dialogue pdu)) outputs told e = e
told-first (Output.dialogue (DialogueIndication.p_abort dialogue why)) outputs told e = e
told-first (Output.component (ComponentIndication.invoked dialogue id linked code parameter)) outputs told e = e
told-first (Output.component (ComponentIndication.result_more dialogue number id body)) outputs told e = e
told-first (Output.component (ComponentIndication.local_reject dialogue id problem)) outputs told e = e
told-first (Output.component (ComponentIndication.remote_reject dialogue id problem by)) outputs told e = e
told-first (Output.component (ComponentIndication.closed dialogue number id closing)) outputs told e = e
told-first (Output.dropped why) outputs told e = e

pub no-begin_first : (outputs : List Output) → AreTold outputs → first_begun outputs ≡ None
no-begin_first [] told = refl
no-begin_first (output ∷ outputs) told = told-first output outputs told.0 (no-begin_first outputs told.1)

-- ---- a received Abort is told as no Begin and no Continue

module _ (d named : ℕ) where
  response-aborts : (version1 : Bool) (context : List ℕ) (accepted : Bool) (diagnostic : Source) (info : List ℕ) →
      begins_or_continues d (response_told named version1 context accepted diagnostic info) ≡ false
  response-aborts version1 context true diagnostic info = refl
  response-aborts version1 context false diagnostic info = chosen (is_no_common diagnostic)
    where
      chosen : (test : Bool) →
          begins_or_continues d (if test then Output.dialogue (DialogueIndication.p_abort named AbortCause.no_common)
          else Output.dialogue (DialogueIndication.u_abort named (Some (aare version1 context false diagnostic info))))
          ≡ false
      chosen true = refl
      chosen false = refl

  pdu-aborts : (by_provider : Bool) (info : List ℕ) →
      begins_or_continues d (abort_pdu_told named by_provider info) ≡ false
  pdu-aborts true info = refl
  pdu-aborts false info = refl

  portion-aborts : (read : Result PduValue DialogueFault) → begins_or_continues d (portion_told named read) ≡ false
  portion-aborts (Ok (abrt by_provider info)) = pdu-aborts by_provider info
  portion-aborts (Ok (foreign external)) = refl
  portion-aborts (Ok (aare version1 context accepted diagnostic info)) =
      response-aborts version1 context accepted diagnostic info
  portion-aborts (Ok (aarq version1 context info)) = refl
  portion-aborts (Ok (audt version1 context info)) = refl
  portion-aborts (Err f) = refl

  pub abort-aborts : (reason : Reason) → begins_or_continues d (abort_told named reason) ≡ false
  abort-aborts Reason.nothing = refl
  abort-aborts (Reason.cause n) = refl
  abort-aborts (Reason.portion content) = portion-aborts (dialogue_at content)
