-- The statements about components that are sent, on worked histories: the premises, and the conclusions.
use Rattle.std.proofs.Common.{pos, negsuc, [], ◌∷◌, Some, None, refl, inl, inr}
use Rattle.std.specs.Prelude.{drop, take}
use Rattle.tcap_pdu.specs.FrameSpelling.{SpellsFrame}
use Rattle.tcap_pdu.proofs.CallerLemmas.{frame_takes}
use Rattle.tcap_component.specs.Component.{ComponentParts}
use Rattle.tcap_component.specs.ComponentList.{FirstFault}
use Rattle.tcap_invocation.specs.declared.class.Class.TheVariants.{One}
use Rattle.tcap_examples.proofs.ComponentPremises.{first_fault_at, sent_from}
use Rattle.tcap_model.specs.Words.Answer.{Answer}
use Rattle.tcap_model.specs.Statements.SentFrom.{WasRequested, WasFormed, SentFromOne, SentFrom}
use Rattle.tcap_model.specs.Statements.ComponentPortion.{portion_of}
use Rattle.tcap_examples.specs.Computing.{computing}
use Rattle.tcap_examples.specs.Values.DialogueValues.{result_of_first, general, of_result, code}
use Rattle.tcap_model.specs.Words.Output.{Output, ComponentIndication}
use Rattle.tcap_model.specs.Statements.Places.{StandsIn, Tells}
use Rattle.tcap_model.specs.Words.Request.{Request, ComponentRequest}
use Rattle.tcap_examples.specs.Statements.ComponentExamples.{past, begin_sent, begin_pair, begin_message, two_invokes, before_the_begin, reject_continue, reject_pair, reject_message, reject, before_the_reject, late, first_message, first_invoke, late_message, late_reject, result_received, result_told, result_pair, before_the_result}
use Rattle.tcap_examples.specs.Values.HistoryWords.{dialogue_born, invoke_pair, received_pair, begin_request, continue_request, continued}
use Rattle.tcap_examples.specs.Values.Peer.{peer_address, sent}

-- ---- the Begin that is sent

pub begin-stands : StandsIn begin_pair before_the_begin past
begin-stands = record { later = take 2 past; is_past = refl }

pub begin-tells : Tells begin_pair.answer (sent begin_sent)
begin-tells = record { earlier = []; later = []; is_answer = refl }

pub begin-spelled : SpellsFrame begin_message begin_sent
unfolding computing
begin-spelled = frame_takes begin_sent begin_message refl

pub begin-first : FirstFault two_invokes None (portion_of begin_message)
unfolding computing
begin-first = first_fault_at (portion_of begin_message) two_invokes None refl

first-requested : WasRequested 1 (ComponentParts.invoke (negsuc 127) None (code 10) None) before_the_begin
first-requested = record {
  pair = invoke_pair 1 (negsuc 127) One (pos 10) 1000 (Answer.number 1);
  before = dialogue_born 1 ∷ [];
  request = Request.component (ComponentRequest.invoke (negsuc 127) One (code 10) None None 1000);
  stands = record { later = take 1 before_the_begin; is_past = refl };
  is_event = refl;
  accepted = refl;
  is_component = refl;
}

second-requested : WasRequested 1 (ComponentParts.invoke (pos 127) None (code 10) None) before_the_begin
second-requested = record {
  pair = invoke_pair 1 (pos 127) One (pos 10) 1000 (Answer.number 2);
  before = drop 1 before_the_begin;
  request = Request.component (ComponentRequest.invoke (pos 127) One (code 10) None None 1000);
  stands = record { later = []; is_past = refl };
  is_event = refl;
  accepted = refl;
  is_component = refl;
}

pub begin-sent-from : SentFromOne begin_pair.event before_the_begin two_invokes None
begin-sent-from = record {
  dialogue = 1;
  request = begin_request;
  is_event = refl;
  each =
      (inl first-requested, (inl second-requested, tt));
  no_fault = refl;
}

-- ---- the Reject that is sent

pub reject-stands : StandsIn reject_pair before_the_reject past
reject-stands = record { later = []; is_past = refl }

pub reject-tells : Tells reject_pair.answer (sent reject_continue)
reject-tells = record { earlier = []; later = []; is_answer = refl }

pub reject-spelled : SpellsFrame reject_message reject_continue
unfolding computing
reject-spelled = frame_takes reject_continue reject_message refl

pub reject-first : FirstFault reject None (portion_of reject_message)
unfolding computing
reject-first = first_fault_at (portion_of reject_message) reject None refl

pub formed : WasFormed 1 (ComponentParts.reject_back (Some (pos 7)) (general 0)) before_the_reject
formed = record {
  pair = result_pair;
  before = before_the_result;
  from = peer_address;
  bytes = result_received;
  id = Some (pos 7);
  problem = general 0;
  output = Output.component (ComponentIndication.local_reject (Some 1) (Some (pos 7)) (general 0));
  stands = record { later = []; is_past = refl };
  is_event = refl;
  is_component = refl;
  tells = record { earlier = continued 1 ∷ result_told ∷ []; later = []; is_answer = refl };
  is_told = inl refl;
}

pub reject-sent-from : SentFromOne reject_pair.event before_the_reject reject None
reject-sent-from = record {
  dialogue = 1;
  request = continue_request;
  is_event = refl;
  each =
      (inr formed, tt);
  no_fault = refl;
}

pub past-sent-from : SentFrom past
unfolding computing
past-sent-from = sent_from past (
  ((reject_message, reject, None, refl, refl, inr reject-sent-from), tt),
  (
    (tt, (tt, (tt, tt))),
    (
      ((begin_message, two_invokes, None, refl, refl, inr begin-sent-from), tt),
      (tt, (tt, (tt, tt))),
    ),
  ),
)

-- ---- a late result

late-requested : WasRequested 1 first_invoke (drop 6 late)
late-requested = record {
  pair = invoke_pair 1 (pos 1) One (pos 10) 1000 (Answer.number 1);
  before = dialogue_born 1 ∷ [];
  request = Request.component (ComponentRequest.invoke (pos 1) One (code 10) None None 1000);
  stands = record { later = []; is_past = refl };
  is_event = refl;
  accepted = refl;
  is_component = refl;
}

late-formed : WasFormed 1 late_reject (drop 2 late)
late-formed = record {
  pair = received_pair result_of_first (continued 1
      ∷ Output.component (ComponentIndication.local_reject (Some 1) (Some (pos 1)) (of_result 0)) ∷ []);
  before = drop 3 late;
  from = peer_address;
  bytes = result_of_first;
  id = Some (pos 1);
  problem = of_result 0;
  output = Output.component (ComponentIndication.local_reject (Some 1) (Some (pos 1)) (of_result 0));
  stands = record { later = []; is_past = refl };
  is_event = refl;
  is_component = refl;
  tells = record { earlier = continued 1 ∷ []; later = []; is_answer = refl };
  is_told = inl refl;
}

pub late-sent-from : SentFrom late
unfolding computing
late-sent-from = sent_from late (
  tt,
  (
    (
      (
        late_message,
        late_reject ∷ [],
        None,
        refl,
        refl,
        inr (record {
          dialogue = 1;
          request = continue_request;
          is_event = refl;
          each =
              (inr late-formed, tt);
          no_fault = refl;
        }),
      ),
      tt,
    ),
    (
      (tt, (tt, tt)),
      (
        (tt, tt),
        (
          tt,
          (
            (
              (
                first_message,
                first_invoke ∷ [],
                None,
                refl,
                refl,
                inr (record {
                  dialogue = 1;
                  request = begin_request;
                  is_event = refl;
                  each =
                      (inl late-requested, tt);
                  no_fault = refl;
                }),
              ),
              tt,
            ),
            (tt, (tt, tt)),
          ),
        ),
      ),
    ),
  ),
)
