-- What is answered to received bytes, by the dialogue that they reach; it is never nothing.
use Rattle.std.proofs.Common.{◌≡◌, ℕ, true, Bool, List, [], ◌∷◌, ◌++◌, is_some, Option, Some, None, Ok, refl, sym, ap, ◌∙◌}
use Rattle.std.proofs.lemmas.Bool.{true≢false}
use Rattle.tcap_pdu.specs.declared.fault.FrameFault.{FrameFault}
use Rattle.tcap_pdu.specs.FrameFaults.{IsFrameFault}
use Rattle.tcap_pdu.specs.FrameReading.{frame_at}
use Rattle.tcap_pdu.specs.FrameSpelling.{Message, SpellsFrame}
use Rattle.tcap_pdu.specs.Front.{Front}
use Rattle.tcap_pdu.proofs.CallerLemmas.{frame_again, frame_told, front_again}
use Rattle.tcap_model.specs.Procedures.AbortRules.{fault_cause, sent_if_any}
use Rattle.tcap_model.specs.Words.Address.{Address}
use Rattle.tcap_model.specs.Words.Answer.{Answer}
use Rattle.tcap_model.specs.Replies.Due.{birth_due}
use Rattle.tcap_model.specs.Words.Event.{Event}
use Rattle.tcap_model.specs.Histories.History.{History}
use Rattle.tcap_model.specs.Histories.Life.{Life, life, live_in}
use Rattle.tcap_model.specs.Words.Output.{Output, AbortCause, DialogueIndication}
use Rattle.tcap_model.specs.Histories.Pair.{Past}
use Rattle.tcap_model.specs.Procedures.PortionRules.{PortionVerdict, portion_verdict}
use Rattle.tcap_model.specs.Procedures.Reception.{Reception, reception}
use Rattle.tcap_model.specs.Statements.FaultAnswer.{fault_answer}
use Rattle.tcap_model.specs.Replies.Reply.{reply, continue_outputs, end_outputs, message_outputs, taken_outputs, reception_outputs, ended_in}
use Rattle.tcap_model.specs.Words.State.{State}
use Rattle.tcap_laws.proofs.Receptions.BytesNames.{names_in}
use Rattle.tcap_laws.proofs.Receptions.NamedReceptions.{named-taken, named-broken, IsNamed, reception-named}
use Rattle.tcap_laws.proofs.Receptions.ReceivedMarks.{unaddressed}

abbrev live_at : History → ℕ → Bool
live_at h dialogue = live_in (life dialogue h.pairs)

abbrev outputs_by : History → Address → Reception → Answer
outputs_by h from r = Answer.outputs (reception_outputs h from r)

-- ---- bytes that name a live dialogue

module _ (h : History) (dialogue : ℕ) (from : Address) (bytes : List ℕ) (named : names_in bytes dialogue ≡ true)
    (lives : live_in (life dialogue h.pairs) ≡ true) where
  pub taken-reply : (m : Message) → SpellsFrame m bytes
      → reply h (Event.received from bytes) ≡ Answer.outputs
      (taken_outputs dialogue h.pairs (life dialogue h.pairs) from m)
  taken-reply m spelled =
      ap (outputs_by h from) (named-taken (live_at h) (is_some (birth_due h)) dialogue bytes named lives m
      (frame_again m bytes spelled))

  pub broken-reply : (f : FrameFault) (origin destination : Option (List ℕ)) → IsFrameFault bytes f
      → Front bytes origin destination →
      reply h (Event.received from bytes) ≡ Answer.outputs
      (sent_if_any from (fault_answer bytes f origin)
      ++ Output.dialogue (DialogueIndication.p_abort dialogue (AbortCause.cause (fault_cause f)))
      ∷ ended_in dialogue h.pairs [])
  broken-reply f origin destination is front =
      let at_front = ap (λ (p : Option (List ℕ) × Option (List ℕ)). p.0) (front_again bytes origin destination front) in
      ap (outputs_by h from)
      (named-broken (live_at h) (is_some (birth_due h)) dialogue bytes named lives f (frame_told bytes f is)
      ∙ ap (λ (o : Option (List ℕ)). Reception.broken dialogue (fault_answer bytes f o) (fault_cause f)) at_front)

-- ---- never nothing

abbrev IsSomething : List Output → Type 0
IsSomething outputs = (first : Output) × (others : List Output) × (outputs ≡ first ∷ others)

continue-some : (dialogue : ℕ) (past : Past) (state : State) (from : Address) (origin components : List ℕ)
    (verdict : PortionVerdict)
    → IsSomething (continue_outputs dialogue past state from origin components verdict)
continue-some dialogue past state from origin components (PortionVerdict.normal context info) = (_, _, refl)
continue-some dialogue past state from origin components PortionVerdict.abnormal = (_, _, refl)

end-some : (dialogue : ℕ) (past : Past) (components : List ℕ) (verdict : PortionVerdict)
    → IsSomething (end_outputs dialogue past components verdict)
end-some dialogue past components (PortionVerdict.normal context info) = (_, _, refl)
end-some dialogue past components PortionVerdict.abnormal = (_, _, refl)

message-some : (dialogue : ℕ) (past : Past) (state : State) (context : Option (List ℕ)) (from : Address)
    (bytes : List ℕ) (m : Message)
    → names_in bytes dialogue ≡ true → frame_at bytes ≡ Ok m
    → IsSomething (message_outputs dialogue past state context from m)
message-some dialogue past state context from bytes (Message.go_on origin to portion components) named e =
    continue-some dialogue past state from origin components (portion_verdict state context portion)
message-some dialogue past state context from bytes (Message.end to portion components) named e =
    end-some dialogue past components (portion_verdict state context portion)
message-some dialogue past state context from bytes (Message.abort to reason) named e = (_, _, refl)
message-some dialogue past state context from bytes (Message.unidirectional portion components) named e =
    absurd (unaddressed dialogue bytes named (Message.unidirectional portion components) e refl)
message-some dialogue past state context from bytes (Message.begin origin portion components) named e =
    absurd (unaddressed dialogue bytes named (Message.begin origin portion components) e refl)

taken-some : (dialogue : ℕ) (past : Past) (before : Life) (from : Address) (bytes : List ℕ) (m : Message) →
    live_in before ≡ true
    → names_in bytes dialogue ≡ true → frame_at bytes ≡ Ok m
    → IsSomething (taken_outputs dialogue past before from m)
taken-some dialogue past Life.unborn from bytes m lives named e = absurd (true≢false (sym lives))
taken-some dialogue past (Life.standing state context) from bytes m lives named e =
    message-some dialogue past state context from bytes m named e
taken-some dialogue past Life.over from bytes m lives named e = absurd (true≢false (sym lives))

broken-some : (from : Address) (aborting : Option Message) (first : Output) (others : List Output)
    → IsSomething (sent_if_any from aborting ++ first ∷ others)
broken-some from None first others = (_, _, refl)
broken-some from (Some aborting) first others = (_, _, refl)

reception-some : (h : History) (from : Address) (bytes : List ℕ) (r : Reception) → IsNamed (live_at h) bytes r
    → IsSomething (reception_outputs h from r)
reception-some h from bytes (Reception.dropped why) is = (_, _, refl)
reception-some h from bytes (Reception.aborted aborting) is = (_, _, refl)
reception-some h from bytes (Reception.unidirectional context info components) is = (_, _, refl)
reception-some h from bytes (Reception.begun origin context info components) is = (_, _, refl)
reception-some h from bytes (Reception.taken dialogue m) is =
    taken-some dialogue h.pairs (life dialogue h.pairs) from bytes m is.1 is.0 is.2
reception-some h from bytes (Reception.broken dialogue aborting cause) is =
    broken-some from aborting (Output.dialogue (DialogueIndication.p_abort dialogue (AbortCause.cause cause)))
    (ended_in dialogue h.pairs [])

pub some-reply : (h : History) (from : Address) (bytes : List ℕ)
    → (first : Output) × (others : List Output)
    × (reply h (Event.received from bytes) ≡ Answer.outputs (first ∷ others))
some-reply h from bytes =
    let r = reception (live_at h) (is_some (birth_due h)) bytes in
    let some = reception-some h from bytes r (reception-named (live_at h) (is_some (birth_due h)) bytes) in
    (some.0, some.1, ap (λ (outputs : List Output). Answer.outputs outputs) some.2)
