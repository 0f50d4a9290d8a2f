-- Which dialogue a reply creates: none, or the next one, which then stands.
use Rattle.std.proofs.Common.{◌≡◌, ℕ, ◌⊎◌, false, List, [], ◌∷◌, ◌++◌, is_some, Option, Some, None, refl, ap, inl, inr}
use Rattle.std.proofs.lemmas.Bool.{true≢false}
use Rattle.tcap_pdu.specs.FrameReading.{frame_at}
use Rattle.tcap_pdu.specs.FrameSpelling.{Message}
use Rattle.tcap_component.specs.ComponentReading.{components_of}
use Rattle.tcap_model.specs.Procedures.AbortRules.{abort_told, sent_if_any}
use Rattle.tcap_model.specs.Histories.Birth.{dialogue_begun, first_begun, born_of, next_dialogue}
use Rattle.tcap_model.specs.Procedures.ComponentHandling.{told_of, uni_told}
use Rattle.tcap_model.specs.Replies.Due.{birth_due}
use Rattle.tcap_model.specs.Words.Event.{Event}
use Rattle.tcap_model.specs.Words.Fault.{Fault}
use Rattle.tcap_model.specs.Histories.History.{History}
use Rattle.tcap_model.specs.Histories.Life.{Life, life, live_in, begin_context, begun_life, born_life}
use Rattle.tcap_model.specs.Words.Output.{Output, AbortCause, DialogueIndication}
use Rattle.tcap_model.specs.Histories.Pair.{Past}
use Rattle.tcap_model.specs.Procedures.PortionRules.{PortionVerdict, portion_verdict, begin_verdict}
use Rattle.tcap_model.specs.Replies.Queue.{handled_in}
use Rattle.tcap_model.specs.Procedures.Reception.{Reception, reception}
use Rattle.tcap_model.specs.Replies.Reply.{reply, birth_answer, continue_outputs, end_outputs, message_outputs, taken_outputs, reception_outputs, ended_in}
use Rattle.tcap_model.specs.Words.State.{State}
use Rattle.tcap_laws.proofs.Receptions.SoundReceptions.{IsSound, reception-sound}
use Rattle.tcap_laws.proofs.Receptions.ToldOutputKinds.{IsTold, AreTold, components-told, uni-told, ended-told, abort-told}
use Rattle.tcap_laws.proofs.ListLemmas.{each-append}
use Rattle.tcap_model.specs.Words.Address.{Address}

-- ---- outputs without a TC-BEGIN indication

begun-told : (output : Output) → IsTold output → dialogue_begun output ≡ None
begun-told (Output.send to bytes) told = absurd told
begun-told (Output.dialogue (DialogueIndication.uni context info)) told = refl
begun-told (Output.dialogue (DialogueIndication.begin dialogue context info)) told = absurd told
begun-told (Output.dialogue (DialogueIndication.go_on dialogue context info)) told = refl
begun-told (Output.dialogue (DialogueIndication.end dialogue context info)) told = refl
begun-told (Output.dialogue (DialogueIndication.u_abort dialogue pdu)) told = refl
begun-told (Output.dialogue (DialogueIndication.p_abort dialogue why)) told = refl
begun-told (Output.component indication) told = refl
begun-told (Output.dropped why) told = refl

pub none-begun : (output : Output) (outputs : List Output) → dialogue_begun output ≡ None → first_begun outputs ≡ None
    → first_begun (output ∷ outputs) ≡ None
none-begun output outputs first others = rw (first, others) refl

pub told-begun : (outputs : List Output) → AreTold outputs → first_begun outputs ≡ None
told-begun [] told = refl
told-begun (output ∷ outputs) told = none-begun output outputs (begun-told output told.0) (told-begun outputs told.1)

pub sent_first-begun : (to : Address) (aborting : Option Message) (outputs : List Output) → first_begun outputs ≡ None
    → first_begun (sent_if_any to aborting ++ outputs) ≡ None
sent_first-begun to None outputs others = others
sent_first-begun to (Some aborting) outputs others = others

-- ---- messages to a dialogue

continue-begun : (dialogue : ℕ) (past : Past) (state : State) (from : Address) (origin components : List ℕ)
    (verdict : PortionVerdict)
    → first_begun (continue_outputs dialogue past state from origin components verdict) ≡ None
continue-begun dialogue past state from origin components (PortionVerdict.normal context info) =
    told-begun (told_of (handled_in dialogue past components)) (components-told dialogue past components)
continue-begun dialogue past state from origin components PortionVerdict.abnormal =
    told-begun (ended_in dialogue past []) (ended-told dialogue past [])

end-begun : (dialogue : ℕ) (past : Past) (components : List ℕ) (verdict : PortionVerdict)
    → first_begun (end_outputs dialogue past components verdict) ≡ None
end-begun dialogue past components (PortionVerdict.normal context info) =
    let told = told_of (handled_in dialogue past components) in
    let ended = ended_in dialogue past (components_of components) in
    told-begun (told ++ ended) (each-append IsTold told ended (components-told dialogue past components)
    (ended-told dialogue past (components_of components)))
end-begun dialogue past components PortionVerdict.abnormal =
    told-begun (ended_in dialogue past []) (ended-told dialogue past [])

message-begun : (dialogue : ℕ) (past : Past) (state : State) (context : Option (List ℕ)) (from : Address)
    (message : Message)
    → first_begun (message_outputs dialogue past state context from message) ≡ None
message-begun dialogue past state context from (Message.go_on origin to portion components) =
    continue-begun dialogue past state from origin components (portion_verdict state context portion)
message-begun dialogue past state context from (Message.end to portion components) =
    end-begun dialogue past components (portion_verdict state context portion)
message-begun dialogue past state context from (Message.abort to reason) =
    told-begun (abort_told dialogue reason ∷ ended_in dialogue past [])
    (abort-told dialogue reason, ended-told dialogue past [])
message-begun dialogue past state context from (Message.unidirectional portion components) = refl
message-begun dialogue past state context from (Message.begin origin portion components) = refl

pub taken-begun : (dialogue : ℕ) (past : Past) (before : Life) (from : Address) (message : Message)
    → first_begun (taken_outputs dialogue past before from message) ≡ None
taken-begun dialogue past Life.unborn from message = refl
taken-begun dialogue past (Life.standing state context) from message =
    message-begun dialogue past state context from message
taken-begun dialogue past Life.over from message = refl

-- ---- births

-- a dialogue that may be created, is the next one, and stands by this life
pub record IsBirth (next : ℕ) (due : Option Fault) (born : Option ℕ) (made : Life) : Type 0 where
  pub is_next : born ≡ Some next
  pub is_due : due ≡ None
  pub state : State
  pub context : Option (List ℕ)
  pub is_life : made ≡ Life.standing state context

-- no birth, or that
abbrev pub IsBornNext : ℕ → Option Fault → Option ℕ → Life → Type 0
IsBornNext next due born made = (born ≡ None) ⊎ IsBirth next due born made

no_fault : (fault : Option Fault) → is_some fault ≡ false → fault ≡ None
no_fault None e = refl
no_fault (Some f) e = absurd (true≢false e)

reception-born : (h : History) (from : Address) (bytes : List ℕ) (r : Reception) →
    IsSound (is_some (birth_due h)) bytes r
    → IsBornNext (next_dialogue h) (birth_due h) (first_begun (reception_outputs h from r))
    (begun_life (frame_at bytes))
reception-born h from bytes (Reception.dropped why) sound = inl refl
reception-born h from bytes (Reception.aborted aborting) sound = inl refl
reception-born h from bytes (Reception.unidirectional context info components) sound =
    inl (told-begun (uni_told (components_of components)) (uni-told (components_of components)))
reception-born h from bytes (Reception.begun origin context info components) sound =
    inr (record {
      is_next = refl;
      is_due = no_fault (birth_due h) sound.3;
      state = State.received origin;
      context =
          begin_context (begin_verdict sound.0);
      is_life = ap begun_life sound.1;
    })
reception-born h from bytes (Reception.taken dialogue message) sound =
    inl (taken-begun dialogue h.pairs (life dialogue h.pairs) from message)
reception-born h from bytes (Reception.broken dialogue aborting cause) sound =
    inl (sent_first-begun from aborting (Output.dialogue (DialogueIndication.p_abort dialogue (AbortCause.cause cause))
    ∷ ended_in dialogue h.pairs []) (told-begun (ended_in dialogue h.pairs [])
    (ended-told dialogue h.pairs [])))

asked-born : (h : History) (fault : Option Fault)
    → IsBornNext (next_dialogue h) fault (born_of Event.new_dialogue (birth_answer h fault))
    (born_life Event.new_dialogue)
asked-born h (Some f) = inl refl
asked-born h None = inr (record { is_next = refl; is_due = refl; state = State.fresh; context = None; is_life = refl })

pub reply-born : (h : History) (event : Event)
    → IsBornNext (next_dialogue h) (birth_due h) (born_of event (reply h event)) (born_life event)
reply-born h Event.new_dialogue = asked-born h (birth_due h)
reply-born h (Event.on_dialogue dialogue request) = inl refl
reply-born h (Event.received from bytes) =
    let live = λ (dialogue : ℕ). live_in (life dialogue h.pairs) in
    reception-born h from bytes (reception live (is_some (birth_due h)) bytes)
    (reception-sound live (is_some (birth_due h)) bytes)
reply-born h (Event.moment now) = inl refl
