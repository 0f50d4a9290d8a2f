-- The marks of received bytes are those of the message that the bytes spell.
use Rattle.std.proofs.Common.{◌≡◌, ℕ, ℤ, ◌≤◌, true, false, Bool, List, [], ◌∷◌, ◌++◌, length, nat_le, Option, Some, None, Result, Ok, Err, refl, sym, ap, ◌∙◌, inl, inr}
use Rattle.std.specs.Prelude.{unwrap_or}
use Rattle.std.proofs.lemmas.Bool.{le-leb, true≢false}
use Rattle.tcap_pdu.specs.declared.fault.FrameFault.{FrameFault}
use Rattle.tcap_pdu.specs.FrameReading.{frame_at}
use Rattle.tcap_pdu.specs.FrameSpelling.{Message, SpellsFrame}
use Rattle.tcap_pdu.specs.FrameWritten.{message_limit}
use Rattle.tcap_pdu.proofs.CallerLemmas.{frame_again, frame_told, frame_takes, frame_fails}
use Rattle.tcap_component.specs.Component.{ComponentParts}
use Rattle.tcap_component.specs.ComponentFault.{FaultParts}
use Rattle.tcap_component.specs.ComponentList.{FirstFault, items}
use Rattle.tcap_component.specs.ComponentReading.{components_of}
use Rattle.tcap_component.proofs.CallerLemmas.{first_fault_again, first_fault_is}
use Rattle.tcap_model.specs.Words.Answer.{Answer}
use Rattle.tcap_model.specs.Procedures.Destination.{destination, destination_by}
use Rattle.tcap_model.specs.Words.Event.{Event}
use Rattle.tcap_model.specs.Histories.Life.{Life, life_after, life_by_message, touched}
use Rattle.tcap_model.specs.Invocations.Marks.{Mark, marks_of_component, component_marks, end_if_over, if_normal, marks_of_message, marks}
use Rattle.tcap_model.specs.Histories.Names.{is_destined, named_within}
use Rattle.tcap_model.specs.Histories.Pair.{Pair, Past}
use Rattle.tcap_model.specs.Procedures.PortionRules.{portion_verdict}
use Rattle.tcap_model.specs.Statements.ReceivedMark.{Reaches, Means, noted_at, marks_of_components}
use Rattle.tcap_model.specs.Statements.NormalPortion.{IsNormal, IsAbnormal}
use Rattle.tcap_model.specs.Statements.ReceivedMark.Means.{continued, ended, continued_abnormally, ended_abnormally, aborted, faulty}
use Rattle.tcap_model.specs.Words.State.{State}
use Rattle.tcap_laws.proofs.Receptions.NamedBytes.{named-by_grammar}
use Rattle.tcap_laws.proofs.Receptions.NormalPortions.{normal-verdict, abnormal-verdict, normal-or-not}
use Rattle.tcap_laws.proofs.Receptions.BytesNames.{names_in}

-- ---- components

items-marks : (id : ℤ) (components : List ComponentParts) (fault : Option FaultParts)
    → component_marks id (items components fault) ≡ marks_of_components id components
items-marks id [] None = refl
items-marks id [] (Some f) = refl
items-marks id (c ∷ components) fault =
    ap (λ (others : List Mark). marks_of_component id c ++ others) (items-marks id components fault)

pub components-marks : (id : ℤ) (components : List ComponentParts) (fault : Option FaultParts) (content : List ℕ)
    → FirstFault components fault content → component_marks id (components_of content)
    ≡ marks_of_components id components
components-marks id components fault content first =
    ap (component_marks id) (first_fault_again components fault content first) ∙ items-marks id components fault

-- ---- the dialogue that bytes name

pub spelled-names : (dialogue : ℕ) (m : Message) (bytes : List ℕ) → SpellsFrame m bytes → length bytes ≤ message_limit
    → names_in bytes dialogue ≡ is_destined dialogue (destination m)
spelled-names dialogue m bytes spelled within =
    rw (le-leb (length bytes) message_limit within)
    (ap (λ (read : Result Message FrameFault). is_destined dialogue (destination_by bytes read))
    (frame_again m bytes spelled))

-- a message without destination names none
pub unaddressed : (dialogue : ℕ) (bytes : List ℕ) → names_in bytes dialogue ≡ true → (m : Message)
    → frame_at bytes ≡ Ok m → destination m ≡ None → ⊥
unaddressed dialogue bytes names_it m e none = by (nat_le (length bytes) message_limit) names_it
  where
    by : (within : Bool) → named_within within dialogue bytes ≡ true → ⊥
    by false named = true≢false (sym named)
    by true named = true≢false (sym named ∙ rw (e, none) refl)

-- ---- messages

module _ (dialogue : ℕ) (id : ℤ) (state : State) (context : Option (List ℕ)) (bytes : List ℕ) (pair : Pair)
    (past : Past) (reaches : Reaches dialogue state context bytes pair past) where
  named : names_in bytes dialogue ≡ true
  named = named-by_grammar dialogue bytes reaches.names_it

  -- the life after the bytes
  after-is : (answer : Answer) (idle_ms last : ℕ) (read : Result Message FrameFault) → frame_at bytes ≡ read
      → life_after dialogue last (Life.standing state context)
      (record { event = Event.received reaches.from bytes; answer = answer; idle_ms = idle_ms })
      ≡ life_by_message state context read
  after-is answer idle_ms last read e = rw (named, reaches.is_live, e) refl

  marks-read : (read : Result Message FrameFault) → frame_at bytes ≡ read
      → marks dialogue id pair past ≡ noted_at past
      (unwrap_or (marks_of_message id state context read)
      (end_if_over (Life.standing state context) (life_by_message state context read)))
  marks-read read e = rw (reaches.is_life, reaches.is_event, named, reaches.is_live, e)
      (ap (λ (after : Life). noted_at past (unwrap_or (marks_of_message id state context read)
      (end_if_over (Life.standing state context) after)))
      (after-is pair.answer pair.idle_ms (touched dialogue past) read e))

  -- by the message
  read-normal : (portion : Option (List ℕ)) (made other : List Mark) → IsNormal state context portion
      → unwrap_or (if_normal (portion_verdict state context portion) made) other ≡ made
  read-normal portion made other normal = rw (normal-verdict state context portion normal).2 refl

  pub means-marks : (made : List Mark) → Means state context id bytes made
      → marks dialogue id pair past ≡ noted_at past made
  means-marks _ (continued origin to portion content components fault spelled normal first) =
      marks-read (Ok (Message.go_on origin to portion content))
      (frame_again (Message.go_on origin to portion content) bytes spelled)
      ∙ ap (noted_at past) (read-normal portion _ _ normal ∙ components-marks id components fault content first)
  means-marks _ (ended to portion content components fault spelled normal first) =
      marks-read (Ok (Message.end to portion content)) (frame_again (Message.end to portion content) bytes spelled)
      ∙ ap (noted_at past) (read-normal portion _ _ normal
      ∙ ap (λ (made : List Mark). made ++ Mark.end ∷ []) (components-marks id components fault content first))
  means-marks _ (continued_abnormally origin to portion content spelled abnormal) =
      marks-read (Ok (Message.go_on origin to portion content))
      (frame_again (Message.go_on origin to portion content) bytes spelled)
      ∙ rw (abnormal-verdict state context portion abnormal) refl
  means-marks _ (ended_abnormally to portion content spelled abnormal) =
      marks-read (Ok (Message.end to portion content)) (frame_again (Message.end to portion content) bytes spelled)
      ∙ rw (abnormal-verdict state context portion abnormal) refl
  means-marks _ (aborted to reason spelled) =
      marks-read (Ok (Message.abort to reason)) (frame_again (Message.abort to reason) bytes spelled)
  means-marks _ (faulty fault is) = marks-read (Err fault) (frame_told bytes fault is)

  -- ---- bytes that reach a dialogue mean something

  by-portion : {X : Type 0} → (portion : Option (List ℕ)) → (IsNormal state context portion → X)
      → (IsAbnormal state context portion → X) → X
  by-portion portion normal abnormal =
      elim (normal-or-not state context portion reaches.is_live) [ inl is ↦ normal is | inr not ↦ abnormal not ]

  pub reached-means : (read : Result Message FrameFault) → frame_at bytes ≡ read
      → (made : List Mark) × Means state context id bytes made
  reached-means (Ok (Message.go_on origin to portion content)) e =
      let spelled = frame_takes bytes (Message.go_on origin to portion content) e in
      let first = first_fault_is content in
      by-portion portion
      (λ normal. (
        marks_of_components id first.0,
        continued origin to portion content first.0 first.1 spelled normal
            first.2,
      ))
      (λ abnormal. (Mark.end ∷ [], continued_abnormally origin to portion content spelled abnormal))
  reached-means (Ok (Message.end to portion content)) e =
      let spelled = frame_takes bytes (Message.end to portion content) e in
      let first = first_fault_is content in
      by-portion portion
      (λ normal. (
        marks_of_components id first.0 ++ Mark.end ∷ [],
        ended to portion content first.0 first.1 spelled normal first.2,
      ))
      (λ abnormal. (Mark.end ∷ [], ended_abnormally to portion content spelled abnormal))
  reached-means (Ok (Message.abort to reason)) e =
      (Mark.end ∷ [], aborted to reason (frame_takes bytes (Message.abort to reason) e))
  reached-means (Ok (Message.unidirectional portion content)) e =
      absurd (unaddressed dialogue bytes named (Message.unidirectional portion content) e refl)
  reached-means (Ok (Message.begin origin portion content)) e =
      absurd (unaddressed dialogue bytes named (Message.begin origin portion content) e refl)
  reached-means (Err f) e = (Mark.end ∷ [], faulty f (frame_fails bytes f e))
