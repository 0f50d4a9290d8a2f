-- What the end of its dialogue and a message tell of an invocation that is the latest of its identifier.
use Rattle.std.proofs.Common.{◌≡◌, ℕ, ℤ, ◌==◌, Bool, true, false, cond, ◌&&◌, List, [], ◌∷◌, ◌++◌, Option, Some, None, Ok, refl, ap, sym, ◌∙◌, arith}
use Rattle.std.proofs.lemmas.Bool.Decides.{nat_tests, Decides-int_eq}
use Rattle.std.proofs.lemmas.List.{append-nil}
use Rattle.std.specs.Prelude.{is_none, unwrap_or}
use Rattle.std.specs.Ordering.{int_eq}
use Rattle.tcap_component.specs.ComponentReading.{components_of}
use Rattle.tcap_laws.proofs.Spans.MarksAfterBirth.{noted_at_clock}
use Rattle.tcap_laws.proofs.Decisions.ComponentTellings.{unless, unless_nothing, noted-append}
use Rattle.tcap_laws.proofs.Spans.DecisionSteps.{closing_after-append, first_closing-append}
use Rattle.tcap_laws.proofs.Decisions.QuietDialogues.{IsQuiet}
use Rattle.tcap_laws.proofs.Decisions.ToldInvocations.{told_one, ended_told, ended_number, told_if_any}
use Rattle.tcap_laws.proofs.Decisions.ToldOutputs.{told, told-append, abort_silent, asked_silent}
use Rattle.tcap_laws.proofs.Decisions.ToldParts.{gain, in_turn, own, other_latest, other_there, message_parts}
use Rattle.tcap_model.specs.Histories.Clock.{clock}
use Rattle.tcap_model.specs.Invocations.Closings.{Told}
use Rattle.tcap_model.specs.Procedures.ComponentHandling.{Item, told_of}
use Rattle.tcap_model.specs.Replies.Held.{pending, if_pending}
use Rattle.tcap_model.specs.Histories.History.{Start}
use Rattle.tcap_model.specs.Invocations.Invocation.{Invocation, invocation_of, latest}
use Rattle.tcap_model.specs.Replies.Legal.{AreReplies}
use Rattle.tcap_model.specs.Histories.Life.{Life, life_by_message, life_by_verdict}
use Rattle.tcap_model.specs.Invocations.Marks.{Mark, Noted, end_if_over, if_normal, marks_of_message, component_marks}
use Rattle.tcap_model.specs.Invocations.Outcome.{closing_after, first_closing, outcome}
use Rattle.tcap_model.specs.Words.Request.{Request}
use Rattle.tcap_model.specs.Words.Output.{Output, Closing, ComponentIndication}
use Rattle.tcap_model.specs.Histories.Pair.{Past}
use Rattle.tcap_model.specs.Procedures.PortionRules.{PortionVerdict, portion_verdict}
use Rattle.tcap_model.specs.Replies.Queue.{handled_in}
use Rattle.tcap_model.specs.Invocations.SentThere.{marks_up_to}
use Rattle.tcap_model.specs.Replies.Reply.{ended_in, continue_outputs, end_outputs, message_outputs, request_sent}
use Rattle.tcap_model.specs.Invocations.Span.{span}
use Rattle.tcap_model.specs.Words.State.{State}
use Rattle.tcap_pdu.specs.FrameSpelling.{Message}
use Rattle.tcap_model.specs.Words.Address.{Address}
use Rattle.tcap_model.specs.Procedures.Standing.{Standing}

-- what is to be told of an invocation, where these marks are added to its span
abbrev pub wanted : Past → Past → Invocation → List Noted → List Told
wanted place past i added =
    unless (first_closing i.class i.timeout (span i past))
    (gain place i (closing_after i.class i.timeout (span i past) added))

pub nothing_wanted : (place past : Past) (i : Invocation) → wanted place past i [] ≡ []
nothing_wanted place past i = unless_nothing (first_closing i.class i.timeout (span i past))

module _ (start : Start) (past place : Past) (n : ℕ) (i : Invocation) (legal : AreReplies start past)
    (found : invocation_of n past ≡ Some i) where
  me : (i.number == n) ≡ true
  me = own start past place n i legal found

  own_dialogue : (i.dialogue == i.dialogue) ≡ true
  own_dialogue = grind (arith, nat_tests)

  -- ---- the end of a dialogue

  ended_here : (items : List Item) → told n place (ended_in i.dialogue past items)
      ≡ unless (first_closing i.class i.timeout (marks_up_to past items i)) (gain place i (Some Closing.ended))
  ended_here items = ended_number n place past i.dialogue items start legal
      ∙ (ap (told_one (ended_told n place past i.dialogue items)) found
      ∙ go (first_closing i.class i.timeout (marks_up_to past items i)))
    where
      go : (f : Option Closing) → told_if_any n place
          (cond ((i.dialogue == i.dialogue) && is_none f)
          (Some (Output.component (ComponentIndication.closed i.dialogue i.number i.id Closing.ended))) None)
          ≡ unless f (gain place i (Some Closing.ended))
      go None = rw (own_dialogue, me) refl
      go (Some c) = rw own_dialogue refl

  -- with no components before it
  pub ended_only : told n place (ended_in i.dialogue past [])
      ≡ wanted place past i (noted_at_clock (clock past) (Mark.end ∷ []))
  ended_only = ended_here [] ∙ ap (λ z. unless (first_closing i.class i.timeout z) (gain place i (Some Closing.ended)))
      (append-nil (span i past))

  ended_elsewhere : (dialogue : ℕ) (items : List Item) → (i.dialogue == dialogue) ≡ false
      → told n place (ended_in dialogue past items) ≡ []
  ended_elsewhere dialogue items e =
      ended_number n place past dialogue items start legal
      ∙ (ap (told_one (ended_told n place past dialogue items)) found ∙ rw e refl)

  other_cancel : (dialogue : ℕ) (id : ℤ) → (i.dialogue ≡ dialogue → i.id ≡ id → ⊥) → (m : ℕ)
      → pending dialogue id past ≡ Some m → (m == n) ≡ false
  other_cancel dialogue id apart m e = go (latest dialogue id past) refl e
    where
      one : (j : Invocation) (b : Bool) → latest dialogue id past ≡ Some j → cond b (Some j.number) None ≡ Some m
          → (m == n) ≡ false
      one j false p e = absurd cc
      one j true p e = let same : j.number ≡ m =
          cc in ap (λ k. k == n) (sym same) ∙ other_latest start past place n i legal found dialogue id apart j p

      go : (o : Option Invocation) → latest dialogue id past ≡ o → if_pending past o ≡ Some m → (m == n) ≡ false
      go None p e = absurd cc
      go (Some j) p e = one j (is_none (outcome j.number past)) p e

  pub other_identifier : (id : ℤ) → int_eq id i.id ≡ false → (m : ℕ) → pending i.dialogue id past ≡ Some m
      → (m == n) ≡ false
  other_identifier id q =
      other_cancel i.dialogue id (λ p r. let is : int_eq id i.id ≡ true = (Decides-int_eq id i.id).1 (sym r) in cc)

  -- other dialogues tell nothing of it
  pub quiet_elsewhere : (dialogue : ℕ) → (i.dialogue ≡ dialogue → ⊥) → IsQuiet n place past dialogue
  quiet_elsewhere dialogue apart = record {
    subjects = λ id earlier. other_there start past place n i legal found dialogue id earlier (λ p r. apart p);
    ends = λ items. ended_elsewhere dialogue items (go (i.dialogue == dialogue) refl);
    cancels = λ id m e. other_cancel dialogue id (λ p r. apart p) m e;
  }
    where
      go : (b : Bool) → (i.dialogue == dialogue) ≡ b → (i.dialogue == dialogue) ≡ false
      go false q = q
      go true q = let same : i.dialogue ≡ dialogue = grind (arith, nat_tests) in absurd (apart same)

  -- ---- messages

  module _ (here : latest i.dialogue i.id past ≡ Some i) where
    parts : (content : List ℕ) → told n place (told_of (handled_in i.dialogue past content))
        ≡ wanted place past i (noted_at_clock (clock past) (component_marks i.id (components_of content)))
    parts content = message_parts start past place n i legal found here content

    -- the components of an End, and then what is left
    parts_and_end : (content : List ℕ) → told n place
        (told_of (handled_in i.dialogue past content) ++ ended_in i.dialogue past (components_of content))
        ≡ wanted place past i (noted_at_clock (clock past)
        (component_marks i.id (components_of content) ++ Mark.end ∷ []))
    parts_and_end content =
        told-append n place (told_of (handled_in i.dialogue past content))
        (ended_in i.dialogue past (components_of content))
        ∙ (in_turn place i (first_closing i.class i.timeout (span i past))
        (closing_after i.class i.timeout (span i past) ms) (Some Closing.ended)
        (told n place (told_of (handled_in i.dialogue past content)))
        (told n place (ended_in i.dialogue past (components_of content)))
        (parts content)
        (ended_here (components_of content) ∙ ap (λ o. unless o (gain place i (Some Closing.ended)))
        (first_closing-append i.class i.timeout (span i past) ms))
        ∙ ap (λ o. unless (first_closing i.class i.timeout (span i past)) (gain place i o))
        (sym (ap (closing_after i.class i.timeout (span i past))
        (noted-append (clock past) (component_marks i.id (components_of content)) (Mark.end ∷ []))
        ∙ closing_after-append i.class i.timeout (span i past) ms (noted_at_clock (clock past) (Mark.end ∷ [])))))
      where
        ms : List Noted
        ms = noted_at_clock (clock past) (component_marks i.id (components_of content))

    module _ (state : State) (context : Option (List ℕ)) where
      continue_here : (from : Address) (origin content : List ℕ) (v : PortionVerdict)
          → told n place (continue_outputs i.dialogue past state from origin content v)
          ≡ wanted place past i (noted_at_clock (clock past)
          (unwrap_or (if_normal v (component_marks i.id (components_of content)))
          (end_if_over (Life.standing state context) (life_by_verdict state context origin v))))
      continue_here from origin content (PortionVerdict.normal told info) = parts content
      continue_here from origin content PortionVerdict.abnormal = ended_only

      end_here : (content : List ℕ) (v : PortionVerdict) → told n place (end_outputs i.dialogue past content v)
          ≡ wanted place past i (noted_at_clock (clock past)
          (unwrap_or (if_normal v (component_marks i.id (components_of content) ++ Mark.end ∷ []))
          (end_if_over (Life.standing state context) Life.over)))
      end_here content (PortionVerdict.normal told info) = parts_and_end content
      end_here content PortionVerdict.abnormal = ended_only

      pub message_here : (from : Address) (m : Message)
          → told n place (message_outputs i.dialogue past state context from m)
          ≡ wanted place past i (noted_at_clock (clock past)
          (unwrap_or (marks_of_message i.id state context (Ok m))
          (end_if_over (Life.standing state context) (life_by_message state context (Ok m)))))
      message_here from (Message.go_on origin to portion components) =
          continue_here from origin components (portion_verdict state context portion)
      message_here from (Message.end to portion components) =
          end_here components (portion_verdict state context portion)
      message_here from (Message.abort to reason) =
          ap (λ z. z ++ told n place (ended_in i.dialogue past [])) (abort_silent n place i.dialogue reason)
          ∙ ended_only
      message_here from (Message.unidirectional portion components) = sym (nothing_wanted place past i)
      message_here from (Message.begin origin portion components) = sym (nothing_wanted place past i)

  pub last_here : (d : Standing) (r : Request) → told n place (request_sent past d r ++ ended_in i.dialogue past [])
      ≡ wanted place past i (noted_at_clock (clock past) (Mark.end ∷ []))
  last_here d r = told-append n place (request_sent past d r) (ended_in i.dialogue past [])
      ∙ (ap (λ z. z ++ told n place (ended_in i.dialogue past [])) (asked_silent n place past d r) ∙ ended_only)
