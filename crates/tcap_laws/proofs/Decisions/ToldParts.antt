-- What a message tells of the invocation that is the latest of its identifier, component by component.
use Rattle.std.proofs.Common.{◌≡◌, ℕ, ℤ, ◌==◌, Bool, true, false, cond, List, [], ◌∷◌, ◌++◌, Option, Some, None, Ok, Err, refl, ap, sym, ◌∙◌, arith, append_assoc}
use Rattle.std.proofs.lemmas.Bool.Decides.{nat_tests, Decides-int_eq}
use Rattle.std.proofs.lemmas.List.{append-nil}
use Rattle.std.specs.Option.{option_or}
use Rattle.std.specs.Ordering.{int_eq}
use Rattle.tcap_component.specs.Component.{ComponentParts}
use Rattle.tcap_component.specs.ComponentReading.{components_of}
use Rattle.tcap_component.specs.declared.problem.Kind.{Kind}
use Rattle.tcap_component.specs.declared.problem.Kind.TheVariants as kind
use Rattle.tcap_component.specs.Problem.{ProblemParts}
use Rattle.tcap_laws.proofs.Spans.MarksAfterBirth.{noted_at_clock}
use Rattle.tcap_laws.proofs.Spans.DecisionSteps.{closing_after-append, first_closing-append, number_found}
use Rattle.tcap_laws.proofs.Spans.LatestInvocations.{IsLatest, latest_is}
use Rattle.tcap_laws.proofs.Decisions.ComponentTellings.{EndsAtFault, AreGood, ends_at_fault, good_more, marks-append, noted-append, unless, unless_nothing, last_here, more_here, error_here, reject_here}
use Rattle.tcap_laws.proofs.Decisions.ToldOutputs.{told, IsOther, handled_other, invoke_silent}
use Rattle.tcap_model.specs.Histories.Clock.{clock}
use Rattle.tcap_model.specs.Invocations.Closes.{closing_of}
use Rattle.tcap_model.specs.Invocations.Closings.{Told, told_by_output}
use Rattle.tcap_model.specs.Procedures.ComponentHandling.{Item, SentInvocation, handled, subject_of, told_of, last_handled, more_handled, error_handled, reject_handled}
use Rattle.tcap_model.specs.Invocations.Deadline.{sent_clock}
use Rattle.tcap_model.specs.Invocations.Decision.{told_outcome as decided_told, as_list}
use Rattle.tcap_model.specs.Histories.History.{Start}
use Rattle.tcap_model.specs.Invocations.Invocation.{Invocation, invocation_of, latest}
use Rattle.tcap_model.specs.Replies.Legal.{AreReplies}
use Rattle.tcap_model.specs.Invocations.Marks.{Mark, Noted, marked, reject_marks, marks_of_component, component_marks}
use Rattle.tcap_model.specs.Invocations.Outcome.{closing_after, first_closing, is_sent_in}
use Rattle.tcap_model.specs.Words.Output.{Closing}
use Rattle.tcap_model.specs.Histories.Pair.{Past}
use Rattle.tcap_model.specs.Procedures.Problems.{is_of_answer}
use Rattle.tcap_model.specs.Replies.Queue.{handled_after, handled_in}
use Rattle.tcap_model.specs.Invocations.Span.{span}
use Rattle.tcap_model.specs.Invocations.SentThere.{if_sent, marks_up_to, sent_there}

-- ---- a Reject of an answer closes nothing

answer_silent : (n : ℕ) (place : Past) (dialogue : Option ℕ) (sent : Option SentInvocation) (named : ℤ)
    (problem : ProblemParts) → is_of_answer problem.kind ≡ true
    → told_by_output n place (reject_handled dialogue sent (Some named) problem).told ≡ []
answer_silent n place dialogue None named problem e = refl
answer_silent n place dialogue (Some s) named problem e = rw e refl

-- ---- one after the other

abbrev pub gain : Past → Invocation → Option Closing → List Told
gain place i closing = as_list (decided_told place i closing)

pub in_turn : (place : Past) (i : Invocation) (f x y : Option Closing) (first rest : List Told)
    → first ≡ unless f (gain place i x) → rest ≡ unless (option_or f x) (gain place i y)
    → first ++ rest ≡ unless f (gain place i (option_or x y))
in_turn place i (Some c) x y first rest p q = rw (p, q) refl
in_turn place i None (Some c) y first rest p q = rw (p, q) refl
in_turn place i None None y first rest p q = rw (p, q) refl

-- an invocation of another number, where it is Sent
pub sent_other : (n : ℕ) (past : Past) (earlier : List Item) (o : Option Invocation)
    → ((j : Invocation) → o ≡ Some j → (j.number == n) ≡ false) → IsOther n (if_sent past earlier o)
sent_other n past earlier None other s e = absurd cc
sent_other n past earlier (Some j) other s e = go (is_sent_in j.class j.timeout (marks_up_to past earlier j)) e
  where
    go : (b : Bool) → cond b (Some (record { dialogue = j.dialogue; number = j.number; class = j.class })) None ≡ Some s
        → (s.number == n) ≡ false
    go false e = absurd cc
    go true e =
        let same : record { dialogue = j.dialogue; number = j.number; class = j.class } ≡ s = cc in
        ap (λ (s : SentInvocation). s.number == n) (sym same) ∙ other j refl

module _ (start : Start) (past place : Past) (n : ℕ) (i : Invocation) (legal : AreReplies start past)
    (found : invocation_of n past ≡ Some i) where
  pub own : (i.number == n) ≡ true
  own = let same : i.number ≡ n = number_found n past i found in grind (arith, nat_tests)

  -- only the identifier of the invocation, in its dialogue, has it as the latest
  pub other_latest : (dialogue : ℕ) (id : ℤ) → (i.dialogue ≡ dialogue → i.id ≡ id → ⊥) → (j : Invocation)
      → latest dialogue id past ≡ Some j → (j.number == n) ≡ false
  other_latest dialogue id apart j p = go (j.number == n) refl
    where
      go : (b : Bool) → (j.number == n) ≡ b → (j.number == n) ≡ false
      go false q = q
      go true q =
          let l : IsLatest dialogue id past j = latest_is start past dialogue id j legal p in
          let number : j.number ≡ n = grind (arith, nat_tests) in
          let there : invocation_of n past ≡ Some j = ap (λ m. invocation_of m past) (sym number) ∙ l.is_found in
          let same : i ≡ j = cc in
          absurd (apart (ap (λ (k : Invocation). k.dialogue) same ∙ l.dialogue_is)
          (ap (λ (k : Invocation). k.id) same ∙ l.id_is))

  pub other_there : (dialogue : ℕ) (id : ℤ) (earlier : List Item) → (i.dialogue ≡ dialogue → i.id ≡ id → ⊥)
      → IsOther n (if_sent past earlier (latest dialogue id past))
  other_there dialogue id earlier apart =
      sent_other n past earlier (latest dialogue id past) (λ j p. other_latest dialogue id apart j p)

  module _ (here : latest i.dialogue i.id past ≡ Some i) where
    abbrev closed_before : List Item → Option Closing
    closed_before earlier = first_closing i.class i.timeout (marks_up_to past earlier i)

    abbrev closed_then : List Item → List Mark → Option Closing
    closed_then earlier ms =
        closing_after i.class i.timeout (marks_up_to past earlier i) (noted_at_clock (clock past) ms)

    on_key : (earlier : List Item) (named : ℤ) (tell : ℤ → Option SentInvocation → List Told) (m : Mark)
        → ((sent : Option SentInvocation) → IsOther n sent → tell named sent ≡ [])
        → tell i.id (if_sent past earlier (Some i)) ≡ unless (closed_before earlier)
        (gain place i (option_or (closing_of i.class i.timeout (sent_clock (marks_up_to past earlier i)) m) None))
        → tell named (if_sent past earlier (latest i.dialogue named past))
        ≡ unless (closed_before earlier) (gain place i (closed_then earlier (marked i.id named m)))
    on_key earlier named tell m others mine = go (int_eq named i.id) refl
      where
        go : (b : Bool) → int_eq named i.id ≡ b → tell named (if_sent past earlier (latest i.dialogue named past))
            ≡ unless (closed_before earlier) (gain place i (closed_then earlier (cond b (m ∷ []) [])))
        go true q =
            let same : named ≡ i.id = (Decides-int_eq named i.id).0 q in
            ap (λ (k : ℤ). tell k (if_sent past earlier (latest i.dialogue k past))) same
            ∙ (ap (λ o. tell i.id (if_sent past earlier o)) here ∙ mine)
        go false q =
            let apart : i.dialogue ≡ i.dialogue → i.id ≡ named → ⊥ = λ p r. let is : int_eq named i.id ≡ true =
            (Decides-int_eq named i.id).1 (sym r) in cc in
            others (if_sent past earlier (latest i.dialogue named past)) (other_there i.dialogue named earlier apart)
            ∙ sym (unless_nothing (closed_before earlier))

    rejected_here : (earlier : List Item) (named : ℤ) (problem : ProblemParts) (k : Kind) → problem.kind ≡ k
        → told_by_output n place (reject_handled (Some i.dialogue) (if_sent past earlier (latest i.dialogue named past))
        (Some named) problem).told ≡ unless (closed_before earlier)
        (gain place i (closed_then earlier (reject_marks i.id named problem k)))
    rejected_here earlier named problem kind.General q =
        on_key earlier named (λ (k : ℤ) (sent : Option SentInvocation).
        told_by_output n place (reject_handled (Some i.dialogue) sent (Some k) problem).told) (Mark.reject problem)
        (λ sent o. handled_other n place (Some i.dialogue) sent (Ok (ComponentParts.reject_back (Some named) problem))
        o)
        (reject_here n place i own problem (ap is_of_answer q) (closed_before earlier)
        (sent_clock (marks_up_to past earlier i)))
    rejected_here earlier named problem kind.Invoke q =
        on_key earlier named (λ (k : ℤ) (sent : Option SentInvocation).
        told_by_output n place (reject_handled (Some i.dialogue) sent (Some k) problem).told) (Mark.reject problem)
        (λ sent o. handled_other n place (Some i.dialogue) sent (Ok (ComponentParts.reject_back (Some named) problem))
        o)
        (reject_here n place i own problem (ap is_of_answer q) (closed_before earlier)
        (sent_clock (marks_up_to past earlier i)))
    rejected_here earlier named problem kind.Result q = answer_silent n place (Some i.dialogue)
        (if_sent past earlier (latest i.dialogue named past)) named problem (ap is_of_answer q)
        ∙ sym (unless_nothing (closed_before earlier))
    rejected_here earlier named problem kind.Error q = answer_silent n place (Some i.dialogue)
        (if_sent past earlier (latest i.dialogue named past)) named problem (ap is_of_answer q)
        ∙ sym (unless_nothing (closed_before earlier))

    component_here : (earlier : List Item) (c : ComponentParts)
        → told_by_output n place (handled (Some i.dialogue) (sent_there i.dialogue past earlier (subject_of (Ok c)))
        (Ok c)).told ≡ unless (closed_before earlier) (gain place i (closed_then earlier (marks_of_component i.id c)))
    component_here earlier (ComponentParts.invoke id linked code parameter) =
        invoke_silent n place (Some i.dialogue) (sent_there i.dialogue past earlier linked) id linked code parameter
        ∙ sym (unless_nothing (closed_before earlier))
    component_here earlier (ComponentParts.result_last named body) =
        on_key earlier named (λ (k : ℤ) (sent : Option SentInvocation). told_by_output n place
        (last_handled (Some i.dialogue) sent k body).told) (Mark.last body)
        (λ sent o. handled_other n place (Some i.dialogue) sent (Ok (ComponentParts.result_last named body)) o)
        (last_here n place i own body (closed_before earlier) (sent_clock (marks_up_to past earlier i)))
    component_here earlier (ComponentParts.result_more named body) =
        on_key earlier named (λ (k : ℤ) (sent : Option SentInvocation). told_by_output n place
        (more_handled (Some i.dialogue) sent k body).told) (Mark.more body)
        (λ sent o. handled_other n place (Some i.dialogue) sent (Ok (ComponentParts.result_more named body)) o)
        (more_here n place i own body (closed_before earlier) (sent_clock (marks_up_to past earlier i)))
    component_here earlier (ComponentParts.error_back named code parameter) =
        on_key earlier named (λ (k : ℤ) (sent : Option SentInvocation).
        told_by_output n place (error_handled (Some i.dialogue) sent k code parameter).told)
        (Mark.error code parameter)
        (λ sent o. handled_other n place (Some i.dialogue) sent (Ok (ComponentParts.error_back named code parameter)) o)
        (error_here n place i own code parameter (closed_before earlier) (sent_clock (marks_up_to past earlier i)))
    component_here earlier (ComponentParts.reject_back None problem) = sym (unless_nothing (closed_before earlier))
    component_here earlier (ComponentParts.reject_back (Some named) problem) =
        rejected_here earlier named problem problem.kind refl

    one_more : (earlier : List Item) (c : ComponentParts) → AreGood earlier
        → marks_up_to past (earlier ++ Ok c ∷ []) i ≡ marks_up_to past earlier i
        ++ noted_at_clock (clock past) (marks_of_component i.id c)
    one_more earlier c good =
        ap (λ z. span i past ++ noted_at_clock (clock past) z)
        (marks-append i.id earlier (Ok c ∷ []) good ∙ ap (λ z. component_marks i.id earlier ++ z)
        (append-nil (marks_of_component i.id c)))
        ∙ (ap (λ z. span i past ++ z) (noted-append (clock past) (component_marks i.id earlier)
        (marks_of_component i.id c))
        ∙ sym (append_assoc (span i past) (noted_at_clock (clock past) (component_marks i.id earlier))
        (noted_at_clock (clock past) (marks_of_component i.id c))))

    pub parts_here : (earlier items : List Item) → AreGood earlier → EndsAtFault items
        → told n place (told_of (handled_after i.dialogue past earlier items))
        ≡ unless (closed_before earlier) (gain place i (closed_then earlier (component_marks i.id items)))
    parts_here earlier [] good ends = sym (unless_nothing (closed_before earlier))
    parts_here earlier (Err f ∷ items) good ends =
        ap (λ z. told n place (told_of (handled_after i.dialogue past (earlier ++ Err f ∷ []) z))) ends
        ∙ sym (unless_nothing (closed_before earlier))
    parts_here earlier (Ok c ∷ items) good ends =
        in_turn place i (closed_before earlier) (closed_then earlier ms)
        (closing_after i.class i.timeout (M ++ noted_at_clock (clock past) ms) (noted_at_clock (clock past) rest))
        (told_by_output n place (handled (Some i.dialogue) (sent_there i.dialogue past earlier (subject_of (Ok c)))
        (Ok c)).told)
        (told n place (told_of (handled_after i.dialogue past (earlier ++ Ok c ∷ []) items)))
        (component_here earlier c)
        (parts_here (earlier ++ Ok c ∷ []) items (good_more earlier c good) ends
        ∙ (ap (λ z. unless (first_closing i.class i.timeout z)
        (gain place i (closing_after i.class i.timeout z (noted_at_clock (clock past) rest))))
        (one_more earlier c good)
        ∙ ap (λ o. unless o (gain place i (closing_after i.class i.timeout (M ++ noted_at_clock (clock past) ms)
        (noted_at_clock (clock past) rest)))) (first_closing-append i.class i.timeout M
        (noted_at_clock (clock past) ms))))
        ∙ ap (λ o. unless (closed_before earlier) (gain place i o))
        (sym (ap (closing_after i.class i.timeout M) (noted-append (clock past) ms rest)
        ∙ closing_after-append i.class i.timeout M (noted_at_clock (clock past) ms)
        (noted_at_clock (clock past) rest)))
      where
        M : List Noted
        M = marks_up_to past earlier i

        ms : List Mark
        ms = marks_of_component i.id c

        rest : List Mark
        rest = component_marks i.id items

    -- all components of a message
    pub message_parts : (content : List ℕ) → told n place (told_of (handled_in i.dialogue past content))
        ≡ unless (first_closing i.class i.timeout (span i past))
        (gain place i (closing_after i.class i.timeout (span i past)
        (noted_at_clock (clock past) (component_marks i.id (components_of content)))))
    message_parts content = parts_here [] (components_of content) tt (ends_at_fault content)
        ∙ ap (λ z. unless (first_closing i.class i.timeout z)
        (gain place i (closing_after i.class i.timeout z
        (noted_at_clock (clock past) (component_marks i.id (components_of content)))))) (append-nil (span i past))
