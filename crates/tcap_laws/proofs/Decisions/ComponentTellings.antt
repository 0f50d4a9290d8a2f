-- What the components of a message tell of an invocation is what their marks decide.
use Rattle.std.proofs.Common.{◌≡◌, ℕ, ℤ, zero, suc, ◌==◌, true, false, cond, ◌&&◌, List, [], ◌∷◌, ◌++◌, length, Option, Some, None, Result, Ok, Err, refl, ap, sym, ◌∙◌, append_assoc}
use Rattle.std.proofs.lemmas.List.{map-append}
use Rattle.std.specs.Prelude.{is_none, is_some}
use Rattle.std.specs.Option.{option_or}
use Rattle.tcap_component.specs.Component.{ComponentParts, CodeParts, BodyParts}
use Rattle.tcap_component.specs.ComponentFault.{FaultParts}
use Rattle.tcap_component.specs.ComponentReading.{component_at, components_from, components_by, components_of}
use Rattle.tcap_component.specs.Problem.{ProblemParts}
use Rattle.tcap_invocation.specs.declared.class.Class.{Class}
use Rattle.tcap_invocation.specs.declared.class.Class.TheVariants.{One, Two, Three, Four}
use Rattle.tcap_invocation.specs.Class.{reports_success, reports_failure}
use Rattle.tcap_laws.proofs.Spans.MarksAfterBirth.{noted_at_clock}
use Rattle.tcap_laws.proofs.Decisions.ToldOutputs.{told, IsOther, handled_other}
use Rattle.tcap_model.specs.Invocations.Closes.{closing_of, closing_by_last, closing_by_more, closing_by_error}
use Rattle.tcap_model.specs.Invocations.Closings.{Told, told_by_output}
use Rattle.tcap_model.specs.Procedures.ComponentHandling.{Item, SentInvocation, subject_of, told_of, last_handled, more_handled, error_handled, reject_handled, last_by, more_by, error_by}
use Rattle.tcap_model.specs.Invocations.Decision.{told_outcome as decided_told, as_list}
use Rattle.tcap_model.specs.Invocations.Invocation.{Invocation, latest}
use Rattle.tcap_model.specs.Invocations.Marks.{Mark, marks_of_component, component_marks}
use Rattle.tcap_model.specs.Words.Output.{Closing}
use Rattle.tcap_model.specs.Histories.Pair.{Past}
use Rattle.tcap_model.specs.Procedures.Problems.{is_of_answer}
use Rattle.tcap_model.specs.Replies.Queue.{handled_after}
use Rattle.tcap_model.specs.Invocations.SentThere.{if_sent, sent_there}

-- ---- a fault is the last of the components

abbrev pub EndsAtFault : List Item → Type 0
EndsAtFault [] = Unit {0}
EndsAtFault (Ok c ∷ items) = EndsAtFault items
EndsAtFault (Err f ∷ items) = items ≡ []

abbrev pub AreGood : List Item → Type 0
AreGood [] = Unit {0}
AreGood (Ok c ∷ items) = AreGood items
AreGood (Err f ∷ items) = ⊥

ends_from : (others : List ℕ → List Item) (r : Result (ComponentParts × List ℕ) FaultParts)
    → ((bytes : List ℕ) → EndsAtFault (others bytes)) → EndsAtFault (components_from others r)
ends_from others (Ok c) e = e c.1
ends_from others (Err f) e = refl

ends_by : (n : ℕ) (bytes : List ℕ) → EndsAtFault (components_by n bytes)
unfolding components_by
ends_by n [] = tt
ends_by zero (b ∷ bytes) = tt
ends_by (suc n) (b ∷ bytes) = ends_from (components_by n) (component_at (b ∷ bytes)) (ends_by n)

pub ends_at_fault : (content : List ℕ) → EndsAtFault (components_of content)
ends_at_fault content = ends_by (length content) content

pub good_more : (items : List Item) (c : ComponentParts) → AreGood items → AreGood (items ++ Ok c ∷ [])
good_more [] c g = tt
good_more (Ok d ∷ items) c g = good_more items c g
good_more (Err f ∷ items) c g = absurd g

pub marks-append : (id : ℤ) (xs ys : List Item) → AreGood xs
    → component_marks id (xs ++ ys) ≡ component_marks id xs ++ component_marks id ys
marks-append id [] ys g = refl
marks-append id (Ok c ∷ xs) ys g =
    ap (λ z. marks_of_component id c ++ z) (marks-append id xs ys g)
    ∙ sym (append_assoc (marks_of_component id c) (component_marks id xs) (component_marks id ys))
marks-append id (Err f ∷ xs) ys g = absurd g

pub noted-append : (c : ℕ) (xs ys : List Mark)
    → noted_at_clock c (xs ++ ys) ≡ noted_at_clock c xs ++ noted_at_clock c ys
noted-append c xs ys = map-append (λ (mark : Mark). record { clock = c; mark = mark }) xs ys

-- ---- nothing is told where something has closed

abbrev pub unless : Option Closing → List Told → List Told
unless None told = told
unless (Some c) told = []

pub unless_nothing : (o : Option Closing) → unless o [] ≡ []
unless_nothing None = refl
unless_nothing (Some c) = refl

-- ---- dialogues and identifiers of other invocations

pub components_other : (n : ℕ) (place past : Past) (dialogue : ℕ)
    → ((id : ℤ) (earlier : List Item) → IsOther n (if_sent past earlier (latest dialogue id past)))
    → (earlier items : List Item) → told n place (told_of (handled_after dialogue past earlier items)) ≡ []
components_other n place past dialogue other earlier [] = refl
components_other n place past dialogue other earlier (item ∷ items) =
    ap (λ z. z ++ told n place (told_of (handled_after dialogue past (earlier ++ item ∷ []) items)))
    (handled_other n place (Some dialogue) (sent_there dialogue past earlier (subject_of item)) item
    (go (subject_of item)))
    ∙ components_other n place past dialogue other (earlier ++ item ∷ []) items
  where
    go : (subject : Option ℤ) → IsOther n (sent_there dialogue past earlier subject)
    go None = λ s e. absurd cc
    go (Some id) = other id earlier

-- ---- the components of the invocation's dialogue

module _ (n : ℕ) (place : Past) (i : Invocation) (me : (i.number == n) ≡ true) where
  abbrev pub tells : Option Closing → List Told
  tells closing = as_list (decided_told place i closing)

  abbrev pub sent_by : Option Closing → Option ℕ → Option SentInvocation
  sent_by closing sent =
      cond (is_some sent && is_none closing) (Some
      (record { dialogue = i.dialogue; number = i.number; class = i.class })) None

  abbrev pub self : Class → SentInvocation
  self class = record { dialogue = i.dialogue; number = i.number; class = class }

  last_class : (body : Option BodyParts) (class : Class)
      → told_by_output n place (last_by (self class) i.id body (reports_success class)).told
      ≡ tells (option_or (closing_by_last class body) None)
  last_class body One = rw me refl
  last_class body Two = rw me refl
  last_class body Three = rw me refl
  last_class body Four = rw me refl

  more_class : (body : Option BodyParts) (class : Class)
      → told_by_output n place (more_by (self class) i.id body (reports_success class)).told
      ≡ tells (option_or (closing_by_more class) None)
  more_class body One = refl
  more_class body Two = rw me refl
  more_class body Three = refl
  more_class body Four = rw me refl

  error_class : (code : CodeParts) (parameter : Option (List ℕ)) (class : Class)
      → told_by_output n place (error_by (self class) i.id code parameter (reports_failure class)).told
      ≡ tells (option_or (closing_by_error class code parameter) None)
  error_class code parameter One = rw me refl
  error_class code parameter Two = rw me refl
  error_class code parameter Three = rw me refl
  error_class code parameter Four = rw me refl

  pub last_here : (body : Option BodyParts) (f : Option Closing) (s : Option ℕ)
      → told_by_output n place (last_handled (Some i.dialogue) (sent_by f s) i.id body).told
      ≡ unless f (tells (option_or (closing_of i.class i.timeout s (Mark.last body)) None))
  last_here body None None = refl
  last_here body None (Some c) = last_class body i.class
  last_here body (Some x) None = refl
  last_here body (Some x) (Some c) = refl

  pub more_here : (body : Option BodyParts) (f : Option Closing) (s : Option ℕ)
      → told_by_output n place (more_handled (Some i.dialogue) (sent_by f s) i.id body).told
      ≡ unless f (tells (option_or (closing_of i.class i.timeout s (Mark.more body)) None))
  more_here body None None = refl
  more_here body None (Some c) = more_class body i.class
  more_here body (Some x) None = refl
  more_here body (Some x) (Some c) = refl

  pub error_here : (code : CodeParts) (parameter : Option (List ℕ)) (f : Option Closing) (s : Option ℕ)
      → told_by_output n place (error_handled (Some i.dialogue) (sent_by f s) i.id code parameter).told
      ≡ unless f (tells (option_or (closing_of i.class i.timeout s (Mark.error code parameter)) None))
  error_here code parameter None None = refl
  error_here code parameter None (Some c) = error_class code parameter i.class
  error_here code parameter (Some x) None = refl
  error_here code parameter (Some x) (Some c) = refl

  pub reject_here : (problem : ProblemParts) → is_of_answer problem.kind ≡ false → (f : Option Closing) (s : Option ℕ)
      → told_by_output n place (reject_handled (Some i.dialogue) (sent_by f s) (Some i.id) problem).told
      ≡ unless f (tells (option_or (closing_of i.class i.timeout s (Mark.reject problem)) None))
  reject_here problem of None None = refl
  reject_here problem of None (Some c) = rw (of, me) refl
  reject_here problem of (Some x) None = refl
  reject_here problem of (Some x) (Some c) = refl
