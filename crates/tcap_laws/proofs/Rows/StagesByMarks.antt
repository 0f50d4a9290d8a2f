-- The stage of an invocation, by its marks, and what one mark more makes of it.
use Rattle.std.proofs.Common.{◌≡◌, ℕ, ◌+◌, Bool, true, false, cond, nat_le, List, [], ◌∷◌, ◌++◌, Option, Some, None, refl, ap, sym, ◌∙◌}
use Rattle.std.specs.Option.{option_or}
use Rattle.tcap_component.specs.Component.{CodeParts, BodyParts}
use Rattle.tcap_component.specs.declared.problem.Kind.{Kind}
use Rattle.tcap_invocation.specs.declared.class.Class.{Class}
use Rattle.tcap_invocation.specs.declared.class.Class.TheVariants.{One, Two, Three, Four}
use Rattle.tcap_invocation.specs.declared.stage.Stage.{Stage}
use Rattle.tcap_invocation.specs.declared.stage.Stage.TheVariants.{Queued, Sent, Waiting}
use Rattle.tcap_invocation.specs.Class.{Received, Consequence, class_rule}
use Rattle.tcap_invocation.specs.Stage.{sent_stage}
use Rattle.tcap_laws.proofs.Rows.LeftSentByRows.{rejecting, reject_rule}
use Rattle.tcap_laws.proofs.Spans.DecisionSteps.{first_closing-append}
use Rattle.tcap_laws.proofs.Spans.SentClocks.{sent_clock-append}
use Rattle.tcap_model.specs.Invocations.Closes.{closing_of, closing_by_last, closing_by_more, closing_by_error}
use Rattle.tcap_model.specs.Invocations.Deadline.{is_sent, sent_clock}
use Rattle.tcap_model.specs.Replies.Held.{is_rejectable}
use Rattle.tcap_model.specs.Invocations.Marks.{Mark, Noted}
use Rattle.tcap_model.specs.Invocations.Outcome.{first_closing}
use Rattle.tcap_model.specs.Words.Output.{Closing}
use Rattle.tcap_model.specs.Procedures.Problems.{is_of_answer}

-- ---- the stage by marks

-- Queued, or Sent with the deadline
abbrev pub open_stage : ℕ → Option ℕ → Stage
open_stage timeout None = Queued timeout
open_stage timeout (Some sent) = Sent (sent + timeout)

-- pending where nothing closes it; Waiting until this moment after a result or an error; else free
abbrev pub closed_stage : ℕ → ℕ → Option Closing → Option ℕ → Option Stage
closed_stage until timeout None sent = Some (open_stage timeout sent)
closed_stage until timeout (Some closing) sent = cond (is_rejectable closing) (Some (Waiting until)) None

abbrev pub marked_stage : ℕ → Class → ℕ → List Noted → Option Stage
marked_stage until class timeout marks =
    closed_stage until timeout (first_closing class timeout marks) (sent_clock marks)

-- ---- what a mark makes of a stage

-- an answer to an invocation that is Sent
abbrev pub answered_by : ℕ → Stage → Consequence → Option Stage
answered_by until s Consequence.result_last = Some (Waiting until)
answered_by until s Consequence.result_more = Some s
answered_by until s Consequence.error_back = Some (Waiting until)
answered_by until s Consequence.rejected_result = None
answered_by until s Consequence.rejected_error = None
answered_by until s Consequence.rejected = None
answered_by until s Consequence.not_of_the_invoke = Some s

abbrev pub answered_stage : ℕ → Received → Class → Stage → Option Stage
answered_stage until received class (Queued timeout) = Some (Queued timeout)
answered_stage until received class (Sent deadline) = answered_by until (Sent deadline) (class_rule class received)
answered_stage until received class (Waiting u) = Some (Waiting u)

-- a Reject of the Invoke
abbrev pub rejected_stage : Stage → Option Stage
rejected_stage (Queued timeout) = Some (Queued timeout)
rejected_stage (Sent deadline) = None
rejected_stage (Waiting u) = Some (Waiting u)

pub reject_frees : (until : ℕ) (k : Kind) → is_of_answer k ≡ false → (class : Class) (s : Stage)
    → rejected_stage s ≡ answered_stage until (Received.reject k) class s
reject_frees until k of class (Queued timeout) = refl
reject_frees until k of class (Sent deadline) =
    sym (ap (answered_by until (Sent deadline)) (reject_rule class k ∙ ap rejecting of))
reject_frees until k of class (Waiting u) = refl

-- a Reject of an answer from here leaves each stage
pub reject_keeps : (until : ℕ) (k : Kind) → is_of_answer k ≡ true → (class : Class) (s : Stage)
    → answered_stage until (Received.reject k) class s ≡ Some s
reject_keeps until k of class (Queued timeout) = refl
reject_keeps until k of class (Sent deadline) =
    ap (answered_by until (Sent deadline)) (reject_rule class k ∙ ap rejecting of)
reject_keeps until k of class (Waiting u) = refl

-- the user gives it up, or the dialogue ends
abbrev pub dropped_stage : Stage → Option Stage
dropped_stage (Queued timeout) = None
dropped_stage (Sent deadline) = None
dropped_stage (Waiting u) = Some (Waiting u)

-- a moment
abbrev pub lapsed_stage : ℕ → Stage → Option Stage
lapsed_stage now (Queued timeout) = Some (Queued timeout)
lapsed_stage now (Sent deadline) = cond (nat_le deadline now) None (Some (Sent deadline))
lapsed_stage now (Waiting u) = Some (Waiting u)

abbrev pub mark_stage : ℕ → ℕ → Mark → Class → Stage → Option Stage
mark_stage until clock Mark.sent class s = Some (sent_stage clock s)
mark_stage until clock Mark.end class s = dropped_stage s
mark_stage until clock Mark.given_up class s = dropped_stage s
mark_stage until clock (Mark.moment now) class s = lapsed_stage now s
mark_stage until clock (Mark.last body) class s = answered_stage until Received.return_result_last class s
mark_stage until clock (Mark.more body) class s = answered_stage until Received.return_result_not_last class s
mark_stage until clock (Mark.error code parameter) class s = answered_stage until Received.return_error class s
mark_stage until clock (Mark.reject problem) class s = rejected_stage s

abbrev pub then_stage : (Stage → Option Stage) → Option Stage → Option Stage
then_stage f None = None
then_stage f (Some s) = f s

-- ---- one mark more

module _ (until clock timeout : ℕ) (class : Class) where
  abbrev Steps : Mark → Option Closing → Option ℕ → Type 0
  Steps m o s = closed_stage until timeout (option_or o (option_or (closing_of class timeout s m) None))
      (option_or s (cond (is_sent m) (Some clock) None))
      ≡ then_stage (mark_stage until clock m class) (closed_stage until timeout o s)

  -- what is closed stays so
  pub waits : (m : Mark) (u : ℕ) → mark_stage until clock m class (Waiting u) ≡ Some (Waiting u)
  waits Mark.sent u = refl
  waits Mark.end u = refl
  waits Mark.given_up u = refl
  waits (Mark.moment now) u = refl
  waits (Mark.last body) u = refl
  waits (Mark.more body) u = refl
  waits (Mark.error code parameter) u = refl
  waits (Mark.reject problem) u = refl

  closed_steps : (m : Mark) (c : Closing) (s : Option ℕ) → Steps m (Some c) s
  closed_steps m c s = go (is_rejectable c)
    where
      go : (b : Bool) → cond b (Some (Waiting until)) None
          ≡ then_stage (mark_stage until clock m class) (cond b (Some (Waiting until)) None)
      go true = sym (waits m until)
      go false = refl

  -- an answer that closes an invocation that is Sent, or leaves it
  last_steps : (body : Option BodyParts) (sent : ℕ) (class : Class)
      → closed_stage until timeout (option_or (closing_by_last class body) None) (Some sent)
      ≡ answered_by until (Sent (sent + timeout)) (class_rule class Received.return_result_last)
  last_steps body sent One = refl
  last_steps body sent Two = refl
  last_steps body sent Three = refl
  last_steps body sent Four = refl

  more_steps : (sent : ℕ) (class : Class)
      → closed_stage until timeout (option_or (closing_by_more class) None) (Some sent)
      ≡ answered_by until (Sent (sent + timeout)) (class_rule class Received.return_result_not_last)
  more_steps sent One = refl
  more_steps sent Two = refl
  more_steps sent Three = refl
  more_steps sent Four = refl

  error_steps : (code : CodeParts) (parameter : Option (List ℕ)) (sent : ℕ) (class : Class)
      → closed_stage until timeout (option_or (closing_by_error class code parameter) None) (Some sent)
      ≡ answered_by until (Sent (sent + timeout)) (class_rule class Received.return_error)
  error_steps code parameter sent One = refl
  error_steps code parameter sent Two = refl
  error_steps code parameter sent Three = refl
  error_steps code parameter sent Four = refl

  open_steps : (m : Mark) (s : Option ℕ) → Steps m None s
  open_steps Mark.sent None = refl
  open_steps Mark.sent (Some k) = refl
  open_steps Mark.end None = refl
  open_steps Mark.end (Some k) = refl
  open_steps Mark.given_up None = refl
  open_steps Mark.given_up (Some k) = refl
  open_steps (Mark.moment now) None = refl
  open_steps (Mark.moment now) (Some k) = go (nat_le (k + timeout) now)
    where
      go : (b : Bool) → closed_stage until timeout (option_or (cond b (Some Closing.lapsed) None) None) (Some k)
          ≡ cond b None (Some (Sent (k + timeout)))
      go true = refl
      go false = refl
  open_steps (Mark.last body) None = refl
  open_steps (Mark.last body) (Some k) = last_steps body k class
  open_steps (Mark.more body) None = refl
  open_steps (Mark.more body) (Some k) = more_steps k class
  open_steps (Mark.error code parameter) None = refl
  open_steps (Mark.error code parameter) (Some k) = error_steps code parameter k class
  open_steps (Mark.reject problem) None = refl
  open_steps (Mark.reject problem) (Some k) = refl

  one_steps : (m : Mark) (o : Option Closing) (s : Option ℕ) → Steps m o s
  one_steps m None s = open_steps m s
  one_steps m (Some c) s = closed_steps m c s

  sent_one : (m : Mark) (b : Bool) → is_sent m ≡ b
      → sent_clock (record { clock = clock; mark = m } ∷ []) ≡ cond (is_sent m) (Some clock) None
  sent_one m true e = rw e refl
  sent_one m false e = rw e refl

  pub mark_steps : (marks : List Noted) (m : Mark)
      → marked_stage until class timeout (marks ++ record { clock = clock; mark = m } ∷ [])
      ≡ then_stage (mark_stage until clock m class) (marked_stage until class timeout marks)
  mark_steps marks m =
      let new : Noted = record { clock = clock; mark = m } in
      ap (λ o. closed_stage until timeout o (sent_clock (marks ++ new ∷ [])))
      (first_closing-append class timeout marks (new ∷ []))
      ∙ (ap (closed_stage until timeout (option_or (first_closing class timeout marks)
      (option_or (closing_of class timeout (sent_clock marks) m) None)))
      (sent_clock-append marks (new ∷ []) ∙ ap (option_or (sent_clock marks)) (sent_one m (is_sent m) refl))
      ∙ one_steps m (first_closing class timeout marks) (sent_clock marks))
