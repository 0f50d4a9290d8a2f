-- What an answer leaves Sent, by the rows of a dialogue.
use Rattle.std.proofs.Common.{◌≡◌, ℕ, ℤ, Bool, true, false, cond, List, [], ◌∷◌, Option, Some, None, IsSome, refl, ap, sym, ◌∙◌, subst}
use Rattle.std.proofs.lemmas.Bool.Decides.{Decides-int_eq}
use Rattle.std.proofs.lemmas.Cmp.{int_eq_equiv}
use Rattle.std.proofs.lemmas.Map.{lookup-set_value, lookup-remove_entry, keys-set_value}
use Rattle.std.specs.Prelude.{is_some}
use Rattle.std.specs.List.{AllByRecursion, IsDistinct}
use Rattle.std.specs.Map.{keys_of, set_value, remove_entry}
use Rattle.std.specs.Ordering.{int_eq}
use Rattle.tcap_component.specs.declared.problem.Kind.{Kind}
use Rattle.tcap_component.specs.declared.problem.Kind.TheVariants as kind
use Rattle.tcap_invocation.specs.declared.class.Class.{Class}
use Rattle.tcap_invocation.specs.declared.class.Class.TheVariants.{One, Two, Three, Four}
use Rattle.tcap_invocation.specs.declared.invocations.Invocation.{Invocation as Entry}
use Rattle.tcap_invocation.specs.declared.stage.Stage.TheVariants.{Waiting}
use Rattle.tcap_invocation.specs.Answers.{after_consequence, rows_after, rejected_for, rejected_number, after_reject}
use Rattle.tcap_invocation.specs.Class.{Received, Consequence, class_rule}
use Rattle.tcap_invocation.specs.Invocations.{Row, InvocationList, entry_at, passing, sent_at, without, freed}
use Rattle.tcap_invocation.specs.Stage.{is_sent}
use Rattle.tcap_model.specs.Procedures.Problems.{is_of_answer}

-- ---- the table of the classes

-- whether an invocation stays Sent
abbrev pub stays_by : Consequence → Bool
stays_by Consequence.result_last = false
stays_by Consequence.result_more = true
stays_by Consequence.error_back = false
stays_by Consequence.rejected_result = false
stays_by Consequence.rejected_error = false
stays_by Consequence.rejected = false
stays_by Consequence.not_of_the_invoke = true

abbrev pub stays : Class → Received → Bool
stays class received = stays_by (class_rule class received)

-- what is left Sent of an invocation
abbrev pub left : Received → Option Entry → Option Entry
left received None = None
left received (Some e) = cond (stays e.class received) (Some e) None

-- what comes of a Reject, by whether it is one of an answer
abbrev pub rejecting : Bool → Consequence
rejecting true = Consequence.not_of_the_invoke
rejecting false = Consequence.rejected

pub reject_rule : (class : Class) (k : Kind) → class_rule class (Received.reject k) ≡ rejecting (is_of_answer k)
reject_rule One kind.General = refl
reject_rule One kind.Invoke = refl
reject_rule One kind.Result = refl
reject_rule One kind.Error = refl
reject_rule Two kind.General = refl
reject_rule Two kind.Invoke = refl
reject_rule Two kind.Result = refl
reject_rule Two kind.Error = refl
reject_rule Three kind.General = refl
reject_rule Three kind.Invoke = refl
reject_rule Three kind.Result = refl
reject_rule Three kind.Error = refl
reject_rule Four kind.General = refl
reject_rule Four kind.Invoke = refl
reject_rule Four kind.Result = refl
reject_rule Four kind.Error = refl

-- a Reject of an answer leaves the invocation Sent, one of the Invoke doesn't
pub reject_stays : (class : Class) (k : Kind) → stays class (Received.reject k) ≡ is_of_answer k
reject_stays class k = ap stays_by (reject_rule class k) ∙ go (is_of_answer k)
  where
    go : (of : Bool) → stays_by (rejecting of) ≡ of
    go true = refl
    go false = refl

-- ---- the rows

-- the rows are still distinct, and the answer took what it closes from its identifier
pub record LeavesSent (received : Received) (id : ℤ) (rows after : List Row) : Type 0 where
  pub distinct : IsDistinct int_eq (keys_of after)
  pub sent : (named : ℤ) → sent_at after named
      ≡ cond (int_eq id named) (left received (sent_at rows named)) (sent_at rows named)

same_test : (id x y : ℤ) → int_eq id x ≡ true → int_eq id y ≡ int_eq x y
same_test id x y e = ap (λ k. int_eq k y) ((Decides-int_eq id x).0 e)

all_removed : (P : ℤ → Type 0) (test : ℤ → Bool) (rows : List Row) → AllByRecursion P (keys_of rows)
    → AllByRecursion P (keys_of (remove_entry test rows))
all_removed P test [] a = tt
all_removed P test (r ∷ rows) a = go (test r.0) (all_removed P test rows a.1)
  where
    go : (b : Bool) → AllByRecursion P (keys_of (remove_entry test rows))
        → AllByRecursion P (keys_of (cond b rows (r ∷ remove_entry test rows)))
    go true ih = a.1
    go false ih = (a.0, ih)

distinct_removed : (test : ℤ → Bool) (rows : List Row) → IsDistinct int_eq (keys_of rows)
    → IsDistinct int_eq (keys_of (remove_entry test rows))
unfolding IsDistinct
distinct_removed test [] d = tt
distinct_removed test (r ∷ rows) d = go (test r.0) (distinct_removed test rows d.1)
  where
    go : (b : Bool) → IsDistinct int_eq (keys_of (remove_entry test rows))
        → IsDistinct int_eq (keys_of (cond b rows (r ∷ remove_entry test rows)))
    go true ih = d.1
    go false ih = (all_removed (λ k. int_eq r.0 k ≡ false) test rows d.0, ih)

-- one that is Sent is in the rows
sent_inside : (o : Option Entry) (e : Entry) → passing is_sent o ≡ Some e → IsSome o
sent_inside None e w = absurd cc
sent_inside (Some y) e w = refl

module _ (rows : List Row) (id : ℤ) (received : Received) (distinct : IsDistinct int_eq (keys_of rows)) where
  -- where nothing changes
  unchanged : left received (sent_at rows id) ≡ sent_at rows id → LeavesSent received id rows rows
  unchanged e = record { distinct = distinct; sent = λ named. go named (int_eq id named) refl }
    where
      go : (named : ℤ) (b : Bool) → int_eq id named ≡ b
          → sent_at rows named ≡ cond b (left received (sent_at rows named)) (sent_at rows named)
      go named true q = subst (λ k. sent_at rows k ≡ left received (sent_at rows k)) ((Decides-int_eq id named).0 q)
          (sym e)
      go named false q = refl

  -- where the identifier's invocation isn't Sent any more
  closed : (after : List Row) (o : Option Entry) → IsDistinct int_eq (keys_of after) → passing is_sent o ≡ None
      → left received (sent_at rows id) ≡ None
      → ((named : ℤ) → entry_at after named ≡ cond (int_eq id named) o (entry_at rows named))
      → LeavesSent received id rows after
  closed after o d w e look =
      record { distinct = d; sent = λ named. ap (passing is_sent) (look named) ∙ go named (int_eq id named) refl }
    where
      go : (named : ℤ) (b : Bool) → int_eq id named ≡ b
          → passing is_sent (cond b o (entry_at rows named))
          ≡ cond b (left received (sent_at rows named)) (sent_at rows named)
      go named true q = w ∙ subst (λ k. None ≡ left received (sent_at rows k)) ((Decides-int_eq id named).0 q) (sym e)
      go named false q = refl

  module _ (e : Entry) (is : sent_at rows id ≡ Some e) where
    left_is : (b : Bool) → stays e.class received ≡ b → left received (sent_at rows id) ≡ cond b (Some e) None
    left_is b q = ap (left received) is ∙ ap (λ b. cond b (Some e) None) q

    removed : stays e.class received ≡ false → LeavesSent received id rows (without rows id)
    removed q = closed (without rows id) None (distinct_removed (int_eq id) rows distinct) refl (left_is false q)
        (λ named. lookup-remove_entry int_eq_equiv (int_eq id) (same_test id) named rows distinct)

    waiting : (until : ℕ) → stays e.class received ≡ false
        → LeavesSent received id rows (set_value (int_eq id) rows (record e { stage = Waiting until }))
    waiting until q =
        closed (set_value (int_eq id) rows w) (Some w)
        (subst (IsDistinct int_eq) (sym (keys-set_value (int_eq id) rows w)) distinct) refl (left_is false q)
        (λ named. lookup-set_value int_eq_equiv (int_eq id) (same_test id) named w rows
        (sent_inside (entry_at rows id) e is))
      where
        w : Entry
        w = record e { stage = Waiting until }

    by_consequence : (k : Consequence) (until : ℕ) → class_rule e.class received ≡ k
        → LeavesSent received id rows (after_consequence k rows id e until)
    by_consequence Consequence.result_last until q = waiting until (ap stays_by q)
    by_consequence Consequence.result_more until q = unchanged (left_is true (ap stays_by q) ∙ sym is)
    by_consequence Consequence.error_back until q = waiting until (ap stays_by q)
    by_consequence Consequence.rejected_result until q = removed (ap stays_by q)
    by_consequence Consequence.rejected_error until q = removed (ap stays_by q)
    by_consequence Consequence.rejected until q = removed (ap stays_by q)
    by_consequence Consequence.not_of_the_invoke until q = unchanged (left_is true (ap stays_by q) ∙ sym is)

  pub rows_leave : (until : ℕ) → LeavesSent received id rows (rows_after (sent_at rows id) received rows id until)
  rows_leave until = go (sent_at rows id) refl
    where
      go : (o : Option Entry) → sent_at rows id ≡ o → LeavesSent received id rows (rows_after o received rows id until)
      go None q = unchanged (ap (left received) q ∙ sym q)
      go (Some e) q = by_consequence e q (class_rule e.class received) until refl

module _ (list : InvocationList) (id : ℤ) (k : Kind) (distinct : IsDistinct int_eq (keys_of list.rows)) where
  reject_step : (e : Entry) → sent_at list.rows id ≡ Some e → (of : Bool) → is_of_answer k ≡ of
      → LeavesSent (Received.reject k) id list.rows
      (freed list id (is_some (rejected_number (rejecting of) e.number))).rows
  reject_step e is true q =
      unchanged list.rows id (Received.reject k) distinct
      (left_is list.rows id (Received.reject k) distinct e is true (reject_stays e.class k ∙ q) ∙ sym is)
  reject_step e is false q = removed list.rows id (Received.reject k) distinct e is (reject_stays e.class k ∙ q)

  pub reject_leaves : LeavesSent (Received.reject k) id list.rows (after_reject list id k).rows
  reject_leaves = go (sent_at list.rows id) refl
    where
      go : (o : Option Entry) → sent_at list.rows id ≡ o
          → LeavesSent (Received.reject k) id list.rows (freed list id (is_some (rejected_for o k))).rows
      go None q = unchanged list.rows id (Received.reject k) distinct (ap (left (Received.reject k)) q ∙ sym q)
      go (Some e) q =
          subst (λ c. LeavesSent (Received.reject k) id list.rows
          (freed list id (is_some (rejected_number c e.number))).rows)
          (sym (reject_rule e.class k)) (reject_step e q (is_of_answer k) refl)
