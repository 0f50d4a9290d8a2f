-- The components of a message tell the same by the rows of a dialogue and by its history.
use Rattle.std.proofs.Common.{◌≡◌, ℕ, zero, suc, ℤ, ◌+◌, ◌&&◌, Bool, true, false, cond, List, [], ◌∷◌, ◌++◌, map, Option, Some, None, Result, Ok, Err, refl, ap, sym, ◌∙◌}
use Rattle.std.proofs.lemmas.List.{append-nil}
use Rattle.std.specs.Prelude.{flat_map, option_to_list}
use Rattle.std.specs.List.{IsDistinct}
use Rattle.std.specs.Map.{keys_of}
use Rattle.std.specs.Ordering.{int_eq}
use Rattle.tcap_component.specs.Component.{ComponentParts}
use Rattle.tcap_component.specs.ComponentFault.{FaultParts}
use Rattle.tcap_component.specs.ComponentReading.{component_at, components_by, components_from}
use Rattle.tcap_component.specs.Problem.{ProblemParts}
use Rattle.tcap_component.specs.declared.problem.Kind.{Kind}
use Rattle.tcap_component.specs.declared.problem.Kind.TheVariants as kind
use Rattle.tcap_invocation.specs.declared.class.Class.{Class}
use Rattle.tcap_invocation.specs.declared.invocations.Invocation.{Invocation as Entry}
use Rattle.tcap_invocation.specs.Class.{Received}
use Rattle.tcap_invocation.specs.Invocations.{Row, InvocationList, sent_at}
use Rattle.tcap_laws.proofs.Spans.LatestInvocations.{id_of}
use Rattle.tcap_laws.proofs.Rows.LeftSentByRows.{stays, left, LeavesSent, reject_stays, rows_leave, reject_leaves}
use Rattle.tcap_laws.proofs.Rows.LeftSentByMarks.{AreRead, more_read, up_to_more, IsMarkOf, one_more}
use Rattle.tcap_model.specs.Histories.Clock.{clock}
use Rattle.tcap_model.specs.Procedures.ComponentHandling.{Item, Handled, SentInvocation, handled, subject_of}
use Rattle.tcap_model.specs.Table.Dialogue.{sent_of, sent_by_rows}
use Rattle.tcap_model.specs.Invocations.Invocation.{Invocation, latest}
use Rattle.tcap_model.specs.Invocations.Marks.{Mark, Noted, marks_of_component, reject_marks}
use Rattle.tcap_model.specs.Invocations.Outcome.{is_sent_in}
use Rattle.tcap_model.specs.Histories.Pair.{Past}
use Rattle.tcap_model.specs.Procedures.Problems.{is_of_answer}
use Rattle.tcap_model.specs.Replies.Queue.{handled_after, rejects_of}
use Rattle.tcap_model.specs.Procedures.QueueRules.{queued}
use Rattle.tcap_model.specs.Table.TableMove.{after_item, reject_queued, walked}
use Rattle.tcap_model.specs.Invocations.SentThere.{if_sent, marks_up_to, sent_there}
use Rattle.tcap_laws.proofs.Rows.MarksOfAnswers.{last_stays, more_stays, error_stays, mark_of_reject}
use Rattle.tcap_laws.proofs.Rows.LatestRows.{latest_has}

-- ---- one component

-- for each identifier the rows and the history have the same invocation as Sent
pub record IsLike (dialogue : ℕ) (past : Past) (rows : List Row) (earlier : List Item) : Type 0 where
  pub distinct : IsDistinct int_eq (keys_of rows)
  pub sent : (id : ℤ) → sent_of dialogue (sent_at rows id) ≡ if_sent past earlier (latest dialogue id past)

none_left : (dialogue : ℕ) (received : Received) (b : Bool) (o : Option Entry) → sent_of dialogue o ≡ None
    → sent_of dialogue (cond b (left received o) o) ≡ None
none_left dialogue received true None e = refl
none_left dialogue received false None e = refl
none_left dialogue received b (Some y) e = absurd cc

some_left : (dialogue : ℕ) (received : Received) (one : SentInvocation) (b sent : Bool) (o : Option Entry)
    → sent_of dialogue o ≡ cond sent (Some one) None
    → sent_of dialogue (cond b (left received o) o)
    ≡ cond (cond b (sent && stays one.class received) sent) (Some one) None
some_left dialogue received one false sent o e = e
some_left dialogue received one true true None e = absurd cc
some_left dialogue received one true false None e = refl
some_left dialogue received one true false (Some y) e = absurd cc
some_left dialogue received one true true (Some y) e =
    go (stays y.class received) ∙ ap (λ c. cond (stays c received) (Some one) None) class_is
  where
    here : SentInvocation
    here = record { dialogue = dialogue; number = y.number; class = y.class }

    inside : (p q : SentInvocation) → Some p ≡ Some q → p ≡ q
    inside p q w = cc

    class_is : y.class ≡ one.class
    class_is = ap (λ (s : SentInvocation). s.class) (inside here one e)

    go : (b : Bool) → sent_of dialogue (cond b (Some y) None) ≡ cond b (Some one) None
    go true = e
    go false = refl

module _ (dialogue : ℕ) (past : Past) (rows : List Row) (earlier : List Item) (read : AreRead earlier)
    (like : IsLike dialogue past rows earlier) (c : ComponentParts) where
  -- a component that means nothing for any invocation
  like_same : ((k : ℤ) → marks_of_component k c ≡ []) → (after : List Row) → IsDistinct int_eq (keys_of after)
      → ((k : ℤ) → sent_at after k ≡ sent_at rows k) → IsLike dialogue past after (earlier ++ Ok c ∷ [])
  like_same none after d same =
      record { distinct = d; sent = λ k. ap (sent_of dialogue) (same k) ∙ (like.sent k ∙ go (latest dialogue k past)) }
    where
      still : (i : Invocation) → marks_up_to past earlier i ≡ marks_up_to past (earlier ++ Ok c ∷ []) i
      still i = sym (up_to_more past earlier c i read
          ∙ (ap (λ z. marks_up_to past earlier i ++ map (λ mark. record { clock = clock past; mark = mark }) z)
          (none i.id) ∙ append-nil (marks_up_to past earlier i)))

      go : (o : Option Invocation) → if_sent past earlier o ≡ if_sent past (earlier ++ Ok c ∷ []) o
      go None = refl
      go (Some i) = ap (λ z. cond (is_sent_in i.class i.timeout z) (Some one) None) (still i)
        where
          one : SentInvocation
          one = record { dialogue = i.dialogue; number = i.number; class = i.class }

  module _ (id : ℤ) (received : Received) (mark : Mark) (answers : IsMarkOf received mark)
      (marks : (k : ℤ) → marks_of_component k c ≡ cond (int_eq id k) (mark ∷ []) []) (after : List Row)
      (leaves : LeavesSent received id rows after) where
    sent_more : (i : Invocation) → is_sent_in i.class i.timeout (marks_up_to past (earlier ++ Ok c ∷ []) i)
        ≡ cond (int_eq id i.id) (is_sent_in i.class i.timeout (marks_up_to past earlier i) && stays i.class received)
        (is_sent_in i.class i.timeout (marks_up_to past earlier i))
    sent_more i =
        ap (is_sent_in i.class i.timeout) (up_to_more past earlier c i read
        ∙ ap (λ z. before ++ map note z) (marks i.id)) ∙ go (int_eq id i.id)
      where
        before : List Noted
        before = marks_up_to past earlier i

        note : Mark → Noted
        note mark = record { clock = clock past; mark = mark }

        go : (b : Bool) → is_sent_in i.class i.timeout (before ++ map note (cond b (mark ∷ []) []))
            ≡ cond b (is_sent_in i.class i.timeout before && stays i.class received)
            (is_sent_in i.class i.timeout before)
        go true = one_more i.class i.timeout (clock past) received mark before answers
        go false = ap (is_sent_in i.class i.timeout) (append-nil before)

    like_sent : (k : ℤ) (last : Option Invocation) → latest dialogue k past ≡ last
        → sent_of dialogue (sent_at rows k) ≡ if_sent past earlier last
        → sent_of dialogue (cond (int_eq id k) (left received (sent_at rows k)) (sent_at rows k))
        ≡ if_sent past (earlier ++ Ok c ∷ []) last
    like_sent k None e w = none_left dialogue received (int_eq id k) (sent_at rows k) w
    like_sent k (Some i) e w =
        some_left dialogue received one (int_eq id k) (is_sent_in i.class i.timeout (marks_up_to past earlier i))
        (sent_at rows k) w
        ∙ (ap (λ b. cond (cond b (is_sent_in i.class i.timeout (marks_up_to past earlier i) && stays i.class received)
        (is_sent_in i.class i.timeout (marks_up_to past earlier i))) (Some one) None)
        (ap (int_eq id) (sym (id_of dialogue k i (latest_has dialogue k past i e)).1))
        ∙ ap (λ b. cond b (Some one) None) (sym (sent_more i)))
      where
        one : SentInvocation
        one = record { dialogue = i.dialogue; number = i.number; class = i.class }

    like_answer : IsLike dialogue past after (earlier ++ Ok c ∷ [])
    like_answer = record {
      distinct = leaves.distinct;
      sent =
          λ k. ap (sent_of dialogue) (leaves.sent k) ∙ like_sent k (latest dialogue k past) refl (like.sent k);
    }

-- a Reject that is none of the Invoke takes nothing
sent-kept : (received : Received) → ((class : Class) → stays class received ≡ true) → (id : ℤ) (rows after : List Row)
    → LeavesSent received id rows after → (k : ℤ) → sent_at after k ≡ sent_at rows k
sent-kept received all id rows after l k = l.sent k ∙ go (int_eq id k) (sent_at rows k)
  where
    left_all : (o : Option Entry) → left received o ≡ o
    left_all None = refl
    left_all (Some y) = ap (λ b. cond b (Some y) None) (all y.class)

    go : (b : Bool) (o : Option Entry) → cond b (left received o) o ≡ o
    go true o = left_all o
    go false o = refl

module _ (dialogue : ℕ) (past : Past) (list : InvocationList) (earlier : List Item) (read : AreRead earlier)
    (like : IsLike dialogue past list.rows earlier) where
  like_reject : (id : ℤ) (problem : ProblemParts) (k : Kind) → problem.kind ≡ k
      → IsLike dialogue past (after_item (clock past) list (Ok (ComponentParts.reject_back (Some id) problem))).rows
      (earlier ++ Ok (ComponentParts.reject_back (Some id) problem) ∷ [])
  like_reject id problem kind.General e =
      like_answer dialogue past list.rows earlier read like (ComponentParts.reject_back (Some id) problem) id
      (Received.reject problem.kind) (Mark.reject problem)
      (mark_of_reject problem (ap is_of_answer e))
      (λ n. ap (reject_marks n id problem) e) (after_item (clock past) list
      (Ok (ComponentParts.reject_back (Some id) problem))).rows (reject_leaves list id problem.kind like.distinct)
  like_reject id problem kind.Invoke e =
      like_answer dialogue past list.rows earlier read like (ComponentParts.reject_back (Some id) problem) id
      (Received.reject problem.kind) (Mark.reject problem)
      (mark_of_reject problem (ap is_of_answer e))
      (λ n. ap (reject_marks n id problem) e) (after_item (clock past) list
      (Ok (ComponentParts.reject_back (Some id) problem))).rows (reject_leaves list id problem.kind like.distinct)
  like_reject id problem kind.Result e =
      like_same dialogue past list.rows earlier read like (ComponentParts.reject_back (Some id) problem)
      (λ n. ap (reject_marks n id problem) e) (after_item (clock past) list
      (Ok (ComponentParts.reject_back (Some id) problem))).rows
      (reject_leaves list id problem.kind like.distinct).distinct
      (sent-kept (Received.reject problem.kind) (λ class. reject_stays class problem.kind ∙ ap is_of_answer e) id
      list.rows (after_item (clock past) list (Ok (ComponentParts.reject_back (Some id) problem))).rows
      (reject_leaves list id problem.kind like.distinct))
  like_reject id problem kind.Error e =
      like_same dialogue past list.rows earlier read like (ComponentParts.reject_back (Some id) problem)
      (λ n. ap (reject_marks n id problem) e) (after_item (clock past) list
      (Ok (ComponentParts.reject_back (Some id) problem))).rows
      (reject_leaves list id problem.kind like.distinct).distinct
      (sent-kept (Received.reject problem.kind) (λ class. reject_stays class problem.kind ∙ ap is_of_answer e) id
      list.rows (after_item (clock past) list (Ok (ComponentParts.reject_back (Some id) problem))).rows
      (reject_leaves list id problem.kind like.distinct))

  pub like_item : (c : ComponentParts) → IsLike dialogue past (after_item (clock past) list (Ok c)).rows
      (earlier ++ Ok c ∷ [])
  like_item (ComponentParts.invoke id linked code parameter) =
      like_same dialogue past list.rows earlier read like (ComponentParts.invoke id linked code parameter) (λ k. refl)
      list.rows like.distinct (λ k. refl)
  like_item (ComponentParts.result_last id body) =
      like_answer dialogue past list.rows earlier read like (ComponentParts.result_last id body) id
      Received.return_result_last (Mark.last body)
      (record { sends_not = refl; closes = λ class timeout sent. last_stays body class }) (λ k. refl)
      (after_item (clock past) list (Ok (ComponentParts.result_last id body))).rows
      (rows_leave list.rows id Received.return_result_last like.distinct (clock past + list.reject_ms))
  like_item (ComponentParts.error_back id code parameter) =
      like_answer dialogue past list.rows earlier read like (ComponentParts.error_back id code parameter) id
      Received.return_error (Mark.error code parameter)
      (record { sends_not = refl; closes = λ class timeout sent. error_stays code parameter class }) (λ k. refl)
      (after_item (clock past) list (Ok (ComponentParts.error_back id code parameter))).rows
      (rows_leave list.rows id Received.return_error like.distinct (clock past + list.reject_ms))
  like_item (ComponentParts.reject_back None problem) =
      like_same dialogue past list.rows earlier read like (ComponentParts.reject_back None problem) (λ k. refl)
      list.rows like.distinct (λ k. refl)
  like_item (ComponentParts.reject_back (Some id) problem) = like_reject id problem problem.kind refl
  like_item (ComponentParts.result_more id body) =
      like_answer dialogue past list.rows earlier read like (ComponentParts.result_more id body) id
      Received.return_result_not_last (Mark.more body)
      (record { sends_not = refl; closes = λ class timeout sent. more_stays class }) (λ k. refl)
      (after_item (clock past) list (Ok (ComponentParts.result_more id body))).rows
      (rows_leave list.rows id Received.return_result_not_last like.distinct (clock past + list.reject_ms))

-- ---- all components

-- only the last component may be one that can't be read
abbrev pub FaultLast : List Item → Type 0
FaultLast [] = Unit {0}
FaultLast (Ok c ∷ items) = FaultLast items
FaultLast (Err f ∷ []) = Unit {0}
FaultLast (Err f ∷ item ∷ items) = ⊥

pub fault_last : (n : ℕ) (bytes : List ℕ) → FaultLast (components_by n bytes)
unfolding components_by
fault_last n [] = tt
fault_last zero (b ∷ bytes) = tt
fault_last (suc n) (b ∷ bytes) = go (component_at (b ∷ bytes)) (λ rest. fault_last n rest)
  where
    go : (r : Result (ComponentParts × List ℕ) FaultParts) → ((rest : List ℕ) → FaultLast (components_by n rest))
        → FaultLast (components_from (components_by n) r)
    go (Ok r) more = more r.1
    go (Err f) more = tt

same_subject : (dialogue : ℕ) (past : Past) (list : InvocationList) (earlier : List Item)
    → IsLike dialogue past list.rows earlier → (o : Option ℤ)
    → sent_there dialogue past earlier o ≡ sent_by_rows dialogue list o
same_subject dialogue past list earlier like None = refl
same_subject dialogue past list earlier like (Some id) = sym (like.sent id)

pub walk_tells : (dialogue : ℕ) (past : Past) (items : List Item) → FaultLast items
    → (list : InvocationList) (earlier : List Item) → AreRead earlier → IsLike dialogue past list.rows earlier
    → map (λ (h : Handled). h.told) (handled_after dialogue past earlier items)
    ≡ (walked dialogue (clock past) list items).told
walk_tells dialogue past [] f list earlier read like = refl
walk_tells dialogue past (Ok c ∷ items) f list earlier read like =
    ap (λ s. (handled (Some dialogue) s (Ok c)).told
    ∷ map (λ (h : Handled). h.told) (handled_after dialogue past (earlier ++ Ok c ∷ []) items))
    (same_subject dialogue past list earlier like (subject_of (Ok c)))
    ∙ ap (λ z. (handled (Some dialogue) (sent_by_rows dialogue list (subject_of (Ok c))) (Ok c)).told ∷ z)
    (walk_tells dialogue past items f (after_item (clock past) list (Ok c)) (earlier ++ Ok c ∷ [])
    (more_read earlier c read) (like_item dialogue past list earlier read like c))
walk_tells dialogue past (Err g ∷ []) f list earlier read like = refl
walk_tells dialogue past (Err g ∷ item ∷ items) f list earlier read like = absurd f

-- ---- their Rejects

rejects_cons : (o : Option ComponentParts) (rest : List ComponentParts)
    → map (queued None) (option_to_list o ++ rest) ≡ reject_queued o ++ map (queued None) rest
rejects_cons None rest = refl
rejects_cons (Some c) rest = refl

pub walk_rejects : (dialogue : ℕ) (past : Past) (items : List Item) → FaultLast items
    → (list : InvocationList) (earlier : List Item) → AreRead earlier → IsLike dialogue past list.rows earlier
    → rejects_of (handled_after dialogue past earlier items) ≡ (walked dialogue (clock past) list items).rejects
walk_rejects dialogue past [] f list earlier read like = refl
walk_rejects dialogue past (Ok c ∷ items) f list earlier read like =
    let here = handled (Some dialogue) (sent_by_rows dialogue list (subject_of (Ok c))) (Ok c) in
    let others = handled_after dialogue past (earlier ++ Ok c ∷ []) items in
    ap (λ s. rejects_of (handled (Some dialogue) s (Ok c) ∷ others))
    (same_subject dialogue past list earlier like (subject_of (Ok c)))
    ∙ (rejects_cons here.reject (flat_map (λ (h : Handled). option_to_list h.reject) others)
    ∙ ap (λ z. reject_queued here.reject ++ z) (walk_rejects dialogue past items f (after_item (clock past) list (Ok c))
    (earlier ++ Ok c ∷ []) (more_read earlier c read) (like_item dialogue past list earlier read like c)))
walk_rejects dialogue past (Err g ∷ []) f list earlier read like =
    rejects_cons (handled (Some dialogue) None (Err g)).reject []
walk_rejects dialogue past (Err g ∷ item ∷ items) f list earlier read like = absurd f
