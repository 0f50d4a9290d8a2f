-- The rows after the components of a message are what the history says after them.
use Rattle.std.proofs.Common.{◌≡◌, ℕ, ℤ, ◌+◌, Bool, true, false, cond, List, [], ◌∷◌, ◌++◌, map, Option, Some, None, Ok, Err, refl, ap, sym, ◌∙◌, subst, append_assoc}
use Rattle.std.proofs.lemmas.List.{append-nil}
use Rattle.std.specs.Prelude.{is_some}
use Rattle.std.specs.List.{AllByRecursion, IsDistinct}
use Rattle.std.specs.Map.{keys_of}
use Rattle.std.specs.Ordering.{int_eq}
use Rattle.tcap_component.specs.Component.{ComponentParts}
use Rattle.tcap_component.specs.ComponentFault.{FaultParts}
use Rattle.tcap_component.specs.Problem.{ProblemParts}
use Rattle.tcap_component.specs.declared.problem.Kind.{Kind}
use Rattle.tcap_component.specs.declared.problem.Kind.TheVariants as kind
use Rattle.tcap_invocation.specs.declared.class.Class.{Class}
use Rattle.tcap_invocation.specs.declared.stage.Stage.{Stage}
use Rattle.tcap_invocation.specs.declared.stage.Stage.TheVariants.{Waiting}
use Rattle.tcap_invocation.specs.Answers.{rejected_at, after_reject}
use Rattle.tcap_invocation.specs.Class.{Received}
use Rattle.tcap_invocation.specs.Invocations.{Row, InvocationList, freed}
use Rattle.tcap_laws.proofs.Rows.RowsAfterAnswers.{answer_moves, reject_moves}
use Rattle.tcap_laws.proofs.Rows.LeftSentByMarks.{AreRead, more_read, up_to_more}
use Rattle.tcap_laws.proofs.Rows.Restaged.{on_id, restaged, same_rows, distinct_restaged}
use Rattle.tcap_laws.proofs.Rows.RowStages.{rows_if, stage_more, stages_moved, same_stages, stage_is}
use Rattle.tcap_laws.proofs.Rows.DistinctRows.{rows_distinct}
use Rattle.tcap_laws.proofs.Rows.StagesByMarks.{marked_stage, answered_stage, reject_frees, reject_keeps, mark_stage, then_stage, mark_steps}
use Rattle.tcap_laws.proofs.Rows.ComponentsAlike.{FaultLast}
use Rattle.tcap_model.specs.Histories.Clock.{clock}
use Rattle.tcap_model.specs.Invocations.Closings.{Told}
use Rattle.tcap_model.specs.Procedures.ComponentHandling.{Item}
use Rattle.tcap_model.specs.Invocations.Decision.{decision}
use Rattle.tcap_model.specs.Replies.Held.{is_waiting}
use Rattle.tcap_model.specs.Histories.History.{Start}
use Rattle.tcap_model.specs.Invocations.Invocation.{Invocation}
use Rattle.tcap_model.specs.Replies.Legal.{AreReplies}
use Rattle.tcap_model.specs.Invocations.Marks.{Mark, Noted, marked, marks, marks_of_component, component_marks, reject_marks}
use Rattle.tcap_model.specs.Histories.Pair.{Past}
use Rattle.tcap_model.specs.Procedures.Problems.{is_of_answer}
use Rattle.tcap_model.specs.Invocations.Span.{span}
use Rattle.tcap_model.specs.Table.TableMove.{after_item, walked}
use Rattle.tcap_model.specs.Table.World.{stage_by, rows_of}
use Rattle.tcap_model.specs.Invocations.SentThere.{marks_up_to}

module _ (start : Start) (past : Past) (legal : AreReplies start past) (reject_ms dialogue : ℕ) where
  -- what an invocation is at after some components
  abbrev pub stage_up : List Item → Invocation → Option Stage
  stage_up earlier i = stage_more reject_ms past i (clock past) (marks_up_to past earlier i) (decision i.number past)

  abbrev pub rows_up : List Item → List Row
  rows_up earlier = rows_if dialogue past (stage_up earlier)

  pub rows_before : rows_of reject_ms dialogue past ≡ rows_up []
  rows_before = same_stages dialogue past start legal (λ i. stage_by reject_ms past i (decision i.number past))
      (stage_up []) (λ i f s. stage_is reject_ms past i f ∙ more i (decision i.number past))
    where
      more : (i : Invocation) (d : Option Told) → stage_more reject_ms past i (clock past) (span i past) d
          ≡ stage_more reject_ms past i (clock past) (marks_up_to past [] i) d
      more i d = ap (λ z. stage_more reject_ms past i (clock past) z d) (sym (append-nil (span i past)))

  -- ---- one component

  abbrev until : ℕ
  until = clock past + reject_ms

  module _ (earlier : List Item) (read : AreRead earlier) (c : ComponentParts) where
    -- an invocation is at the same after it
    stage_same : (i : Invocation) → marks_of_component i.id c ≡ []
        → stage_up (earlier ++ Ok c ∷ []) i ≡ stage_up earlier i
    stage_same i none =
        ap (λ z. stage_more reject_ms past i (clock past) z (decision i.number past))
        (up_to_more past earlier c i read ∙ (ap (λ z. marks_up_to past earlier i
        ++ map (λ mark. record { clock = clock past; mark = mark }) z) none
        ∙ append-nil (marks_up_to past earlier i)))

    rows_same : ((k : ℤ) → marks_of_component k c ≡ []) → rows_up earlier ≡ rows_up (earlier ++ Ok c ∷ [])
    rows_same none = same_stages dialogue past start legal (stage_up earlier) (stage_up (earlier ++ Ok c ∷ []))
        (λ i f s. sym (stage_same i (none i.id)))

    -- or a mark moves it on
    module _ (id : ℤ) (received : Received) (mark : Mark)
        (answers : (class : Class) (s : Stage) → mark_stage until (clock past) mark class s
        ≡ answered_stage until received class s)
        (marks : (k : ℤ) → marks_of_component k c ≡ cond (int_eq id k) (mark ∷ []) []) where
      waits_on : (u : ℕ) (class : Class) (b : Bool)
          → cond b (answered_stage until received class (Waiting u)) (Some (Waiting u)) ≡ Some (Waiting u)
      waits_on u class true = refl
      waits_on u class false = refl

      then_same : (o : Option Stage) → o ≡ then_stage (λ s. Some s) o
      then_same None = refl
      then_same (Some s) = refl

      then_answers : (i : Invocation) (o : Option Stage)
          → then_stage (mark_stage until (clock past) mark i.class) o
          ≡ then_stage (answered_stage until received i.class) o
      then_answers i None = refl
      then_answers i (Some s) = answers i.class s

      stage_step : (i : Invocation) (d : Option Told)
          → stage_more reject_ms past i (clock past) (marks_up_to past (earlier ++ Ok c ∷ []) i) d
          ≡ then_stage (on_id id (answered_stage until received) i.id i.class)
          (stage_more reject_ms past i (clock past) (marks_up_to past earlier i) d)
      stage_step i (Some t) = go (is_waiting reject_ms i.dialogue i.id past t)
        where
          waiting : Option Stage
          waiting = Some (Waiting (clock t.place + reject_ms))

          go : (b : Bool) → cond b waiting None ≡ then_stage (on_id id (answered_stage until received) i.id i.class)
              (cond b waiting None)
          go true = sym (waits_on (clock t.place + reject_ms) i.class (int_eq id i.id))
          go false = refl
      stage_step i None =
          ap (marked_stage until i.class i.timeout) (up_to_more past earlier c i read
          ∙ ap (λ z. before ++ map note z) (marks i.id)) ∙ go (int_eq id i.id)
        where
          before : List Noted
          before = marks_up_to past earlier i

          note : Mark → Noted
          note mark = record { clock = clock past; mark = mark }

          go : (b : Bool) → marked_stage until i.class i.timeout (before ++ map note (cond b (mark ∷ []) []))
              ≡ then_stage (λ s. cond b (answered_stage until received i.class s) (Some s))
              (marked_stage until i.class i.timeout before)
          go true = mark_steps until (clock past) i.timeout i.class before mark
              ∙ then_answers i (marked_stage until i.class i.timeout before)
          go false = ap (marked_stage until i.class i.timeout) (append-nil before)
              ∙ then_same (marked_stage until i.class i.timeout before)

      rows_step : rows_up (earlier ++ Ok c ∷ []) ≡ restaged (on_id id (answered_stage until received)) (rows_up earlier)
      rows_step = stages_moved dialogue past start legal (on_id id (answered_stage until received)) (stage_up earlier)
          (stage_up (earlier ++ Ok c ∷ [])) (λ i f s. stage_step i (decision i.number past))

  -- ---- the rows of the table

  -- the rows of a list after some components, which are distinct
  record IsAt (earlier : List Item) (list : InvocationList) : Type 0 where
    rows : list.rows ≡ rows_up earlier
    wait : list.reject_ms ≡ reject_ms
    distinct : IsDistinct int_eq (keys_of list.rows)

  module _ (earlier : List Item) (read : AreRead earlier) (list : InvocationList) (at : IsAt earlier list) where
    same_at : (c : ComponentParts) → ((k : ℤ) → marks_of_component k c ≡ []) → IsAt (earlier ++ Ok c ∷ []) list
    same_at c none = record { rows = at.rows ∙ rows_same earlier read c none; wait = at.wait; distinct = at.distinct }

    answer_at : (c : ComponentParts) (id : ℤ) (received : Received) (mark : Mark)
        → ((class : Class) (s : Stage) → mark_stage until (clock past) mark class s
        ≡ answered_stage until received class s)
        → ((k : ℤ) → marks_of_component k c ≡ cond (int_eq id k) (mark ∷ []) []) → (after : InvocationList)
        → after.reject_ms ≡ list.reject_ms
        → after.rows ≡ restaged (on_id id (answered_stage (clock past + list.reject_ms) received)) list.rows
        → IsAt (earlier ++ Ok c ∷ []) after
    answer_at c id received mark answers marks after same e = record {
      rows = e ∙ (ap (λ m. restaged (on_id id (answered_stage (clock past + m) received)) list.rows) at.wait
          ∙ (ap (restaged (on_id id (answered_stage until received))) at.rows
          ∙ sym (rows_step earlier read c id received mark answers marks)));
      wait = same ∙ at.wait;
      distinct = subst (λ z. IsDistinct int_eq (keys_of z)) (sym e)
          (distinct_restaged (on_id id (answered_stage (clock past + list.reject_ms) received)) list.rows at.distinct);
    }

    freed_wait : (id : ℤ) (b : Bool) → (freed list id b).reject_ms ≡ list.reject_ms
    freed_wait id true = refl
    freed_wait id false = refl

    -- a Reject of the Invoke
    invoke_at : (id : ℤ) (problem : ProblemParts) → is_of_answer problem.kind ≡ false
        → ((k : ℤ) → reject_marks k id problem problem.kind ≡ marked k id (Mark.reject problem))
        → IsAt (earlier ++ Ok (ComponentParts.reject_back (Some id) problem) ∷ []) (after_reject list id problem.kind)
    invoke_at id problem of marks = answer_at (ComponentParts.reject_back (Some id) problem) id
        (Received.reject problem.kind) (Mark.reject problem) (reject_frees until problem.kind of) marks
        (after_reject list id problem.kind) (freed_wait id (is_some (rejected_at list.rows id problem.kind)))
        (reject_moves list id problem.kind (clock past + list.reject_ms) at.distinct)

    -- a Reject of an answer from here
    own_at : (id : ℤ) (problem : ProblemParts) → ((k : ℤ) → reject_marks k id problem problem.kind ≡ [])
        → ((class : Class) (s : Stage) → answered_stage (clock past + list.reject_ms) (Received.reject problem.kind)
        class s ≡ Some s)
        → IsAt (earlier ++ Ok (ComponentParts.reject_back (Some id) problem) ∷ []) (after_reject list id problem.kind)
    own_at id problem marks keeps =
        let same : (after_reject list id problem.kind).rows ≡ list.rows =
        reject_moves list id problem.kind (clock past + list.reject_ms) at.distinct
        ∙ same_rows (on_id id (answered_stage (clock past + list.reject_ms) (Received.reject problem.kind)))
        list.rows (all list.rows) in
        record {
          rows = same ∙ (at.rows ∙ rows_same earlier read (ComponentParts.reject_back (Some id) problem) marks);
          wait = freed_wait id (is_some (rejected_at list.rows id problem.kind)) ∙ at.wait;
          distinct = subst (λ z. IsDistinct int_eq (keys_of z)) (sym same) at.distinct;
        }
      where
        all : (rows : List Row) → AllByRecursion (λ r.
            on_id id (answered_stage (clock past + list.reject_ms) (Received.reject problem.kind)) r.0 r.1.class
            r.1.stage ≡ Some r.1.stage) rows
        all [] = tt
        all (r ∷ rows) = (go (int_eq id r.0), all rows)
          where
            go : (b : Bool) → cond b (answered_stage (clock past + list.reject_ms) (Received.reject problem.kind)
                r.1.class r.1.stage) (Some r.1.stage) ≡ Some r.1.stage
            go true = keeps r.1.class r.1.stage
            go false = refl

    reject_at : (id : ℤ) (problem : ProblemParts) (k : Kind) → problem.kind ≡ k
        → IsAt (earlier ++ Ok (ComponentParts.reject_back (Some id) problem) ∷ []) (after_reject list id problem.kind)
    reject_at id problem kind.General e =
        invoke_at id problem (ap is_of_answer e) (λ n. ap (reject_marks n id problem) e)
    reject_at id problem kind.Invoke e =
        invoke_at id problem (ap is_of_answer e) (λ n. ap (reject_marks n id problem) e)
    reject_at id problem kind.Result e = own_at id problem (λ n. ap (reject_marks n id problem) e)
        (reject_keeps (clock past + list.reject_ms) problem.kind (ap is_of_answer e))
    reject_at id problem kind.Error e = own_at id problem (λ n. ap (reject_marks n id problem) e)
        (reject_keeps (clock past + list.reject_ms) problem.kind (ap is_of_answer e))

    item_at : (c : ComponentParts) → IsAt (earlier ++ Ok c ∷ []) (after_item (clock past) list (Ok c))
    item_at (ComponentParts.invoke id linked code parameter) =
        same_at (ComponentParts.invoke id linked code parameter) (λ k. refl)
    item_at (ComponentParts.result_last id body) =
        answer_at (ComponentParts.result_last id body) id Received.return_result_last (Mark.last body) (λ class s. refl)
        (λ k. refl)
        (after_item (clock past) list (Ok (ComponentParts.result_last id body))) refl
        (answer_moves list.rows id Received.return_result_last (clock past + list.reject_ms) at.distinct)
    item_at (ComponentParts.error_back id code parameter) =
        answer_at (ComponentParts.error_back id code parameter) id Received.return_error (Mark.error code parameter)
        (λ class s. refl) (λ k. refl)
        (after_item (clock past) list (Ok (ComponentParts.error_back id code parameter))) refl
        (answer_moves list.rows id Received.return_error (clock past + list.reject_ms) at.distinct)
    item_at (ComponentParts.reject_back None problem) = same_at (ComponentParts.reject_back None problem) (λ k. refl)
    item_at (ComponentParts.reject_back (Some id) problem) = reject_at id problem problem.kind refl
    item_at (ComponentParts.result_more id body) =
        answer_at (ComponentParts.result_more id body) id Received.return_result_not_last (Mark.more body)
        (λ class s. refl) (λ k. refl)
        (after_item (clock past) list (Ok (ComponentParts.result_more id body))) refl
        (answer_moves list.rows id Received.return_result_not_last (clock past + list.reject_ms) at.distinct)

  -- ---- all components

  -- one that can't be read means nothing
  fault_same : (earlier : List Item) (f : FaultParts) (i : Invocation) → AreRead earlier
      → marks_up_to past (earlier ++ Err f ∷ []) i ≡ marks_up_to past earlier i
  fault_same earlier f i read =
      ap (λ z. span i past ++ map (λ mark. record { clock = clock past; mark = mark }) z) (go earlier read)
    where
      go : (items : List Item) → AreRead items → component_marks i.id (items ++ Err f ∷ []) ≡ component_marks i.id items
      go [] a = refl
      go (Ok c ∷ items) a = ap (λ z. marks_of_component i.id c ++ z) (go items a)
      go (Err g ∷ items) a = absurd a

  walk_from : (items : List Item) → FaultLast items → (list : InvocationList) (earlier : List Item) → AreRead earlier
      → IsAt earlier list
      → (walked dialogue (clock past) list items).invocations
      ≡ record { reject_ms = reject_ms; rows = rows_up (earlier ++ items) }
  walk_from [] f list earlier read at =
      ap (λ m. record { reject_ms = m; rows = list.rows }) at.wait
      ∙ ap (λ z. record { reject_ms = reject_ms; rows = z }) (at.rows ∙ ap rows_up (sym (append-nil earlier)))
  walk_from (Ok c ∷ items) f list earlier read at =
      walk_from items f (after_item (clock past) list (Ok c)) (earlier ++ Ok c ∷ []) (more_read earlier c read)
      (item_at earlier read list at c)
      ∙ ap (λ z. record { reject_ms = reject_ms; rows = rows_up z }) (append_assoc earlier (Ok c ∷ []) items)
  walk_from (Err g ∷ []) f list earlier read at =
      ap (λ m. record { reject_ms = m; rows = list.rows }) at.wait
      ∙ ap (λ z. record { reject_ms = reject_ms; rows = z })
      (at.rows ∙ same_stages dialogue past start legal (stage_up earlier) (stage_up (earlier ++ Err g ∷ []))
      (λ i f s. ap (λ z. stage_more reject_ms past i (clock past) z (decision i.number past))
      (sym (fault_same earlier g i read))))
  walk_from (Err g ∷ item ∷ items) f list earlier read at = absurd f

  pub walk_at : (items : List Item) → FaultLast items
      → (walked dialogue (clock past) (record { reject_ms = reject_ms; rows = rows_of reject_ms dialogue past })
      items).invocations ≡ record { reject_ms = reject_ms; rows = rows_up items }
  walk_at items f = walk_from items f (record { reject_ms = reject_ms; rows = rows_of reject_ms dialogue past }) [] tt
      (record { rows = rows_before; wait = refl; distinct = rows_distinct start past legal reject_ms dialogue })
