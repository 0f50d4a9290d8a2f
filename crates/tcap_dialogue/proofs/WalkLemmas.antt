-- One component more, before those that follow it.
use Rattle.std.proofs.Common.{◌≡◌, ◌≤◌, ℕ, ℤ, map, sym, arith, length, Ok, Err, List, [], ◌∷◌, ◌++◌, Option, Some, None, refl, ap, ◌∙◌, append_assoc}
use Rattle.tcap_component.specs.Component.{ComponentParts}
use Rattle.tcap_component.specs.Component.ComponentParts.{invoke, result_last, error_back, reject_back, result_more}
use Rattle.tcap_invocation.specs.Class.{Received}
use Rattle.tcap_invocation.specs.Closing.{ended_at}
use Rattle.tcap_invocation.proofs.CallerLemmas.{ended_at-after_received, ended_at-after_reject}
use Rattle.tcap_model.specs.Procedures.ComponentHandling.{Item, Handled, handled, subject_of, uni_told}
use Rattle.tcap_model.specs.Procedures.QueueRules.{Queued, queue_limit, queue_each}
use Rattle.tcap_model.specs.Table.Dialogue.{sent_by_rows}
use Rattle.tcap_model.specs.Table.TableMove.{Walked, walked, walked_before, reject_queued, after_item, ended_told}
use Rattle.tcap_model.specs.Words.Output.{Output, Closing, ComponentIndication}
use Rattle.tcap_invocation.specs.Invocations.{InvocationList}
use Rattle.tcap_dialogue.specs.Walking.{WalkTold, told_from, Done, done_by, done_from, with_reject}

rejects_each : (queue : List Queued) (reject : Option ComponentParts) (rejects : List Queued) →
    queue_each queue_limit (with_reject queue reject) rejects ≡ queue_each queue_limit queue (reject_queued reject ++ rejects)
rejects_each queue None rejects = refl
rejects_each queue (Some r) rejects = refl

done_before : (told : List Output) (queue : List Queued) (h : Handled) (w : Walked) →
    done_by (told ++ h.told ∷ []) (with_reject queue h.reject) w ≡ done_by told queue (walked_before h w)
done_before told queue h w =
    let told_more : (told ++ h.told ∷ []) ++ w.told ≡ told ++ (h.told ∷ w.told) = append_assoc told (h.told ∷ []) w.told in
    let queued_more = rejects_each queue h.reject w.rejects in
    let done : List Output → List Queued → Done = λ t q. record { told = t; list = w.invocations; queue = q } in
    ap (λ t. done t (queue_each queue_limit (with_reject queue h.reject) w.rejects)) told_more ∙ ap (done (told ++ (h.told ∷ w.told))) queued_more

-- A component more.
pub done_step : (dialogue clock : ℕ) (done : Done) (item : Item) (items : List Item) →
    done_from dialogue clock (record {
      told = done.told ++ (handled (Some dialogue) (sent_by_rows dialogue done.list (subject_of item)) item).told ∷ [];
      list = after_item clock done.list item;
      queue = with_reject done.queue (handled (Some dialogue) (sent_by_rows dialogue done.list (subject_of item)) item).reject;
    }) items ≡ done_from dialogue clock done (item ∷ items)
done_step dialogue clock done item items =
    done_before done.told done.queue (handled (Some dialogue) (sent_by_rows dialogue done.list (subject_of item)) item) (walked dialogue clock (after_item clock done.list item) items)

-- The same where nothing is queued.
pub told_step : (dialogue clock : ℕ) (t : WalkTold) (item : Item) (items : List Item) →
    told_from dialogue clock (record {
      told = t.told ++ (handled (Some dialogue) (sent_by_rows dialogue t.list (subject_of item)) item).told ∷ [];
      list = after_item clock t.list item;
    }) items ≡ told_from dialogue clock t (item ∷ items)
told_step dialogue clock t item items =
    let h = handled (Some dialogue) (sent_by_rows dialogue t.list (subject_of item)) item in
    let w = walked dialogue clock (after_item clock t.list item) items in
    ap (λ (os : List Output). let r : WalkTold = record { told = os; list = w.invocations } in r) (append_assoc t.told (h.told ∷ []) w.told)

-- The same by what the code says of its step.
pub done_next : (dialogue clock : ℕ) (told told_new : List Output) (list list_new : InvocationList) (queue queue_new : List Queued) (one : Output) (reject : Option ComponentParts) (item : Item) (items_new items : List Item) →
    items ≡ item ∷ items_new →
    one ≡ (handled (Some dialogue) (sent_by_rows dialogue list (subject_of item)) item).told → reject ≡ (handled (Some dialogue) (sent_by_rows dialogue list (subject_of item)) item).reject →
    told_new ≡ told ++ one ∷ [] → list_new ≡ after_item clock list item → queue_new ≡ with_reject queue reject →
    done_from dialogue clock (record { told = told_new; list = list_new; queue = queue_new }) items_new ≡ done_from dialogue clock (record { told = told; list = list; queue = queue }) items
done_next dialogue clock told told_new list list_new queue queue_new one reject item items_new items first by answered more after less =
    rw (first, more, after, less, by, answered) (done_step dialogue clock (record { told = told; list = list; queue = queue }) item items_new)

pub told_next : (dialogue clock : ℕ) (told told_new : List Output) (list list_new : InvocationList) (one : Output) (item : Item) (items_new items : List Item) →
    items ≡ item ∷ items_new → one ≡ (handled (Some dialogue) (sent_by_rows dialogue list (subject_of item)) item).told →
    told_new ≡ told ++ one ∷ [] → list_new ≡ after_item clock list item →
    told_from dialogue clock (record { told = told_new; list = list_new }) items_new ≡ told_from dialogue clock (record { told = told; list = list }) items
told_next dialogue clock told told_new list list_new one item items_new items first by more after =
    rw (first, more, after, by) (told_step dialogue clock (record { told = told; list = list }) item items_new)

-- A component leaves no more invocations to be ended.
pub ended_next : (clock : ℕ) (list : InvocationList) (item : Item) → length (ended_at (after_item clock list item).rows) ≤ length (ended_at list.rows)
ended_next clock list (Ok (invoke id linked code parameter)) = omega arith
ended_next clock list (Ok (result_last id body)) = ended_at-after_received list id Received.return_result_last clock
ended_next clock list (Ok (result_more id body)) = ended_at-after_received list id Received.return_result_not_last clock
ended_next clock list (Ok (error_back id code parameter)) = ended_at-after_received list id Received.return_error clock
ended_next clock list (Ok (reject_back None problem)) = omega arith
ended_next clock list (Ok (reject_back (Some id) problem)) = ended_at-after_reject list id problem.kind
ended_next clock list (Err f) = omega arith

-- One invocation more is told as ended.
pub tell_next : (d number : ℕ) (id : ℤ) (before after : List Output) (list rest : InvocationList) →
    after ≡ before ++ Output.component (ComponentIndication.closed d number id Closing.ended) ∷ [] → ended_at list.rows ≡ (number, id) ∷ ended_at rest.rows →
    after ++ ended_told d rest ≡ before ++ ended_told d list
tell_next d number id before after list rest more left =
    let told : Output = Output.component (ComponentIndication.closed d number id Closing.ended) in
    ap (λ (os : List Output). os ++ ended_told d rest) more
    ∙ append_assoc before (told ∷ []) (ended_told d rest)
    ∙ ap (λ (es : List (ℕ × ℤ)). before ++ map (λ e. Output.component (ComponentIndication.closed d e.0 e.1 Closing.ended)) es) (sym left)

-- One component more of a Unidirectional.
pub alone_next : (before after : List Output) (o : Output) (item : Item) (items_new items : List Item) →
    items ≡ item ∷ items_new → o ≡ (handled None None item).told → after ≡ before ++ o ∷ [] →
    after ++ uni_told items_new ≡ before ++ uni_told items
alone_next before after o item items_new items first by more =
    ap (λ (os : List Output). os ++ uni_told items_new) more
    ∙ append_assoc before (o ∷ []) (uni_told items_new)
    ∙ ap (λ (x : Output). before ++ (x ∷ uni_told items_new)) by
    ∙ ap (λ (is : List Item). before ++ uni_told is) (sym first)
