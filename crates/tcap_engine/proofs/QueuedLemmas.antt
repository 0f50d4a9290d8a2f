-- A request that queues a component and frees no identifier leaves the next timer of its dialogue.
use Rattle.std.proofs.Common.{◌≡◌, Bool, true, false, nat_lt, List, [], ◌∷◌, ◌++◌, Option, Some, None, Result, Ok, Err, refl, ap, sym, ◌∙◌, if◌then◌else◌}
use Rattle.std.specs.List.{cons_option}
use Rattle.tcap_dialogue.proofs.CallerLemmas.{refused-same}
use Rattle.tcap_dialogue.specs.AskViews.{accepted_outcome}
use Rattle.tcap_dialogue.specs.RequestForm.{Answers}
use Rattle.tcap_dialogue.specs.StepViews.{Outcome, outcome}
use Rattle.tcap_dialogue.specs.Timers.{earliest}
use Rattle.tcap_dialogue.specs.declared.dialogue.requests.Accepted.{Accepted}
use Rattle.tcap_dialogue.specs.declared.dialogue.requests.Accepted.TheVariants as asked
use Rattle.tcap_engine.specs.Lapsing.{timer_of}
use Rattle.tcap_engine.specs.RequestInTable.{ends_dialogue, keeps_timer}
use Rattle.tcap_invocation.specs.Invocations.{Row, added}
use Rattle.tcap_invocation.specs.Order.{in_order_by, first_of}
use Rattle.tcap_invocation.specs.Timers.{time_of, times_of}
use Rattle.tcap_model.specs.Procedures.ComponentRequest.{queued_for}
use Rattle.tcap_model.specs.Procedures.QueueRules.{Queued}
use Rattle.tcap_model.specs.Procedures.Refusals.{due_on}
use Rattle.tcap_model.specs.Table.Dialogue.{Dialogue, idle_end, with_invocations}
use Rattle.tcap_model.specs.Table.TableMove.{Setting, Moved, DialogueEvent, table_move, requested_by, situation, accepted, with_queued, left_standing}
use Rattle.tcap_model.specs.Words.Answer.{Answer}
use Rattle.tcap_model.specs.Words.Fault.{Fault}
use Rattle.tcap_model.specs.Words.Output.{Output}
use Rattle.tcap_model.specs.Words.Request.{Request, ComponentRequest}
use Rattle.tcap_primitives.specs.FaultViews.{fault_view}
use Rattle.tcap_primitives.specs.declared.fault.Fault as primitives

-- A row without a timer behind the others adds none.
times-behind : (rows : List Row) (r : Row) → time_of r.1.stage ≡ None → times_of (rows ++ r ∷ []) ≡ times_of rows
times-behind [] r e = rw e refl
times-behind (q ∷ rows) r e = ap (cons_option (time_of q.1.stage)) (times-behind rows r e)

timer-queued : (d : Dialogue) (c : Option Queued) → timer_of (with_queued d c) ≡ timer_of d
timer-queued d None = refl
timer-queued d (Some c) = refl

-- The dialogue stands after the move, with the same timer.
abbrev IsAlike : Dialogue → Moved → Type 0
IsAlike d m = (left_standing m ≡ Some m.after) × (timer_of m.after ≡ timer_of d)

accepted-alike : (s : Setting) (d : Dialogue) (r : Request) → keeps_timer r ≡ true → IsAlike d (accepted s d r)
accepted-alike s d (Request.component (ComponentRequest.invoke id class code parameter linked timeout)) e = (
  refl,
  timer-queued (with_invocations d (added d.invocations id s.number class timeout)) (queued_for s.number (Request.component (ComponentRequest.invoke id class code parameter linked timeout)))
      ∙ ap (λ ts. earliest (first_of (in_order_by nat_lt ts)) (idle_end d)) (times-behind d.invocations.rows _ refl),
)
accepted-alike s d (Request.component (ComponentRequest.result_last id body)) e =
    (refl, timer-queued d (queued_for s.number (Request.component (ComponentRequest.result_last id body))))
accepted-alike s d (Request.component (ComponentRequest.result_more id body)) e =
    (refl, timer-queued d (queued_for s.number (Request.component (ComponentRequest.result_more id body))))
accepted-alike s d (Request.component (ComponentRequest.error_back id code parameter)) e =
    (refl, timer-queued d (queued_for s.number (Request.component (ComponentRequest.error_back id code parameter))))
accepted-alike s d (Request.component (ComponentRequest.u_reject id problem)) e = absurd cc
accepted-alike s d (Request.component (ComponentRequest.u_cancel id)) e = absurd cc
accepted-alike s d (Request.dialogue request) e = absurd cc

moved-alike : (s : Setting) (d : Dialogue) (r : Request) → keeps_timer r ≡ true → IsAlike d (table_move s d (DialogueEvent.request r))
unfolding table_move
moved-alike s d r e = go (due_on (situation s d r) r)
  where
    go : (o : Option Fault) → IsAlike d (requested_by s d r o)
    go (Some f) = (refl, refl)
    go None = accepted-alike s d r e

some-same : (a b : Dialogue) → Some a ≡ Some b → a ≡ b
some-same a b e = cc

-- What was answered where the dialogue stands after it.
stands-asked : (told : List Output) (a : Accepted) (new after : Dialogue) → (accepted_outcome told a new).1 ≡ Some after → (ends_dialogue a ≡ false) × (new ≡ after)
stands-asked told (asked.Number number) new after e = (refl, some-same new after e)
stands-asked told asked.Done new after e = (refl, some-same new after e)
stands-asked told (asked.GivenUp number) new after e = (refl, some-same new after e)
stands-asked told (asked.Step over) new after e = go over e
  where
    go : (b : Bool) → (if b then None else Some new) ≡ Some after → (b ≡ false) × (new ≡ after)
    go true e = absurd cc
    go false e = (refl, some-same new after e)

pub timer-asked : (s : Setting) (r : Request) (old new : Dialogue) (told : List Output) (a : Accepted) → keeps_timer r ≡ true → accepted_outcome told a new ≡ outcome (table_move s old (DialogueEvent.request r))
    → (ends_dialogue a ≡ false) × (timer_of new ≡ timer_of old)
timer-asked s r old new told a keeps is =
    let m : Moved = table_move s old (DialogueEvent.request r) in
    let alike : IsAlike old m = moved-alike s old r keeps in
    let left = stands-asked told a new m.after (ap (λ (o : Outcome). o.1) is ∙ alike.0) in
    (left.0, ap timer_of left.1 ∙ alike.1)

-- The same by what the request's own call answers.
pub timer-answered : {T : Type 0} (view : T → Answer) (result : Result T primitives.Fault) (s : Setting) (r : Request) (old new : Dialogue) → keeps_timer r ≡ true → Answers view result (outcome (table_move s old (DialogueEvent.request r))) old new
    → timer_of new ≡ timer_of old
timer-answered view (Ok x) s r old new keeps is =
    let m : Moved = table_move s old (DialogueEvent.request r) in
    let alike : IsAlike old m = moved-alike s old r keeps in
    let same : new ≡ m.after = some-same new m.after (sym (ap (λ (o : Outcome). o.1) is) ∙ alike.0) in
    ap timer_of same ∙ alike.1
timer-answered view (Err f) s r old new keeps is = ap timer_of (refused-same s r old new (fault_view f) is)
