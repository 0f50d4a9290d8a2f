-- What a run of calls takes from a station, and what waits then.
use Rattle.std.proofs.Common.{◌≡◌, ℕ, List, [], ◌∷◌, ◌++◌, drop, refl, sym, ap, ◌∙◌, subst}
use Rattle.std.proofs.lemmas.List.{append-nil, append_assoc}
use Rattle.tcap_engine.specs.Running.{after_events, engine_run, outputs_in, replies}
use Rattle.tcap_laws.proofs.CallerLemmas.{moves-alike}
use Rattle.tcap_model.specs.Histories.History.{History}
use Rattle.tcap_model.specs.Replies.Reply.{reply}
use Rattle.tcap_model.specs.Statements.EngineMoves.{with_pair}
use Rattle.tcap_model.specs.Table.EngineMove.{engine_move}
use Rattle.tcap_model.specs.Table.World.{World, StandsAt}
use Rattle.tcap_model.specs.Words.Answer.{Answer}
use Rattle.tcap_model.specs.Words.Event.{Event}
use Rattle.tcap_station.specs.Runs.{AreInRange, EachIsTakenAfter, EachIsTakenOnce, IsTakenOnce, all_numbered, count_after}
use Rattle.tcap_station.specs.Runs.Run.{accepts, begins, refuses, takes}
use Rattle.tcap_station.specs.Station.{StationState, following, with_event, without_first}
use Rattle.tcap_station.specs.WaitingOutput.{WaitingOutput, numbered_outputs}

-- ---- one event more

module _ (event : Event) where
  -- The engine moves once more.
  pub run-after : (w : World) (events : List Event)
      → (engine_run w (events ++ event ∷ [])).after ≡ (engine_move (engine_run w events).after event).after
  run-after w [] = refl
  run-after w (e ∷ events) = run-after (engine_move w e).after events

  -- It answers once more.
  pub run-answers : (w : World) (events : List Event)
      → (engine_run w (events ++ event ∷ [])).answers ≡ (engine_run w events).answers ++ (engine_move (engine_run w events).after event).answer ∷ []
  run-answers w [] = refl
  run-answers w (e ∷ events) = ap (λ (rest : List Answer). (engine_move w e).answer ∷ rest) (run-answers (engine_move w e).after events)

-- What an answer more sends and tells is numbered behind the others.
pub numbered-more : (before : ℕ) (answers : List Answer) (answer : Answer)
    → all_numbered before (answers ++ answer ∷ []) ≡ all_numbered before answers ++ numbered_outputs (following (count_after before answers)) (outputs_in answer)
numbered-more before [] answer = append-nil (numbered_outputs (following before) (outputs_in answer))
numbered-more before (a ∷ answers) answer =
    ap (λ (ws : List WaitingOutput). numbered_outputs (following before) (outputs_in a) ++ ws) (numbered-more (following before) answers answer)
    ∙ sym (append_assoc (numbered_outputs (following before) (outputs_in a)) (all_numbered (following before) answers) (numbered_outputs (following (count_after (following before) answers)) (outputs_in answer)))

-- An answer more is counted.
pub count-more : (before : ℕ) (answers : List Answer) (answer : Answer) → count_after before (answers ++ answer ∷ []) ≡ following (count_after before answers)
count-more before [] answer = refl
count-more before (a ∷ answers) answer = count-more (following before) answers answer

-- ---- each run

accepted : (first : StationState) (taken : List WaitingOutput) (events : List Event) (s : StationState) (event : Event)
    → IsTakenOnce first taken events s → IsTakenOnce first taken (events ++ event ∷ []) (with_event (engine_move s.engine event) s)
accepted first taken events s event h =
    let ran = engine_run first.engine events in
    let answer = (engine_move ran.after event).answer in
    let same : (engine_move s.engine event).answer ≡ answer = ap (λ (w : World). (engine_move w event).answer) h.engine in
    let answers = run-answers event first.engine events in
    record {
      in_order =
          sym (append_assoc taken s.waiting (numbered_outputs (following s.events) (outputs_in (engine_move s.engine event).answer)))
          ∙ ap (λ (ws : List WaitingOutput). ws ++ numbered_outputs (following s.events) (outputs_in (engine_move s.engine event).answer)) h.in_order
          ∙ ap (λ (a : Answer). all_numbered first.events ran.answers ++ numbered_outputs (following s.events) (outputs_in a)) same
          ∙ ap (λ (n : ℕ). all_numbered first.events ran.answers ++ numbered_outputs (following n) (outputs_in answer)) h.counted
          ∙ sym (numbered-more first.events ran.answers answer)
          ∙ ap (all_numbered first.events) (sym answers);
      engine = ap (λ (w : World). (engine_move w event).after) h.engine ∙ sym (run-after event first.engine events);
      counted = ap following h.counted ∙ sym (count-more first.events ran.answers answer) ∙ ap (count_after first.events) (sym answers);
    }

taken-next : (first : StationState) (taken : List WaitingOutput) (events : List Event) (s : StationState) (w : WaitingOutput) (rest : List WaitingOutput)
    → s.waiting ≡ w ∷ rest → IsTakenOnce first taken events s → IsTakenOnce first (taken ++ w ∷ []) events (without_first s)
taken-next first taken events s w rest is h = record {
  in_order =
      ap (λ (ws : List WaitingOutput). (taken ++ w ∷ []) ++ drop 1 ws) is
      ∙ append_assoc taken (w ∷ []) rest
      ∙ ap (λ (ws : List WaitingOutput). taken ++ ws) (sym is)
      ∙ h.in_order;
  engine = h.engine;
  counted = h.counted;
}

pub each_is_taken_once : EachIsTakenOnce
each_is_taken_once first taken events s none begins = record { in_order = none; engine = refl; counted = refl }
each_is_taken_once first taken events s none (accepts taken' events' s' event run is) =
    accepted first taken' events' s' event (each_is_taken_once first taken' events' s' none run)
each_is_taken_once first taken events s none (takes taken' events' s' w rest run is) =
    taken-next first taken' events' s' w rest is (each_is_taken_once first taken' events' s' none run)
each_is_taken_once first taken events s none (refuses taken' events' s' run) = each_is_taken_once first taken' events' s' none run

-- ---- in a history

-- To events after a history an engine answers the replies, and stands at the history with them.
answers-all : (h : History) (w : World) (events : List Event) → AreInRange events → StandsAt h w
    → ((engine_run w events).answers ≡ replies h events) × StandsAt (after_events h events) (engine_run w events).after
answers-all h w [] within at = (refl, at)
answers-all h w (event ∷ events) within at =
    let alike = moves-alike h w event at within.0 in
    let rest = answers-all (with_pair h event) (engine_move w event).after events within.1 alike.stands in (
      ap (λ (a : Answer). a ∷ (engine_run (engine_move w event).after events).answers) alike.answers
          ∙ ap (λ (answers : List Answer). reply h event ∷ answers) rest.0,
      rest.1,
    )

pub each_is_taken_after : EachIsTakenAfter
each_is_taken_after h first taken events s none at within run =
    let once = each_is_taken_once first taken events s none run in
    let all = answers-all h first.engine events within at in
    record {
      in_order = once.in_order ∙ ap (all_numbered first.events) all.0;
      stands = subst (StandsAt (after_events h events)) (sym once.engine) all.1;
    }
