-- Events that follow one another, whose outputs are appended.
use Rattle.std.proofs.Common.{rules, ◌≡◌, ◌∙◌, refl, sym, ap, subst, false, List, [], ◌∷◌, ◌++◌, length, map, Option, Result, Ok, Err, IfOk, IfSome}
use Rattle.std.specs.Result.{is_err}
use Rattle.ber_core.specs.declared.fault.OutOfMemory.{OutOfMemory}
use Rattle.std.proofs.lemmas.List.{append-nil, flat_map_more}
use Rattle.std.proofs.lemmas.Option.{slice_get-map, slice_get_past}
use Rattle.std.specs.List.{slice_get}
use Rattle.std.specs.Option.{option_map}
use Rattle.tcap_engine.proofs.RunLemmas.{after_events-append, engine_run-append, joined, replies-append}
use Rattle.tcap_engine.proofs.StandingLemmas.{headline}
use Rattle.tcap_engine.specs.EventViews.{answered_view}
use Rattle.tcap_engine.specs.HistoryForm.{Headline, ReceivedOn, StandsOn}
use Rattle.tcap_engine.specs.Running.{EngineRan, RunsInto, StandsThroughInto, after_events, all_outputs, engine_run, outputs_in, replies}
use Rattle.tcap_engine.specs.StepForm.{EngineReceives, Moves}
use Rattle.tcap_engine.specs.declared.event.Answered.{Answered}
use Rattle.tcap_model.specs.Histories.History.{History}
use Rattle.tcap_model.specs.Replies.Reply.{reply}
use Rattle.tcap_model.specs.Table.EngineMove.{engine_move}
use Rattle.tcap_model.specs.Table.World.{World, StandsAt}
use Rattle.tcap_model.specs.Words.Answer.{Answer}
use Rattle.tcap_model.specs.Words.Event.{Event}
use Rattle.tcap_model.specs.Words.Output.{Output}
use Rattle.tcap_primitives.specs.SinkViews.{KeepsOutputs, told_since}

pub none-into : (w : World) (before : List Output) → RunsInto w [] w before before
none-into w before = record { told = sym (append-nil before); moved = refl }

pub none-through-into : (h : History) (w : World) (before : List Output) → StandsAt h w → StandsThroughInto h [] w before before
none-through-into h w before at = record { are_told = sym (append-nil before); stands = at; headline = headline h at.is_legal }

-- What an answer tells is appended to what earlier answers told.
appended : (before between after : List Output) (answers : List Answer) (answer : Answer)
    → between ≡ before ++ all_outputs answers → KeepsOutputs between after → told_since between after ≡ outputs_in answer
    → after ≡ before ++ all_outputs (answers ++ answer ∷ [])
appended before between after answers answer are kept told =
    kept ∙ ap (λ (os : List Output). between ++ os) told
    ∙ ap (λ (os : List Output). os ++ outputs_in answer) are
    ∙ flat_map_more outputs_in before answers answer

-- An event more.
pub into-more : (w : World) (es : List Event) (e : Event) (middle new : World) (before between after : List Output) (answer : Answer)
    → RunsInto w es middle before between → KeepsOutputs between after → told_since between after ≡ outputs_in answer
    → Moves (engine_move middle e) answer new → RunsInto w (es ++ e ∷ []) new before after
into-more w es e middle new before between after answer a kept told b =
    let is : engine_run w (es ++ e ∷ []) ≡ joined w es (e ∷ []) = engine_run-append w es (e ∷ []) in
    let same : answer ≡ (engine_move (engine_run w es).after e).answer = b.0 ∙ ap (λ (v : World). (engine_move v e).answer) a.moved in
    record {
      told =
          appended before between after (engine_run w es).answers (engine_move (engine_run w es).after e).answer a.told kept (told ∙ ap outputs_in same)
          ∙ ap (λ (r : EngineRan). before ++ all_outputs r.answers) (sym is);
      moved = b.1 ∙ ap (λ (v : World). (engine_move v e).after) a.moved ∙ ap (λ (r : EngineRan). r.after) (sym is);
    }

pub through-into-more : (h : History) (es : List Event) (e : Event) (middle new : World) (before between after : List Output) (answer : Answer)
    → StandsThroughInto h es middle before between → KeepsOutputs between after → told_since between after ≡ outputs_in answer
    → StandsOn (after_events h es) e answer new → StandsThroughInto h (es ++ e ∷ []) new before after
through-into-more h es e middle new before between after answer a kept told b = record {
  are_told =
      appended before between after (replies h es) (reply (after_events h es) e) a.are_told kept (told ∙ ap outputs_in b.is_reply)
      ∙ ap (λ (answers : List Answer). before ++ all_outputs answers) (sym (replies-append h es (e ∷ [])));
  stands = subst (λ (k : History). StandsAt k new) (sym (after_events-append h es (e ∷ []))) b.stands;
  headline = subst Headline (sym (after_events-append h es (e ∷ []))) b.headline;
}

-- What an answer tells is what was appended.
abbrev pub Tells : List Output → Answered → Type 0
Tells told a = told ≡ outputs_in (answered_view told a)

-- An event more was not refused.
pub into-next : (w : World) (es : List Event) (e : Event) (middle new : World) (before between after : List Output) (r : Result Answered OutOfMemory)
    → is_err r ≡ false → RunsInto w es middle before between → KeepsOutputs between after → IfOk r (Tells (told_since between after))
    → EngineReceives (answered_view (told_since between after)) r (engine_move middle e) middle new → RunsInto w (es ++ e ∷ []) new before after
into-next w es e middle new before between after (Ok a) ok ran kept told moves = into-more w es e middle new before between after (answered_view (told_since between after) a) ran kept told moves
into-next w es e middle new before between after (Err refused) ok ran kept told moves = absurd cc

pub through-into-next : (h : History) (es : List Event) (e : Event) (middle new : World) (before between after : List Output) (r : Result Answered OutOfMemory)
    → is_err r ≡ false → StandsThroughInto h es middle before between → KeepsOutputs between after → IfOk r (Tells (told_since between after))
    → ReceivedOn (answered_view (told_since between after)) r (after_events h es) e new → StandsThroughInto h (es ++ e ∷ []) new before after
through-into-next h es e middle new before between after (Ok a) ok through kept told stands = through-into-more h es e middle new before between after (answered_view (told_since between after) a) through kept told stands
through-into-next h es e middle new before between after (Err refused) ok through kept told stands = absurd cc

-- ---- where a run ends

-- Behind the last none is found.
pub ends-behind : {X : Type 0} → (P : Event → Type 0) (view : X → Event) (xs : List X) → IfSome (slice_get (map view xs) (length xs)) P
ends-behind P view xs =
    subst (λ (o : Option Event). IfSome o P) (sym (slice_get-map view xs (length xs) ∙ ap (λ (o : Option _). option_map view o) (slice_get_past xs (length xs) (search rules)))) tt
