-- Events that follow one another, in step form and in history form.
use Rattle.std.proofs.Common.{arith, ◌≡◌, ◌∙◌, ◌+◌, ◌-◌, ◌<◌, refl, sym, ap, subst, ℕ, List, [], ◌∷◌, ◌++◌, length, take, map, get_or}
use Rattle.std.proofs.lemmas.List.{append-nil, append_assoc, map-append, take-map, take_more}
use Rattle.tcap_engine.proofs.StandingLemmas.{headline}
use Rattle.tcap_engine.specs.HistoryForm.{Headline, StandsOn}
use Rattle.tcap_engine.specs.Running.{done, EngineRan, answered_first, engine_run, Runs, after_events, replies, StandsThrough}
use Rattle.tcap_model.specs.Histories.History.{History}
use Rattle.tcap_model.specs.Replies.Reply.{reply}
use Rattle.tcap_model.specs.Statements.EngineMoves.{with_pair}
use Rattle.tcap_model.specs.Table.EngineMove.{engine_move}
use Rattle.tcap_model.specs.Table.World.{World, StandsAt}
use Rattle.tcap_model.specs.Words.Answer.{Answer}
use Rattle.tcap_model.specs.Words.Event.{Event}

-- ---- step form

-- A run over events and then over others.
abbrev pub joined : World → List Event → List Event → EngineRan
joined w es fs = record {
  answers = (engine_run w es).answers ++ (engine_run (engine_run w es).after fs).answers;
  after = (engine_run (engine_run w es).after fs).after;
}

pub engine_run-append : (w : World) (es fs : List Event) → engine_run w (es ++ fs) ≡ joined w es fs
engine_run-append w [] fs = refl
engine_run-append w (e ∷ es) fs = ap (λ (r : EngineRan). answered_first (engine_move w e).answer r) (engine_run-append (engine_move w e).after es fs)

pub none-run : (w : World) (before : List Answer) → Runs w [] w before before
none-run w before = record { answered = sym (append-nil before); moved = refl }

pub runs-more : (w : World) (es fs : List Event) (middle new : World) (before between after : List Answer)
    → Runs w es middle before between → Runs middle fs new between after → Runs w (es ++ fs) new before after
runs-more w es fs middle new before between after a b =
    let is : engine_run w (es ++ fs) ≡ joined w es fs = engine_run-append w es fs in
    record {
      answered =
          b.answered ∙ ap (λ (xs : List Answer). xs ++ (engine_run middle fs).answers) a.answered
          ∙ append_assoc before (engine_run w es).answers (engine_run middle fs).answers
          ∙ ap (λ (v : World). before ++ ((engine_run w es).answers ++ (engine_run v fs).answers)) a.moved
          ∙ ap (λ (r : EngineRan). before ++ r.answers) (sym is);
      moved = b.moved ∙ ap (λ (v : World). (engine_run v fs).after) a.moved ∙ ap (λ (r : EngineRan). r.after) (sym is);
    }

-- ---- history form

pub after_events-append : (h : History) (es fs : List Event) → after_events h (es ++ fs) ≡ after_events (after_events h es) fs
after_events-append h [] fs = refl
after_events-append h (e ∷ es) fs = after_events-append (with_pair h e) es fs

pub replies-append : (h : History) (es fs : List Event) → replies h (es ++ fs) ≡ replies h es ++ replies (after_events h es) fs
replies-append h [] fs = refl
replies-append h (e ∷ es) fs = ap (λ (xs : List Answer). reply h e ∷ xs) (replies-append (with_pair h e) es fs)

pub none-through : (h : History) (w : World) (before : List Answer) → StandsAt h w → StandsThrough h [] w before before
none-through h w before at = record { are_replies = sym (append-nil before); stands = at; headline = headline h at.is_legal }

-- One event, whose answer is appended where room was made.
pub one-through : {X : Type 0} → (view : X → Answer) (e : Event) (x : X) (old new : World) (before between after : List X)
    → between ≡ before → after ≡ between ++ x ∷ [] → ((h : History) → StandsAt h old → StandsOn h e (view x) new)
    → (h : History) → StandsAt h old → StandsThrough h (e ∷ []) new (map view before) (map view after)
one-through view e x old new before between after room pushed s h at =
    let is : after ≡ before ++ x ∷ [] = pushed ∙ ap (λ xs. xs ++ x ∷ []) room in
    record {
      are_replies = ap (map view) is ∙ map-append view before (x ∷ []) ∙ ap (λ (a : Answer). map view before ++ a ∷ []) (s h at).is_reply;
      stands = (s h at).stands;
      headline = (s h at).headline;
    }

pub through-more : (h : History) (es fs : List Event) (middle new : World) (before between after : List Answer)
    → StandsThrough h es middle before between → StandsThrough (after_events h es) fs new between after
    → StandsThrough h (es ++ fs) new before after
through-more h es fs middle new before between after a b = record {
  are_replies =
      b.are_replies ∙ ap (λ (xs : List Answer). xs ++ replies (after_events h es) fs) a.are_replies
      ∙ append_assoc before (replies h es) (replies (after_events h es) fs)
      ∙ ap (λ (xs : List Answer). before ++ xs) (sym (replies-append h es fs));
  stands = subst (λ (k : History). StandsAt k new) (sym (after_events-append h es fs)) b.stands;
  headline = subst Headline (sym (after_events-append h es fs)) b.headline;
}

-- ---- the events that were done

-- One event more of a list.
pub one-more : {X : Type 0} → (view : X → Event) (xs : List X) (i : ℕ) (x : X) → i < length xs → x ≡ get_or xs i x
    → take (i + 1) (map view xs) ≡ take i (map view xs) ++ view x ∷ []
one-more view xs i x below is =
    take-map view (i + 1) xs ∙ ap (map view) (take_more xs i x below) ∙ map-append view (take i xs) (get_or xs i x ∷ [])
    ∙ ap (λ (es : List Event). es ++ view (get_or xs i x) ∷ []) (sym (take-map view i xs))
    ∙ ap (λ y. take i (map view xs) ++ view y ∷ []) (sym is)

-- As many were done as there are answers more.
pub through-so-far : {X : Type 0} → (h : History) (events : List Event) (i : ℕ) (old new : List X) (w : World) (before after : List Answer)
    → length new ≡ length old + i → StandsThrough h (take i events) w before after → StandsThrough h (done old new events) w before after
through-so-far h events i old new w before after count s =
    let more : length new - length old ≡ i = omega (arith, count) in
    subst (λ (n : ℕ). StandsThrough h (take n events) w before after) (sym more) s
