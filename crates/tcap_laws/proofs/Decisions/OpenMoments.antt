-- What a moment tells of an open invocation is what its marks decide.
use Rattle.std.proofs.Common.{◌≡◌, ℕ, ℤ, ◌+◌, ◌<◌, ◌≤◌, ◌==◌, Bool, true, false, not, cond, ◌&&◌, nat_le, nat_lt, List, [], ◌∷◌, ◌++◌, Option, Some, None, refl, ap, sym, ◌∙◌, arith}
use Rattle.std.proofs.lemmas.Bool.Decides.{nat_tests}
use Rattle.std.specs.Prelude.{flat_map, is_none, is_some, option_map}
use Rattle.std.specs.Option.{option_or}
use Rattle.tcap_laws.proofs.Decisions.ComponentTellings.{unless}
use Rattle.tcap_laws.proofs.Decisions.OpenNumbers.{wanted}
use Rattle.tcap_laws.proofs.Decisions.OpenReplies.{found_alive, Answers, silent}
use Rattle.tcap_laws.proofs.Decisions.ToldDialogues.{idle_of, idle_number}
use Rattle.tcap_laws.proofs.Decisions.ToldInvocations.{told_one, told_if_any, lapse_if_any, lapse_of, lapses_number}
use Rattle.tcap_laws.proofs.Decisions.ToldOutputs.{told, told-append}
use Rattle.tcap_laws.proofs.Decisions.ToldParts.{gain, in_turn, own}
use Rattle.tcap_laws.proofs.Spans.DecisionSteps.{closing_after-append, first_closing-append}
use Rattle.tcap_laws.proofs.Spans.IdleMoments.{legal-limited, not-idle-yet}
use Rattle.tcap_laws.proofs.Spans.MarksAfterBirth.{noted_at_clock}
use Rattle.tcap_laws.proofs.Spans.SentClocks.{at_moment, moved_life, moment_noted, moment_marks, clock_within}
use Rattle.tcap_laws.proofs.Spans.SupersededInvocations.{found_own, reused_of_number}
use Rattle.tcap_model.specs.Words.Answer.{Answer, is_accepted}
use Rattle.tcap_model.specs.Histories.Clock.{clock}
use Rattle.tcap_model.specs.Histories.History.{Start}
use Rattle.tcap_model.specs.Histories.Life.{Life, life, touched, live_in, life_by_moment}
use Rattle.tcap_model.specs.Histories.Pair.{Past}
use Rattle.tcap_model.specs.Invocations.Closes.{closing_of}
use Rattle.tcap_model.specs.Invocations.Deadline.{sent_clock}
use Rattle.tcap_model.specs.Invocations.Invocation.{Invocation, invocation_of, latest}
use Rattle.tcap_model.specs.Invocations.Marks.{Mark, Noted, marks, marks_after_birth, end_if_over}
use Rattle.tcap_model.specs.Invocations.Outcome.{closing_after, first_closing}
use Rattle.tcap_model.specs.Invocations.Reuse.{is_reused}
use Rattle.tcap_model.specs.Invocations.Span.{span}
use Rattle.tcap_model.specs.Replies.Legal.{AreReplies}
use Rattle.tcap_model.specs.Replies.Reply.{lapsing_by, lapses, is_idle_by, idle_dialogues, idle_told, moment_outputs, moment_answer}
use Rattle.tcap_model.specs.Table.World.{is_number}
use Rattle.tcap_model.specs.Words.Event.{Event}
use Rattle.tcap_model.specs.Words.Fault.{Fault}
use Rattle.tcap_model.specs.Words.Output.{Output, Closing, ComponentIndication}
use Rattle.tcap_model.specs.Words.State.{State, is_live}
use Rattle.tcap_model.specs.Words.Time.{is_idle}

-- a refused moment has no marks
refused_moment : (dialogue : ℕ) (id : ℤ) (now : ℕ) (answer : Answer) (idle_ms : ℕ) (past : Past)
    → is_accepted answer ≡ false → marks dialogue id (at_moment now answer idle_ms) past ≡ []
refused_moment dialogue id now answer idle_ms past e = go (life dialogue past)
  where
    last : ℕ
    last = touched dialogue past

    none : List Noted
    none = []

    go : (l : Life) → noted_at_clock (clock past)
        (marks_after_birth dialogue id last l (at_moment now answer idle_ms)) ≡ none
    go Life.unborn = refl
    go (Life.standing s c) = rw e refl
    go Life.over = rw e refl

-- an early moment finds no dialogue that was idle too long
not_early : (start : Start) (past : Past) (dialogue now : ℕ) → AreReplies start past → now < clock past
    → is_idle_by start.idle_ms past now dialogue ≡ false
not_early start past dialogue now legal early = go (life dialogue past) refl
  where
    stands : (s : State) (c : Option (List ℕ)) (live : Bool) → life dialogue past ≡ Life.standing s c
        → is_live s ≡ live → (live && is_idle start.idle_ms (touched dialogue past) now) ≡ false
    stands s c false q p = refl
    stands s c true q p =
        not-idle-yet start.idle_ms dialogue now past s c (legal-limited start past legal) q p (omega arith)

    go : (l : Life) → life dialogue past ≡ l
        → (live_in l && is_idle start.idle_ms (touched dialogue past) now) ≡ false
    go Life.unborn q = refl
    go (Life.standing s c) q = stands s c (is_live s) q refl
    go Life.over q = refl

module _ (start : Start) (past place : Past) (n : ℕ) (i : Invocation) (legal : AreReplies start past)
    (found : invocation_of n past ≡ Some i) (here : latest i.dialogue i.id past ≡ Some i) where
  me : (i.number == n) ≡ true
  me = own start past place n i legal found

  own_dialogue : (i.dialogue == i.dialogue) ≡ true
  own_dialogue = grind (arith, nat_tests)

  module _ (now : ℕ) where
    abbrev idle : Bool
    idle = is_idle_by start.idle_ms past now i.dialogue

    abbrev this_moment : List Noted
    this_moment = noted_at_clock (clock past) (Mark.moment now ∷ [])

    abbrev before : Option Closing
    before = first_closing i.class i.timeout (span i past)

    -- what the moment closes, and what the end of the dialogue after it
    abbrev by_moment : Option Closing
    by_moment = option_or (closing_of i.class i.timeout (sent_clock (span i past)) (Mark.moment now)) None

    abbrev by_end : Option Closing
    by_end = cond idle (Some Closing.ended) None

    ends : (S : List Noted) (l : Life) → closing_after i.class i.timeout S (noted_at_clock (clock past)
        (end_if_over l (moved_life start.idle_ms (touched i.dialogue past) now l)))
        ≡ cond (live_in l && is_idle start.idle_ms (touched i.dialogue past) now) (Some Closing.ended) None
    ends S Life.unborn = refl
    ends S Life.over = refl
    ends S (Life.standing s c) = go (is_idle start.idle_ms (touched i.dialogue past) now)
      where
        still : (live : Bool) → None ≡ cond (live && false) (Some Closing.ended) None
        still true = refl
        still false = refl

        over : (live : Bool) → closing_after i.class i.timeout S (noted_at_clock (clock past)
            (end_if_over (Life.standing s c) (cond live Life.over (Life.standing s c))))
            ≡ cond (live && true) (Some Closing.ended) None
        over true = refl
        over false = refl

        go : (b : Bool) → closing_after i.class i.timeout S (noted_at_clock (clock past)
            (end_if_over (Life.standing s c) (life_by_moment b s c)))
            ≡ cond (is_live s && b) (Some Closing.ended) None
        go true = over (is_live s)
        go false = still (is_live s)

    closing_now : closing_after i.class i.timeout (span i past) (moment_noted i.dialogue start.idle_ms past now)
        ≡ option_or by_moment by_end
    closing_now =
        closing_after-append i.class i.timeout (span i past) this_moment rest
        ∙ ap (option_or by_moment) (ends (span i past ++ this_moment) (life i.dialogue past))
      where
        rest : List Noted
        rest = noted_at_clock (clock past) (end_if_over (life i.dialogue past)
            (moved_life start.idle_ms (touched i.dialogue past) now (life i.dialogue past)))

    wanted_now : wanted place past i (moment_noted i.dialogue start.idle_ms past now)
        ≡ unless before (gain place i (option_or by_moment by_end))
    wanted_now = ap (λ o. unless before (gain place i o)) closing_now

    -- what lapses
    lapse_here : (f : Option Closing) (s : Option ℕ)
        → lapse_if_any n place past (lapsing_by now (is_some s && is_none f) i
        (option_map (λ sent. sent + i.timeout) s)) ≡ unless f
        (gain place i (option_or (closing_of i.class i.timeout s (Mark.moment now)) None))
    lapse_here (Some x) None = refl
    lapse_here (Some x) (Some q) = refl
    lapse_here None None = refl
    lapse_here None (Some q) = go (nat_le (q + i.timeout) now)
      where
        go : (b : Bool) → lapse_if_any n place past (cond b (Some (record { deadline = q + i.timeout; invocation = i }))
            None) ≡ gain place i (option_or (cond b (Some Closing.lapsed) None) None)
        go true = rw me refl
        go false = refl

    lapses_here : told n place (lapses past now) ≡ unless before (gain place i by_moment)
    lapses_here = lapses_number n place past now start legal
        ∙ (ap (told_one (lapse_of n place past now)) found ∙ lapse_here before (sent_clock (span i past)))

    -- what the end of its dialogue ends
    ended_here : (b : Bool) (f : Option Closing) → cond b (told_if_any n place
        (cond ((i.dialogue == i.dialogue) && is_none f)
        (Some (Output.component (ComponentIndication.closed i.dialogue i.number i.id Closing.ended))) None)) []
        ≡ unless f (gain place i (cond b (Some Closing.ended) None))
    ended_here true None = rw (own_dialogue, me) refl
    ended_here true (Some x) = rw own_dialogue refl
    ended_here false None = refl
    ended_here false (Some x) = refl

    idles_here : told n place (flat_map (idle_told past now) (idle_dialogues start.idle_ms past now))
        ≡ unless (option_or before by_moment) (gain place i by_end)
    idles_here = idle_number n place past now start legal start.idle_ms
        ∙ (ap (told_one (idle_of n place past now start.idle_ms)) found
        ∙ (ended_here idle (first_closing i.class i.timeout (span i past ++ this_moment))
        ∙ ap (λ f. unless f (gain place i by_end))
        (first_closing-append i.class i.timeout (span i past) this_moment)))

    -- a moment at or past the clock
    on_time : told n place (moment_outputs start.idle_ms past now)
        ≡ unless before (gain place i (option_or by_moment by_end))
    on_time =
        told-append n place (lapses past now) (flat_map (idle_told past now) (idle_dialogues start.idle_ms past now))
        ∙ in_turn place i before by_moment by_end (told n place (lapses past now))
        (told n place (flat_map (idle_told past now) (idle_dialogues start.idle_ms past now))) lapses_here idles_here

    -- a moment below the clock
    early_here : now < clock past → (f : Option Closing) (s : Option ℕ)
        → (f ≡ None → (q : ℕ) → s ≡ Some q → clock past ≤ q + i.timeout)
        → unless f (gain place i (option_or (option_or (closing_of i.class i.timeout s (Mark.moment now)) None) None))
        ≡ []
    early_here early (Some x) s bound = refl
    early_here early None None bound = refl
    early_here early None (Some q) bound = go (nat_le (q + i.timeout) now) refl
      where
        go : (b : Bool) → nat_le (q + i.timeout) now ≡ b
            → gain place i (option_or (option_or (cond b (Some Closing.lapsed) None) None) None) ≡ []
        go false e = refl
        go true e = let within : clock past ≤ q + i.timeout = bound refl q refl in absurd (grind (arith, nat_tests))

  unused : is_reused i past ≡ false
  unused = reused_of_number start past n i legal found ∙ (ap (λ o. not (is_number n o)) here ∙ ap not me)

  by_clock : (now : ℕ) (b : Bool) → nat_lt now (clock past) ≡ b
      → Answers start past place n i legal found here (Event.moment now)
      (cond b (Answer.outputs []) (Answer.outputs (moment_outputs start.idle_ms past now)))
  by_clock now true q =
      let early : now < clock past = grind (arith, nat_tests) in
      let never : is_idle_by start.idle_ms past now i.dialogue ≡ false =
      not_early start past i.dialogue now legal early in
      sym (ap (wanted place past i) (moment_marks i.dialogue i.id now (Answer.outputs []) start.idle_ms past refl
      (found_alive start past n i legal found))
      ∙ (wanted_now now ∙ (ap (λ b. unless (before now)
      (gain place i (option_or (by_moment now) (cond b (Some Closing.ended) None)))) never
      ∙ early_here now early (before now) (sent_clock (span i past))
      (λ none s sent. clock_within i past s (ap is_some (found_own start past n i legal found)) unused none sent))))
  by_clock now false q =
      on_time now ∙ (sym (wanted_now now)
      ∙ ap (wanted place past i) (sym (moment_marks i.dialogue i.id now
      (Answer.outputs (moment_outputs start.idle_ms past now)) start.idle_ms past refl
      (found_alive start past n i legal found))))

  pub on_moment : (now : ℕ) (f : Option Fault) → Answers start past place n i legal found here (Event.moment now)
      (moment_answer start.idle_ms past now f)
  on_moment now (Some f) =
      silent start past place n i legal found here (Event.moment now) (Answer.refused f) refl
      (refused_moment i.dialogue i.id now (Answer.refused f) start.idle_ms past refl)
  on_moment now None = by_clock now (nat_lt now (clock past)) refl
