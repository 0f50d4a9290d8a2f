-- A moment below the clock closes nothing and frees nothing.
use Rattle.std.proofs.Common.{◌≡◌, ℕ, ℤ, ◌+◌, ◌-◌, ◌<◌, ◌≤◌, ◌==◌, Bool, true, false, not, cond, ◌&&◌, ◌||◌, nat_le, max, List, [], ◌∷◌, ◌++◌, length, Option, Some, None, refl, ap, sym, ◌∙◌, arith, length-append}
use Rattle.std.proofs.lemmas.Bool.Decides.{nat_tests}
use Rattle.std.proofs.lemmas.List.{append-nil}
use Rattle.std.specs.Prelude.{find, is_some, option_map, take}
use Rattle.std.specs.Option.{option_or}
use Rattle.std.specs.List.{list_any}
use Rattle.tcap_invocation.specs.declared.class.Class.{Class}
use Rattle.tcap_laws.proofs.Spans.DecisionSteps.{first_closing-append, made_found, closing_of_decision, decision_place}
use Rattle.tcap_laws.proofs.Spans.SpanSteps.{span_grows, span_stays, reused_step, none_before}
use Rattle.tcap_model.specs.Words.Answer.{Answer, is_accepted}
use Rattle.tcap_model.specs.Histories.Clock.{clock}
use Rattle.tcap_model.specs.Invocations.Closes.{closing_of}
use Rattle.tcap_model.specs.Invocations.Closings.{Told}
use Rattle.tcap_model.specs.Invocations.Deadline.{sent_clock, deadline}
use Rattle.tcap_model.specs.Invocations.Decision.{decided_of, decided_at, decision, told_outcome}
use Rattle.tcap_model.specs.Words.Event.{Event}
use Rattle.tcap_model.specs.Replies.Held.{held, held_by, holds_identifier, is_waiting, is_rejectable, pair_ends_wait, since}
use Rattle.tcap_model.specs.Invocations.Invocation.{Invocation, invoked_by, invocations, invocation_of, has_id, latest}
use Rattle.tcap_model.specs.Histories.Life.{Life, life, touched, life_by_moment}
use Rattle.tcap_model.specs.Invocations.Marks.{Mark, Noted, end_if_over}
use Rattle.tcap_model.specs.Invocations.Outcome.{first_closing, outcome_of, outcome}
use Rattle.tcap_model.specs.Words.Output.{Closing}
use Rattle.tcap_model.specs.Histories.Pair.{Pair, Past, AreLimited}
use Rattle.tcap_model.specs.Invocations.Reuse.{is_reused}
use Rattle.tcap_model.specs.Invocations.Span.{is_invoked, span}
use Rattle.std.proofs.Math.Seq.{take-append_seam}
use Rattle.tcap_laws.proofs.Spans.MarksAfterBirth.{was_alive, noted_at_clock, no_marks}
use Rattle.tcap_laws.proofs.Spans.IdleMoments.{not-idle-yet}
use Rattle.tcap_laws.proofs.Spans.SentClocks.{sent_clock-append, at_moment, moved_life, moment_noted, moment_marks, moment_life, clock_within}
use Rattle.tcap_model.specs.Words.State.{is_live}
use Rattle.tcap_model.specs.Words.Time.{is_idle}

-- ---- a moment below the clock

closes_not : (class : Class) (c timeout now : ℕ) (S : List Noted) → now < c
    → (first_closing class timeout S ≡ None → (q : ℕ) → sent_clock S ≡ Some q → c ≤ q + timeout)
    → first_closing class timeout (S ++ record { clock = c; mark = Mark.moment now } ∷ [])
    ≡ first_closing class timeout S
closes_not class c timeout now S early bound =
    first_closing-append class timeout S (record { clock = c; mark = Mark.moment now } ∷ [])
    ∙ go (first_closing class timeout S) (sent_clock S) refl refl
  where
    last : (k : ℕ) (b : Bool) → nat_le (k + timeout) now ≡ b → c ≤ k + timeout
        → option_or (cond b (Some Closing.lapsed) None) None ≡ None
    last k true q within = absurd (grind (arith, nat_tests))
    last k false q within = refl

    go : (o : Option Closing) (s : Option ℕ) → first_closing class timeout S ≡ o → sent_clock S ≡ s
        → option_or o (option_or (closing_of class timeout s (Mark.moment now)) None) ≡ o
    go (Some x) s p q = refl
    go None None p q = refl
    go None (Some k) p q = last k (nat_le (k + timeout) now) refl (bound p k q)

sent_still : (S : List Noted) (c now : ℕ) → sent_clock (S ++ record { clock = c; mark = Mark.moment now } ∷ [])
    ≡ sent_clock S
sent_still S c now = sent_clock-append S (record { clock = c; mark = Mark.moment now } ∷ []) ∙ go (sent_clock S)
  where
    go : (o : Option ℕ) → option_or o None ≡ o
    go None = refl
    go (Some k) = refl

module _ (idle_ms : ℕ) (past : Past) (limited : AreLimited idle_ms past) (now : ℕ) (answer : Answer)
    (accepted : is_accepted answer ≡ true) (early : now < clock past)
  where
    abbrev earlier : Past
    earlier = at_moment now answer idle_ms ∷ past

    -- no dialogue has been idle too long
    moved_still : (dialogue : ℕ) (l : Life) → life dialogue past ≡ l
        → moved_life idle_ms (touched dialogue past) now l ≡ l
    moved_still dialogue Life.unborn is = refl
    moved_still dialogue (Life.standing s c) is = go (is_live s) refl
      where
        go : (b : Bool) → is_live s ≡ b
            → life_by_moment (is_idle idle_ms (touched dialogue past) now) s c ≡ Life.standing s c
        go true live = ap (λ (idle : Bool). life_by_moment idle s c)
            (not-idle-yet idle_ms dialogue now past s c limited is live (omega (arith, early)))
        go false live = not_live (is_idle idle_ms (touched dialogue past) now)
          where
            not_live : (idle : Bool) → life_by_moment idle s c ≡ Life.standing s c
            not_live false = refl
            not_live true = rw live refl
    moved_still dialogue Life.over is = refl

    no_end_of : (l : Life) → end_if_over l l ≡ []
    no_end_of Life.unborn = refl
    no_end_of (Life.standing s c) = refl
    no_end_of Life.over = refl

    pub life_still : (dialogue : ℕ) → life dialogue earlier ≡ life dialogue past
    life_still dialogue =
        moment_life dialogue now answer idle_ms past accepted ∙ moved_still dialogue (life dialogue past) refl

    moment_alone : (dialogue : ℕ)
        → moment_noted dialogue idle_ms past now ≡ record { clock = clock past; mark = Mark.moment now } ∷ []
    moment_alone dialogue =
        ap (λ ms. noted_at_clock (clock past) (Mark.moment now ∷ ms))
        (ap (end_if_over (life dialogue past)) (moved_still dialogue (life dialogue past) refl)
        ∙ no_end_of (life dialogue past))

    pub clock_still : clock earlier ≡ clock past
    clock_still = rw accepted (omega arith)

    pub invocations_still : invocations earlier ≡ invocations past
    invocations_still = append-nil (invocations past)

    -- a span is as it was, or has the moment more
    pub earlier_closing : (i : Invocation) → is_some (invocation_of i.number past) ≡ true
        → (first_closing i.class i.timeout (span i earlier) ≡ first_closing i.class i.timeout (span i past))
        × (sent_clock (span i earlier) ≡ sent_clock (span i past))
    earlier_closing i made = go (is_reused i earlier) (was_alive (life i.dialogue past)) refl refl
      where
        go : (u b : Bool) → is_reused i earlier ≡ u → was_alive (life i.dialogue past) ≡ b
            → (first_closing i.class i.timeout (span i earlier) ≡ first_closing i.class i.timeout (span i past))
            × (sent_clock (span i earlier) ≡ sent_clock (span i past))
        go true b p q = let same =
            span_stays i (at_moment now answer idle_ms) past made p in
            (ap (first_closing i.class i.timeout) same, ap sent_clock same)
        go false false p q =
            let same : span i earlier ≡ span i past =
            span_grows i (at_moment now answer idle_ms) past made p
            ∙ (ap (λ z. span i past ++ z) (no_marks i.dialogue i.id (at_moment now answer idle_ms) past q)
            ∙ append-nil (span i past)) in
            (ap (first_closing i.class i.timeout) same, ap sent_clock same)
        go false true p q =
            let before = (none_before (is_reused i past)
            (is_invoked (has_id i.dialogue i.id) (invoked_by (at_moment now answer idle_ms)))
            (sym (reused_step i (at_moment now answer idle_ms) past made) ∙ p)).0 in
            let more : span i earlier ≡ span i past ++ record { clock = clock past; mark = Mark.moment now } ∷ [] =
            span_grows i (at_moment now answer idle_ms) past made p
            ∙ ap (λ z. span i past ++ z) (moment_marks i.dialogue i.id now answer idle_ms past accepted q
            ∙ moment_alone i.dialogue) in (
              ap (first_closing i.class i.timeout) more ∙ closes_not i.class (clock past) i.timeout now (span i past)
                  early (λ x k y. clock_within i past k made before x y),
              ap sent_clock more ∙ sent_still (span i past) (clock past) now,
            )

    pub invocation_still : (n : ℕ) → invocation_of n earlier ≡ invocation_of n past
    invocation_still n = ap (find (λ (i : Invocation). i.number == n)) invocations_still

    pub outcome_still : (n : ℕ) → outcome n earlier ≡ outcome n past
    outcome_still n = ap (λ o. outcome_of o earlier) (invocation_still n) ∙ go (invocation_of n past) refl
      where
        go : (o : Option Invocation) → invocation_of n past ≡ o → outcome_of o earlier ≡ outcome_of o past
        go None q = refl
        go (Some i) q = (earlier_closing i (made_found n past i q)).0

    pub deadline_still : (i : Invocation) → is_some (invocation_of i.number past) ≡ true
        → deadline i earlier ≡ deadline i past
    deadline_still i made = ap (option_map (λ sent. sent + i.timeout)) (earlier_closing i made).1

    decided_not : (n : ℕ) → outcome n past ≡ None → decided_at n earlier ≡ None
    decided_not n e = go (invocation_of n earlier) refl
      where
        go : (o : Option Invocation) → invocation_of n earlier ≡ o → decided_of earlier o ≡ None
        go None q = refl
        go (Some i) q = ap (told_outcome earlier i) (ap (λ o. outcome_of o earlier) (sym q) ∙ (outcome_still n ∙ e))

    pub decision_still : (n : ℕ) → decision n earlier ≡ decision n past
    decision_still n = go (decision n past) (closing_of_decision n past)
      where
        go : (d : Option Told) → option_map (λ (t : Told). t.closing) d ≡ outcome n past
            → option_or d (decided_at n earlier) ≡ d
        go (Some t) e = refl
        go None e = decided_not n (sym e)

-- ---- a wait

pub since_end : (newer place : Past) → since place (newer ++ place) ≡ newer
since_end newer place =
    let count : length (newer ++ place) - length place ≡ length newer = omega (arith, length-append newer place) in
    ap (λ k. take k (newer ++ place)) count ∙ take-append_seam newer place

or_true : (b : Bool) → (b || true) ≡ true
or_true true = refl
or_true false = refl

abbrev pair_of : Event → Answer → ℕ → Pair
pair_of event answer idle_ms = record { event = event; answer = answer; idle_ms = idle_ms }

reached_step : (event : Event) (answer : Answer) (idle_ms : ℕ) (past : Past) (until now dialogue : ℕ) (id : ℤ)
    (rest : Bool) → until ≤ now → now < clock (pair_of event answer idle_ms ∷ past)
    → (now < clock past → rest ≡ true)
    → (pair_ends_wait until dialogue id (pair_of event answer idle_ms) || rest) ≡ true
reached_step Event.new_dialogue answer idle_ms past until now dialogue id rest at early more =
    ap (λ b. pair_ends_wait until dialogue id (pair_of Event.new_dialogue answer idle_ms) || b)
    (more early) ∙ or_true (pair_ends_wait until dialogue id (pair_of Event.new_dialogue answer idle_ms))
reached_step (Event.on_dialogue d r) answer idle_ms past until now dialogue id rest at early more =
    ap (λ b. pair_ends_wait until dialogue id (pair_of (Event.on_dialogue d r) answer idle_ms) || b)
    (more early) ∙ or_true (pair_ends_wait until dialogue id
    (pair_of (Event.on_dialogue d r) answer idle_ms))
reached_step (Event.received from bytes) answer idle_ms past until now dialogue id rest at early more =
    ap (λ b. pair_ends_wait until dialogue id (pair_of (Event.received from bytes) answer idle_ms) || b)
    (more early) ∙ or_true (pair_ends_wait until dialogue id (pair_of (Event.received from bytes) answer idle_ms))
reached_step (Event.moment m) answer idle_ms past until now dialogue id rest at early more =
    go (is_accepted answer) (nat_le until m) refl refl
  where
    same_clock : is_accepted answer ≡ false → now < clock past
    same_clock q = rw q at early

    later_clock : is_accepted answer ≡ true → now < max (clock past) m
    later_clock q = rw q at early

    go : (a b : Bool) → is_accepted answer ≡ a → nat_le until m ≡ b
        → ((is_accepted answer && nat_le until m) || rest) ≡ true
    go true true p q = rw (p, q) refl
    go true false p q =
        let high : m < until = grind (arith, nat_tests) in
        let bound : now < max (clock past) m = later_clock p in
        ap (λ b. (is_accepted answer && nat_le until m) || b) (more (omega arith))
        ∙ or_true (is_accepted answer && nat_le until m)
    go false b p q = ap (λ b. (is_accepted answer && nat_le until m) || b) (more (same_clock p))
        ∙ or_true (is_accepted answer && nat_le until m)

-- from the clock at the deciding pair up to a moment below the clock, some moment ended the wait already
reached : (newer place : Past) (until now dialogue : ℕ) (id : ℤ) → clock place ≤ until → until ≤ now
    → now < clock (newer ++ place)
    → list_any (pair_ends_wait until dialogue id) newer ≡ true
reached [] place until now dialogue id low at early = absurd (omega arith)
reached (pair ∷ newer) place until now dialogue id low at early =
    reached_step pair.event pair.answer pair.idle_ms (newer ++ place) until now dialogue id
    (list_any (pair_ends_wait until dialogue id) newer) at early
    (reached newer place until now dialogue id low at)

module _ (idle_ms : ℕ) (past : Past) (limited : AreLimited idle_ms past) (now : ℕ) (answer : Answer)
    (accepted : is_accepted answer ≡ true) (early : now < clock past)
  where
    waits_still : (newer place : Past) (until dialogue : ℕ) (id : ℤ) → past ≡ newer ++ place → clock place ≤ until
        → list_any (pair_ends_wait until dialogue id) (since place (at_moment now answer idle_ms ∷ past))
        ≡ list_any (pair_ends_wait until dialogue id) (since place past)
    waits_still newer place until dialogue id whole low =
        ap (list_any (pair_ends_wait until dialogue id)) longer
        ∙ (go (nat_le until now) refl ∙ ap (list_any (pair_ends_wait until dialogue id)) (sym shorter))
      where
        shorter : since place past ≡ newer
        shorter = ap (since place) whole ∙ since_end newer place

        longer : since place (at_moment now answer idle_ms ∷ past) ≡ at_moment now answer idle_ms ∷ newer
        longer = ap (λ z. since place (at_moment now answer idle_ms ∷ z)) whole ∙ since_end (at_moment now answer idle_ms ∷ newer) place

        go : (b : Bool) → nat_le until now ≡ b → ((is_accepted answer && nat_le until now)
            || list_any (pair_ends_wait until dialogue id) newer) ≡ list_any (pair_ends_wait until dialogue id) newer
        go false q = rw (accepted, q) refl
        go true q =
            let at : until ≤ now = grind (arith, nat_tests) in
            let ended : list_any (pair_ends_wait until dialogue id) newer ≡ true =
            reached newer place until now dialogue id low at (rw whole at early) in
            rw (accepted, q, ended) refl

    pub waiting_still : (n reject_ms dialogue : ℕ) (id : ℤ) (t : Told) → decision n past ≡ Some t
        → is_waiting reject_ms dialogue id (at_moment now answer idle_ms ∷ past) t ≡ is_waiting reject_ms dialogue id past t
    waiting_still n reject_ms dialogue id t e =
        let d = decision_place n past t e in
        let whole : past ≡ d.newer ++ t.place = d.whole ∙ ap (λ z. d.newer ++ z) (sym d.place) in
        ap (λ b. is_rejectable t.closing && not b) (waits_still d.newer t.place (clock t.place + reject_ms) dialogue id
        whole (omega arith))

    held_by_still : (reject_ms dialogue : ℕ) (id : ℤ) (o : Option Invocation)
        → held_by reject_ms dialogue id (at_moment now answer idle_ms ∷ past) o ≡ held_by reject_ms dialogue id past o
    held_by_still reject_ms dialogue id None = refl
    held_by_still reject_ms dialogue id (Some i) =
        ap (holds_identifier reject_ms dialogue id (at_moment now answer idle_ms ∷ past))
        (decision_still idle_ms past limited now answer accepted early i.number) ∙ go (decision i.number past) refl
      where
        go : (d : Option Told) → decision i.number past ≡ d
            → holds_identifier reject_ms dialogue id (at_moment now answer idle_ms ∷ past) d
            ≡ holds_identifier reject_ms dialogue id past d
        go None q = refl
        go (Some t) q = waiting_still i.number reject_ms dialogue id t q

    pub held_still : (reject_ms dialogue : ℕ) (id : ℤ)
        → held reject_ms dialogue id (at_moment now answer idle_ms ∷ past) ≡ held reject_ms dialogue id past
    held_still reject_ms dialogue id = held_by_still reject_ms dialogue id (latest dialogue id past)
