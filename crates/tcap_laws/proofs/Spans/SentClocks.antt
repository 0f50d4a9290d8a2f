-- The clock stays at most at the deadline of an invocation that is sent and open.
use Rattle.std.proofs.Common.{◌≡◌, ℕ, ℤ, ◌+◌, ◌<◌, ◌≤◌, Bool, true, false, cond, if◌then◌else◌, nat_le, max, List, [], ◌∷◌, ◌++◌, Option, Some, None, refl, ap, sym, ◌∙◌, arith}
use Rattle.std.proofs.lemmas.Bool.Decides.{nat_tests}
use Rattle.std.proofs.lemmas.List.Folds.{find-append}
use Rattle.std.specs.Prelude.{find, is_some, option_map}
use Rattle.std.specs.Option.{option_or}
use Rattle.tcap_invocation.specs.declared.class.Class.{Class}
use Rattle.tcap_laws.proofs.Spans.DecisionSteps.{first_closing-append, made_found}
use Rattle.tcap_laws.proofs.Spans.SpanSteps.{span_new, span_grows, reused_step, none_before}
use Rattle.tcap_model.specs.Words.Answer.{Answer, is_accepted}
use Rattle.tcap_model.specs.Histories.Clock.{clock}
use Rattle.tcap_model.specs.Invocations.Closes.{closing_of}
use Rattle.tcap_model.specs.Invocations.Deadline.{is_sent, sent_clock, deadline}
use Rattle.tcap_model.specs.Words.Event.{Event}
use Rattle.tcap_model.specs.Invocations.Invocation.{Invocation, invoked_by, invocation_of, has_id}
use Rattle.tcap_model.specs.Histories.Life.{Life, is_over, life, life_after, life_by_event, life_by_moment, touched}
use Rattle.tcap_model.specs.Invocations.Marks.{Mark, Noted, marks, marks_after_birth, marks_by_event, end_if_over}
use Rattle.tcap_model.specs.Invocations.Outcome.{closing_after, first_closing, outcome_of, outcome}
use Rattle.tcap_model.specs.Words.Output.{Closing}
use Rattle.tcap_model.specs.Histories.Pair.{Pair, Past}
use Rattle.tcap_model.specs.Invocations.Reuse.{is_reused}
use Rattle.tcap_model.specs.Invocations.Span.{is_invoked, span}
use Rattle.tcap_model.specs.Words.Time.{is_idle}
use Rattle.tcap_laws.proofs.Spans.MarksAfterBirth.{was_alive, noted_at_clock, no_marks, span_unborn}

-- ---- the clock at the Sent mark

map_or : (o p : Option Noted) → option_map (λ (noted : Noted). noted.clock) (option_or o p)
    ≡ option_or (option_map (λ (noted : Noted). noted.clock) o) (option_map (λ (noted : Noted). noted.clock) p)
map_or None p = refl
map_or (Some x) p = refl

pub sent_clock-append : (xs ys : List Noted) → sent_clock (xs ++ ys) ≡ option_or (sent_clock xs) (sent_clock ys)
sent_clock-append xs ys =
    let test : Noted → Bool = λ (noted : Noted). is_sent noted.mark in
    ap (option_map (λ (noted : Noted). noted.clock)) (find-append test xs ys) ∙ map_or (find test xs) (find test ys)

pub sent_at : (c s : ℕ) (ms : List Mark) → sent_clock (noted_at_clock c ms) ≡ Some s → s ≡ c
sent_at c s [] e = absurd cc
sent_at c s (m ∷ ms) e = go (is_sent m) e (sent_at c s ms)
  where
    rest : List Noted
    rest = noted_at_clock c ms

    go : (b : Bool) → option_map (λ (noted : Noted). noted.clock)
        (cond b (Some (record { clock = c; mark = m })) (find (λ (noted : Noted). is_sent noted.mark) rest)) ≡ Some s
        → (sent_clock rest ≡ Some s → s ≡ c) → s ≡ c
    go true e more = let same : c ≡ s = cc in sym same
    go false e more = more e

-- ---- a moment

abbrev pub at_moment : ℕ → Answer → ℕ → Pair
at_moment now answer idle_ms = record { event = Event.moment now; answer = answer; idle_ms = idle_ms }

-- the life after an accepted moment
abbrev pub moved_life : ℕ → ℕ → ℕ → Life → Life
moved_life idle_ms last now Life.unborn = Life.unborn
moved_life idle_ms last now (Life.standing s c) = life_by_moment (is_idle idle_ms last now) s c
moved_life idle_ms last now Life.over = Life.over

-- the marks of an accepted moment: that of the moment, and the end where a dialogue was idle too long
abbrev pub moment_noted : ℕ → ℕ → Past → ℕ → List Noted
moment_noted dialogue idle_ms past now = noted_at_clock (clock past) (Mark.moment now
    ∷ end_if_over (life dialogue past) (moved_life idle_ms (touched dialogue past) now (life dialogue past)))

pub moment_marks : (dialogue : ℕ) (id : ℤ) (now : ℕ) (answer : Answer) (idle_ms : ℕ) (past : Past)
    → is_accepted answer ≡ true → was_alive (life dialogue past) ≡ true
    → marks dialogue id (at_moment now answer idle_ms) past ≡ moment_noted dialogue idle_ms past now
moment_marks dialogue id now answer idle_ms past accepted e = go (life dialogue past) e
  where
    last : ℕ
    last = touched dialogue past

    go : (l : Life) → was_alive l ≡ true → noted_at_clock (clock past)
        (marks_after_birth dialogue id last l (at_moment now answer idle_ms))
        ≡ noted_at_clock (clock past) (Mark.moment now ∷ end_if_over l (moved_life idle_ms last now l))
    go Life.unborn e = absurd cc
    go (Life.standing s c) e = ap (λ (b : Bool). noted_at_clock (clock past)
        (marks_by_event id (Life.standing s c) (life_by_event idle_ms last s c (Event.moment now) b)
        (Event.moment now) b)) accepted
    go Life.over e = ap (λ (b : Bool). noted_at_clock (clock past)
        (marks_by_event id Life.over Life.over (Event.moment now) b)) accepted

-- the life after an accepted moment, which is no birth
pub moment_life : (dialogue : ℕ) (now : ℕ) (answer : Answer) (idle_ms : ℕ) (past : Past) → is_accepted answer ≡ true
    → life dialogue (at_moment now answer idle_ms ∷ past)
    ≡ moved_life idle_ms (touched dialogue past) now (life dialogue past)
moment_life dialogue now answer idle_ms past accepted = go (life dialogue past)
  where
    last : ℕ
    last = touched dialogue past

    go : (l : Life) → life_after dialogue last l (at_moment now answer idle_ms) ≡ moved_life idle_ms last now l
    go Life.unborn = refl
    go (Life.standing s c) =
        ap (λ (b : Bool). life_by_event idle_ms last s c (Event.moment now) b) accepted
    go Life.over = refl

pub both_none : (x y : Option Closing) → option_or x y ≡ None → (x ≡ None) × (y ≡ None)
both_none None y e = (refl, e)
both_none (Some c) y e = absurd cc

lapses_not : (class : Class) (timeout s m : ℕ)
    → option_or (closing_of class timeout (Some s) (Mark.moment m)) None ≡ None → m < s + max 1 timeout
lapses_not class timeout s m e = go (nat_le (s + timeout) m) refl e
  where
    none : Option Closing
    none = None

    go : (b : Bool) → nat_le (s + timeout) m ≡ b → option_or (cond b (Some Closing.lapsed) none) none ≡ none
        → m < s + max 1 timeout
    go true q e = absurd cc
    go false q e = let low : m < s + timeout = grind (arith, nat_tests) in omega arith

-- ---- what is sent and open has a deadline past the clock

abbrev spanned_clock : Invocation → Past → Option ℕ
spanned_clock i past = sent_clock (span i past)

abbrev spanned_closing : Invocation → Past → Option Closing
spanned_closing i past = first_closing i.class i.timeout (span i past)

-- what a pair adds, where the clock stays
within_still : (c s timeout : ℕ) (before : Option ℕ) (ms : List Mark)
    → option_or before (sent_clock (noted_at_clock c ms)) ≡ Some s
    → ((q : ℕ) → before ≡ Some q → c < q + max 1 timeout) → c < s + max 1 timeout
within_still c s timeout None ms e ih = let same : s ≡ c = sent_at c s ms e in omega arith
within_still c s timeout (Some q) ms e ih = let same : q ≡ s = cc in let bound = ih q refl in omega arith

-- what an accepted moment adds where the dialogue goes on
within_moment : (class : Class) (c s timeout now : ℕ) (S : List Noted)
    → sent_clock (S ++ record { clock = c; mark = Mark.moment now } ∷ []) ≡ Some s
    → closing_after class timeout S (record { clock = c; mark = Mark.moment now } ∷ []) ≡ None
    → ((q : ℕ) → sent_clock S ≡ Some q → c < q + max 1 timeout) → max c now < s + max 1 timeout
within_moment class c s timeout now S sent none ih =
    go (sent_clock S) refl (sym (sent_clock-append S (record { clock = c; mark = Mark.moment now } ∷ [])) ∙ sent) none
  where
    go : (o : Option ℕ) → sent_clock S ≡ o → option_or o None ≡ Some s
        → option_or (closing_of class timeout o (Mark.moment now)) None ≡ None → max c now < s + max 1 timeout
    go None q e x = absurd cc
    go (Some k) q e x =
        let same : k ≡ s = cc in
        let bound : c < k + max 1 timeout = ih k q in
        let early : now < k + max 1 timeout = lapses_not class timeout k now x in
        omega arith

-- the end closes what nothing else did, so the dialogue goes on
goes_on : (class : Class) (c timeout now : ℕ) (S : List Noted) (l after : Life)
    → closing_after class timeout S (noted_at_clock c (Mark.moment now ∷ end_if_over l after)) ≡ None
    → end_if_over l after ≡ []
goes_on class c timeout now S l after e = go (is_over l) (is_over after) e
  where
    ends : Bool → Bool → List Mark
    ends b d = if b then [] else (if d then Mark.end ∷ [] else [])

    go : (b d : Bool) → closing_after class timeout S (noted_at_clock c (Mark.moment now ∷ ends b d)) ≡ None
        → ends b d ≡ []
    go true d e = refl
    go false false e = refl
    go false true e =
        let none = (both_none (closing_of class timeout (sent_clock S) (Mark.moment now)) (Some Closing.ended) e).1 in
        absurd cc

module _ (i : Invocation) (past : Past) (made : is_some (invocation_of i.number past) ≡ true)
    (ih : spanned_closing i past ≡ None → (q : ℕ) → spanned_clock i past ≡ Some q → clock past < q + max 1 i.timeout)
    (pair : Pair) (s : ℕ) (fresh : is_reused i (pair ∷ past) ≡ false) (none : spanned_closing i (pair ∷ past) ≡ None)
    (sent : spanned_clock i (pair ∷ past) ≡ Some s) where
  abbrev added : List Noted
  added = marks i.dialogue i.id pair past

  grown : span i (pair ∷ past) ≡ span i past ++ added
  grown = span_grows i pair past made fresh

  nones : (spanned_closing i past ≡ None) × (closing_after i.class i.timeout (span i past) added ≡ None)
  nones = both_none (spanned_closing i past) (closing_after i.class i.timeout (span i past) added)
      (sym (first_closing-append i.class i.timeout (span i past) added)
      ∙ (ap (first_closing i.class i.timeout) (sym grown) ∙ none))

  still_within : clock past < s + max 1 i.timeout
  still_within = within_still (clock past) s i.timeout (spanned_clock i past)
      (marks_after_birth i.dialogue i.id (touched i.dialogue past) (life i.dialogue past) pair)
      (sym (sent_clock-append (span i past) added) ∙ (ap sent_clock (sym grown) ∙ sent)) (ih nones.0)

  -- who has a Sent mark has a dialogue that was created
  alive_then : added ≡ [] → was_alive (life i.dialogue past) ≡ true
  alive_then e = go (was_alive (life i.dialogue past)) refl
    where
      go : (b : Bool) → was_alive (life i.dialogue past) ≡ b → was_alive (life i.dialogue past) ≡ true
      go true q = q
      go false q =
          let empty : span i (pair ∷ past) ≡ [] = grown ∙ (ap (λ z. z ++ added) (span_unborn i past q) ∙ e) in
          let never : sent_clock [] ≡ Some s = ap sent_clock (sym empty) ∙ sent in
          absurd cc

  moment_within : (now : ℕ) (answer : Answer) (idle_ms : ℕ) → at_moment now answer idle_ms ≡ pair
      → is_accepted answer ≡ true → max (clock past) now < s + max 1 i.timeout
  moment_within now answer idle_ms same accepted = go (was_alive (life i.dialogue past)) refl
    where
      go : (b : Bool) → was_alive (life i.dialogue past) ≡ b → max (clock past) now < s + max 1 i.timeout
      go false q =
          let never = sym q ∙ alive_then (no_marks i.dialogue i.id pair past q) in
          absurd cc
      go true q =
          let all : added ≡ moment_noted i.dialogue idle_ms past now =
          ap (λ p. marks i.dialogue i.id p past) (sym same)
          ∙ moment_marks i.dialogue i.id now answer idle_ms past accepted q in
          let before : Life = life i.dialogue past in
          let on = goes_on i.class (clock past) i.timeout now (span i past) before
          (moved_life idle_ms (touched i.dialogue past) now before)
          (ap (closing_after i.class i.timeout (span i past)) (sym all) ∙ nones.1) in
          let one : added ≡ record { clock = clock past; mark = Mark.moment now } ∷ [] =
          all ∙ ap (λ ms. noted_at_clock (clock past) (Mark.moment now ∷ ms)) on in
          within_moment i.class (clock past) s i.timeout now (span i past)
          (ap (λ z. sent_clock (span i past ++ z)) (sym one) ∙ (ap sent_clock (sym grown) ∙ sent))
          (ap (closing_after i.class i.timeout (span i past)) (sym one) ∙ nones.1) (ih nones.0)

  pair_within : (event : Event) (answer : Answer) (idle_ms : ℕ)
      → record { event = event; answer = answer; idle_ms = idle_ms } ≡ pair
      → clock (record { event = event; answer = answer; idle_ms = idle_ms } ∷ past) < s + max 1 i.timeout
  pair_within Event.new_dialogue answer idle_ms e = still_within
  pair_within (Event.on_dialogue d r) answer idle_ms e = still_within
  pair_within (Event.received from bytes) answer idle_ms e = still_within
  pair_within (Event.moment now) answer idle_ms e = go (is_accepted answer) refl
    where
      go : (b : Bool) → is_accepted answer ≡ b → clock (at_moment now answer idle_ms ∷ past) < s + max 1 i.timeout
      go true q = rw q (moment_within now answer idle_ms e q)
      go false q = rw q still_within

pub clock_before : (i : Invocation) (past : Past) (s : ℕ) → is_some (invocation_of i.number past) ≡ true
    → is_reused i past ≡ false
    → first_closing i.class i.timeout (span i past) ≡ None → sent_clock (span i past) ≡ Some s
    → clock past < s + max 1 i.timeout
clock_before i [] s made fresh none sent = absurd cc
clock_before i (pair ∷ past) s made fresh none sent =
    go (is_some (invocation_of i.number past)) refl (clock_before i past)
  where
    go : (b : Bool) → is_some (invocation_of i.number past) ≡ b
        → ((q : ℕ) → is_some (invocation_of i.number past) ≡ true → is_reused i past ≡ false
        → spanned_closing i past ≡ None → spanned_clock i past ≡ Some q → clock past < q + max 1 i.timeout)
        → clock (pair ∷ past) < s + max 1 i.timeout
    go false q ih =
        let never : sent_clock [] ≡ Some s = ap sent_clock (sym (span_new i pair past q)) ∙ sent in
        absurd cc
    go true q ih =
        let before = (none_before (is_reused i past) (is_invoked (has_id i.dialogue i.id) (invoked_by pair))
        (sym (reused_step i pair past q) ∙ fresh)).0 in
        pair_within i past q (λ x k y. ih k q before x y) pair s fresh none sent pair.event pair.answer
        pair.idle_ms refl

pub clock_within : (i : Invocation) (past : Past) (s : ℕ) → is_some (invocation_of i.number past) ≡ true
    → is_reused i past ≡ false
    → first_closing i.class i.timeout (span i past) ≡ None → sent_clock (span i past) ≡ Some s
    → clock past ≤ s + i.timeout
clock_within i past s made fresh none sent = let bound = clock_before i past s made fresh none sent in omega arith

pub deadline_within : (n : ℕ) (past : Past) (i : Invocation) (until : ℕ) → invocation_of n past ≡ Some i
    → is_reused i past ≡ false → outcome n past ≡ None
    → deadline i past ≡ Some until → clock past ≤ until
deadline_within n past i until found fresh none at = go (sent_clock (span i past)) refl at
  where
    open_still : first_closing i.class i.timeout (span i past) ≡ None
    open_still = ap (λ o. outcome_of o past) (sym found) ∙ none

    go : (o : Option ℕ) → sent_clock (span i past) ≡ o → option_map (λ sent. sent + i.timeout) o ≡ Some until
        → clock past ≤ until
    go None q e = absurd cc
    go (Some s) q e = let same : s + i.timeout ≡ until = cc in let bound =
        clock_within i past s (made_found n past i found) fresh open_still q in omega arith

pub deadline_before : (n : ℕ) (past : Past) (i : Invocation) (until : ℕ) → invocation_of n past ≡ Some i
    → is_reused i past ≡ false → 0 < i.timeout → outcome n past ≡ None
    → deadline i past ≡ Some until → clock past < until
deadline_before n past i until found fresh timely none at = go (sent_clock (span i past)) refl at
  where
    open_still : first_closing i.class i.timeout (span i past) ≡ None
    open_still = ap (λ o. outcome_of o past) (sym found) ∙ none

    go : (o : Option ℕ) → sent_clock (span i past) ≡ o → option_map (λ sent. sent + i.timeout) o ≡ Some until
        → clock past < until
    go None q e = absurd cc
    go (Some s) q e = let same : s + i.timeout ≡ until = cc in let bound =
        clock_before i past s (made_found n past i found) fresh open_still q in omega arith
