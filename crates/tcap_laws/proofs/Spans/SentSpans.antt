-- Spans in which an Invoke was sent before anything closed its invocation.
use Rattle.std.proofs.Common.{◌≡◌, ℕ, Bool, true, List, [], ◌∷◌, ◌++◌, Option, Some, None, refl, sym, ap, ◌∙◌, inl, inr}
use Rattle.std.specs.Prelude.{find, is_some, is_none, option_map}
use Rattle.std.specs.Option.{option_or}
use Rattle.std.proofs.lemmas.Bool.{cases_Bool, and_parts}
use Rattle.tcap_invocation.specs.declared.class.Class.{Class}
use Rattle.tcap_model.specs.Invocations.Deadline.{is_sent, sent_clock}
use Rattle.tcap_model.specs.Invocations.Marks.{Mark, Noted}
use Rattle.tcap_model.specs.Invocations.Outcome.{first_closing, was_sent_in}
use Rattle.tcap_model.specs.Invocations.Span.{up_to}
use Rattle.tcap_laws.proofs.Spans.DecisionSteps.{first_closing-append}
use Rattle.tcap_laws.proofs.Spans.SentClocks.{sent_clock-append, both_none}

abbrev is_sent_mark : Noted → Bool
is_sent_mark noted = is_sent noted.mark

some-or : {X : Type 0} (x y : Option X) → is_some x ≡ true → is_some (option_or x y) ≡ true
some-or None y e = absurd cc
some-or (Some z) y e = refl

or-some : {X : Type 0} (x y : Option X) → is_some y ≡ true → is_some (option_or x y) ≡ true
or-some None y e = e
or-some (Some z) y e = refl

-- ---- what was sent stays so

found-mapped : (o : Option Noted) → is_some (option_map (λ (noted : Noted). noted.clock) o) ≡ true → is_some o ≡ true
found-mapped None e = e
found-mapped (Some noted) e = refl

-- up to the first Sent mark nothing changes
up_to-first : (span more : List Noted) → is_some (find is_sent_mark span) ≡ true
    → up_to is_sent_mark (span ++ more) ≡ up_to is_sent_mark span
up_to-first [] more e = absurd cc
up_to-first (noted ∷ span) more e = elim (cases_Bool (is_sent_mark noted)) [
  | inl here ↦ rw here refl
  | inr later ↦ let e = e in rw later (ap (λ (w : List Noted). noted ∷ w) (up_to-first span more (rw later at e)))
]

pub was_sent-more : (class : Class) (timeout : ℕ) (span more : List Noted) → was_sent_in class timeout span ≡ true
    → was_sent_in class timeout (span ++ more) ≡ true
was_sent-more class timeout span more e =
    let both = and_parts (is_some (sent_clock span)) (is_none (first_closing class timeout (up_to is_sent_mark span))) e
    in
    let sent : is_some (sent_clock (span ++ more)) ≡ true =
    ap is_some (sent_clock-append span more) ∙ some-or (sent_clock span) (sent_clock more) both.0 in
    let same : up_to is_sent_mark (span ++ more) ≡ up_to is_sent_mark span =
    up_to-first span more (found-mapped (find is_sent_mark span) both.0) in
    rw (sent, ap (λ (w : List Noted). is_none (first_closing class timeout w)) same ∙ both.1) refl

-- ---- a Sent mark that nothing closed before

-- what stands up to the first Sent mark stands before any Sent mark
up_to-prefix : (earlier : List Noted) (noted : Noted) (later : List Noted) → is_sent_mark noted ≡ true
    → (rest : List Noted) × (earlier ≡ up_to is_sent_mark (earlier ++ noted ∷ later) ++ rest)
up_to-prefix [] noted later e = ([], rw e refl)
up_to-prefix (first ∷ earlier) noted later e = elim (cases_Bool (is_sent_mark first)) [
  | inl here ↦ (first ∷ earlier, rw here refl)
  | inr not ↦ let others =
      up_to-prefix earlier noted later e in (others.0, rw not (ap (λ (w : List Noted). first ∷ w) others.1))
]

pub was_sent-at : (class : Class) (timeout clock : ℕ) (earlier later : List Noted)
    → first_closing class timeout earlier ≡ None
    → was_sent_in class timeout (earlier ++ record { clock = clock; mark = Mark.sent } ∷ later) ≡ true
was_sent-at class timeout clock earlier later none =
    let noted : Noted = record { clock = clock; mark = Mark.sent } in
    let span : List Noted = earlier ++ noted ∷ later in
    let sent : is_some (sent_clock span) ≡ true =
    ap is_some (sent_clock-append earlier (noted ∷ later))
    ∙ or-some (sent_clock earlier) (sent_clock (noted ∷ later)) refl in
    let front = up_to-prefix earlier noted later refl in
    let unclosed : first_closing class timeout (up_to is_sent_mark span) ≡ None =
    (both_none (first_closing class timeout (up_to is_sent_mark span)) _
    (sym (first_closing-append class timeout (up_to is_sent_mark span) front.0)
    ∙ (sym (ap (first_closing class timeout) front.1) ∙ none))).0 in
    rw (sent, ap is_none unclosed) refl
