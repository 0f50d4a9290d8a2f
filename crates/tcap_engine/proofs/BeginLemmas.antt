-- A dialogue that a Begin creates is one that an engine may keep.
use Rattle.std.proofs.Common.{arith, ◌≡◌, ℕ, List, [], ◌∷◌, Option, Some, None, refl, ap, ◌∙◌}
use Rattle.tcap_component.specs.ComponentReading.{components_of}
use Rattle.tcap_dialogue.specs.Beginning.{begun_from}
use Rattle.tcap_dialogue.specs.StepViews.{Outcome, at_clock, outcome}
use Rattle.tcap_dialogue.specs.Timers.{earliest}
use Rattle.tcap_engine.specs.Lapsing.{timer_of}
use Rattle.tcap_engine.proofs.KeptLemmas.{IsKept, fit-walked}
use Rattle.tcap_invocation.specs.Invocations.{AllBelow, Row}
use Rattle.tcap_invocation.specs.Timers.{next_timer_at}
use Rattle.tcap_model.specs.Table.Dialogue.{Dialogue, fresh_dialogue}
use Rattle.tcap_model.specs.Table.TableMove.{Moved, Setting, born}
use Rattle.tcap_model.specs.Words.Address.{Address}
use Rattle.tcap_model.specs.Words.Answer.{Answer}

pub kept_born : (s : Setting) (identifier reject_ms idle_ms next : ℕ) (from : Address) (origin : List ℕ) (context : Option (List ℕ)) (info components : List ℕ)
    → IsKept identifier reject_ms next (born s identifier reject_ms idle_ms from origin context info components).after
kept_born s identifier reject_ms idle_ms next from origin context info components =
    (refl, fit-walked reject_ms next identifier s.clock (fresh_dialogue identifier reject_ms idle_ms).invocations (components_of components) (refl, tt))

some-same : (a b : Dialogue) → Some a ≡ Some b → a ≡ b
some-same a b e = cc

-- What a Begin makes of a fresh dialogue is the one that it creates.
pub begun-is : (clock now identifier reject_ms idle_ms : ℕ) (from : Address) (origin : List ℕ) (context : Option (List ℕ)) (info components : List ℕ) (fresh new : Dialogue) (answer : Answer)
    → now ≡ clock → fresh ≡ fresh_dialogue identifier reject_ms idle_ms → ◌≡◌ {A = Outcome} (answer, Some new) (outcome (begun_from now fresh from origin context info components))
    → new ≡ (born (at_clock clock) identifier reject_ms idle_ms from origin context info components).after
begun-is clock now identifier reject_ms idle_ms from origin context info components fresh new answer at is told =
    let m : Moved = born (at_clock clock) identifier reject_ms idle_ms from origin context info components in
    let same : outcome (begun_from now fresh from origin context info components) ≡ (m.answer, Some m.after) =
    ap (λ (c : ℕ). outcome (begun_from c fresh from origin context info components)) at ∙ ap (λ (x : Dialogue). outcome (begun_from clock x from origin context info components)) is in
    some-same new m.after (ap (λ (o : Outcome). o.1) (told ∙ same))

-- No timer runs in it: it has no invocation, since every number is above those that it has.
no-timer : (rows : List Row) → AllBelow 0 rows → next_timer_at rows ≡ None
no-timer [] h = refl
no-timer (r ∷ rows) h = let below = h.0 in absurd (omega (arith, below))

pub untimed_born : (s : Setting) (identifier reject_ms idle_ms : ℕ) (from : Address) (origin : List ℕ) (context : Option (List ℕ)) (info components : List ℕ)
    → timer_of (born s identifier reject_ms idle_ms from origin context info components).after ≡ None
untimed_born s identifier reject_ms idle_ms from origin context info components =
    let kept = kept_born s identifier reject_ms idle_ms 0 from origin context info components in
    ap (λ first. earliest first None) (no-timer (born s identifier reject_ms idle_ms from origin context info components).after.invocations.rows kept.1.1)
