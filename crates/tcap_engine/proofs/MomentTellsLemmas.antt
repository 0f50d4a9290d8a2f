-- What a moment tells, where the clock goes to it and where it doesn't.
use Rattle.std.proofs.Common.{◌≡◌, ◌≢◌, ◌⊎◌, inl, inr, ℕ, ◌+◌, ◌-◌, ◌^◌, ◌<◌, ◌≤◌, true, false, nat_lt, List, [], ◌++◌, length, Option, Some, None, refl, sym, ap, ◌∙◌, arith, tests}
use Rattle.std.proofs.lemmas.List.{length-append}
use Rattle.tcap_engine.specs.Running.{outputs_in}
use Rattle.tcap_invocation.specs.Stage.{moment_limit}
use Rattle.tcap_model.specs.Table.DueLapses.{all_told, all_idle_told}
use Rattle.tcap_model.specs.Table.EngineMove.{engine_move, moment_in}
use Rattle.tcap_model.specs.Table.World.{World}
use Rattle.tcap_model.specs.Words.Event.{Event}
use Rattle.tcap_model.specs.Words.Fault.{Fault}
use Rattle.tcap_model.specs.Words.Output.{Output}
use Rattle.tcap_model.specs.Words.Time.{moment_fault}

-- What a moment tells.
abbrev pub told_at : World → ℕ → List Output
told_at w now = outputs_in (engine_move w (Event.moment now)).answer

-- A moment below the clock tells nothing.
pub early-tells-none : (w : World) (now : ℕ) → now < w.clock → told_at w now ≡ []
unfolding engine_move
early-tells-none w now early = go (moment_fault now)
  where
    is : nat_lt now w.clock ≡ true
    is = grind (arith, tests, early)

    go : (o : Option Fault) → outputs_in (moment_in w now o).answer ≡ []
    go (Some f) = refl
    go None = rw is refl

-- One above the limit tells nothing.
pub late-tells-none : (w : World) (now : ℕ) → moment_limit < now → told_at w now ≡ []
unfolding engine_move
late-tells-none w now late = let is : nat_lt moment_limit now ≡ true = grind (arith, tests, late) in rw is refl

-- Any other tells what lapses and what has been idle too long.
pub tells-all : (w : World) (now : ℕ) → w.clock ≤ now → now ≤ moment_limit → told_at w now ≡ all_told now w.dialogues ++ all_idle_told now w.dialogues
unfolding engine_move
tells-all w now up within =
    let not_late : nat_lt moment_limit now ≡ false = grind (arith, tests, within) in
    let not_early : nat_lt now w.clock ≡ false = grind (arith, tests, up) in
    rw (not_late, not_early) refl

-- Where there is room for all of them, there is room for what the moment tells.
pub room-is-enough : (w : World) (now room : ℕ) → w.clock ≤ now → now ≤ moment_limit
    → (length (all_told now w.dialogues) + length (all_idle_told now w.dialogues) ≤ room) ⊎ (room ≡ 2 ^ 64 - 1)
    → (length (told_at w now) ≤ room) ⊎ (room ≡ 2 ^ 64 - 1)
room-is-enough w now room up within (inl enough) =
    let all = ap (λ (os : List Output). length os) (tells-all w now up within) ∙ length-append (all_told now w.dialogues) (all_idle_told now w.dialogues) in
    inl (omega (arith, all, enough))
room-is-enough w now room up within (inr most) = inr most

-- Where any is needed, the moment tells something.
pub tells-some : (w : World) (now room : ℕ) → w.clock ≤ now → now ≤ moment_limit
    → (room ≢ 0 → all_told now w.dialogues ++ all_idle_told now w.dialogues ≢ []) → room ≢ 0 → told_at w now ≢ []
tells-some w now room up within some is none = some is (sym (tells-all w now up within) ∙ none)
