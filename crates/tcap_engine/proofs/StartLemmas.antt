-- Where an engine starts, and what is seen of it at any history.
use Rattle.std.proofs.Common.{◌≡◌, ◌∙◌, ◌+◌, ℕ, true, Option, refl, ap, arith}
use Rattle.std.proofs.lemmas.Bool.{le-leb}
use Rattle.std.specs.Option.{option_map}
use Rattle.std.specs.Prelude.{IsTrue}
use Rattle.tcap_engine.specs.Limits.{AreLimits, empty_history}
use Rattle.tcap_engine.specs.StateOf.{state_in, state_in_life}
use Rattle.tcap_engine.specs.declared.limits.Limits.{Limits}
use Rattle.tcap_invocation.specs.Stage.{moment_limit}
use Rattle.tcap_laws.proofs.CallerLemmas.{looked-up}
use Rattle.tcap_model.specs.Histories.Clock.{clock}
use Rattle.tcap_model.specs.Histories.History.{History}
use Rattle.tcap_model.specs.Histories.Life.{Life, life}
use Rattle.tcap_model.specs.Replies.Legal.{is_start}
use Rattle.tcap_model.specs.Table.Dialogue.{Dialogue}
use Rattle.tcap_model.specs.Table.World.{World, StandsAt, dialogue_at, dialogue_by, first_world, world_of}
use Rattle.tcap_model.specs.Words.InRange.{is_short, is_long}
use Rattle.tcap_reception.specs.StateViews as view
use Rattle.tcap_reception.specs.declared.state.State.{State}

-- The limits and the counters that an engine is given are those of a start.
in-start : (limits : Limits) (d n : ℕ) → AreLimits limits → IsTrue (is_short d) → IsTrue (is_long n)
    → is_start (empty_history limits d n).start ≡ true
in-start limits d n are short long =
    rw (
      le-leb 1 limits.max_dialogues are.one,
      le-leb limits.max_dialogues 65535 are.most,
      le-leb limits.reject_ms moment_limit are.wait,
      le-leb limits.idle_ms moment_limit are.idle,
      short,
      long,
    ) refl

-- What an engine holds as it starts, by its counters.
abbrev starting : Limits → ℕ → ℕ → World
starting limits d n = first_world (empty_history limits d n).start

-- No counter was drawn from.
undrawn : (limits : Limits) (d n : ℕ) → starting limits d n ≡ world_of (empty_history limits d n)
undrawn limits d n =
    let dialogue : d ≡ d + 0 = omega arith in
    let number : n ≡ n + 0 = omega arith in
    ap (λ x. starting limits x n) dialogue ∙ ap (λ x. starting limits (d + 0) x) number

-- An engine that starts stands at the history in which nothing has happened.
pub begins : (limits : Limits) (d n : ℕ) (engine : World) → AreLimits limits → IsTrue (is_short d) → IsTrue (is_long n)
    → engine ≡ first_world (empty_history limits d n).start → StandsAt (empty_history limits d n) engine
begins limits d n engine are short long is = record { is_legal = (in-start limits d n are short long, tt); is_world = is ∙ undrawn limits d n }

-- The clock of an engine is that of the history.
pub clock-stands : (h : History) (engine : World) → StandsAt h engine → engine.clock ≡ clock h.pairs
clock-stands h engine at = ap (λ (w : World). w.clock) at.is_world

abbrev named : Option Dialogue → Option State
named o = option_map (λ (d : Dialogue). view.state_of d.standing.state) o

by-life : (h : History) (d : ℕ) (l : Life) → named (dialogue_by h.start.reject_ms h.start.idle_ms d h.pairs l) ≡ state_in_life l
by-life h d Life.unborn = refl
by-life h d (Life.standing state context) = refl
by-life h d Life.over = refl

-- The state of a dialogue is that of its life.
pub state-stands : (h : History) (engine : World) (d : ℕ) → StandsAt h engine → state_in engine d ≡ state_in_life (life d h.pairs)
state-stands h engine d at =
    ap (λ (w : World). state_in w d) at.is_world
    ∙ ap named (looked-up h at.is_legal d (dialogue_at h.start.reject_ms h.start.idle_ms h.pairs d) refl)
    ∙ by-life h d (life d h.pairs)
