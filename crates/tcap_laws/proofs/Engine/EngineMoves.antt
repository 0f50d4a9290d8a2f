-- Each event moves the engine as the history says, and the clock stays within its limit.
use Rattle.std.proofs.Common.{◌≡◌, ◌≤◌, ℕ, Bool, true, false, cond, nat_lt, [], ◌∷◌, Option, Some, None, refl, ap, ◌∙◌}
use Rattle.std.proofs.Common.{arith}
use Rattle.std.proofs.lemmas.Bool.{ltb-false}
use Rattle.tcap_invocation.specs.Stage.{moment_limit}
use Rattle.tcap_laws.proofs.Engine.BirthsMove.{births-move}
use Rattle.tcap_laws.proofs.Engine.BytesMove.{bytes-move}
use Rattle.tcap_laws.proofs.Engine.MomentsMove.{moments-move}
use Rattle.tcap_laws.proofs.Engine.RequestsMove.{requests-move}
use Rattle.tcap_model.specs.Histories.Clock.{clock, clock_after}
use Rattle.tcap_model.specs.Histories.History.{History, Start}
use Rattle.tcap_model.specs.Histories.Pair.{Past}
use Rattle.tcap_model.specs.Replies.Legal.{AreReplies}
use Rattle.tcap_model.specs.Replies.Reply.{moment_answer, reply}
use Rattle.tcap_model.specs.Statements.EngineMoves.{EachMoveIsSaid, EachMovesAlike, moved_at}
use Rattle.tcap_model.specs.Table.EngineMove.{EngineMoved, engine_move}
use Rattle.tcap_model.specs.Table.World.{World}
use Rattle.tcap_model.specs.Words.Answer.{is_accepted}
use Rattle.tcap_model.specs.Words.Event.{Event}
use Rattle.tcap_model.specs.Words.Fault.{Fault}
use Rattle.tcap_model.specs.Words.Time.{moment_fault}

-- ---- each event

pub move-is-said : EachMoveIsSaid
unfolding engine_move
move-is-said h Event.new_dialogue legal within = births-move h legal
move-is-said h (Event.on_dialogue dialogue request) legal within = requests-move h legal dialogue request within
move-is-said h (Event.received from bytes) legal within = bytes-move h legal from bytes
move-is-said h (Event.moment now) legal within = moments-move h legal now

pub moves-alike : EachMovesAlike
moves-alike h engine event at within =
    let same : engine_move engine event ≡ moved_at h event =
    ap (λ (w : World). engine_move w event) at.is_world ∙ move-is-said h event at.is_legal within in
    record {
      answers = ap (λ (m : EngineMoved). m.answer) same;
      stands =
          record {
            is_legal = (at.is_legal.0, (record { in_range = within; is_limited = refl }, refl, at.is_legal.1));
            is_world = ap (λ (m : EngineMoved). m.after) same;
          };
    }

-- ---- the clock

clock-timely : (now : ℕ) → moment_fault now ≡ None → now ≤ moment_limit
clock-timely now e = go (nat_lt moment_limit now) refl e
  where
    go : (b : Bool) → nat_lt moment_limit now ≡ b → cond b (Some Fault.moment_too_late) None ≡ None → now ≤ moment_limit
    go true q e = absurd cc
    go false q e = ltb-false moment_limit now q

clock_step : (h : History) (event : Event) → clock h.pairs ≤ moment_limit
    → clock_after (clock h.pairs) event (is_accepted (reply h event)) ≤ moment_limit
clock_step h Event.new_dialogue within = within
clock_step h (Event.on_dialogue dialogue request) within = within
clock_step h (Event.received from bytes) within = within
clock_step h (Event.moment now) within = go (moment_fault now) refl
  where
    accepted : now ≤ moment_limit → (b : Bool) → clock_after (clock h.pairs) (Event.moment now) b ≤ moment_limit
    accepted low true = omega (arith, low, within)
    accepted low false = within

    go : (f : Option Fault) → moment_fault now ≡ f
        → clock_after (clock h.pairs) (Event.moment now) (is_accepted (moment_answer h.start.idle_ms h.pairs now f))
        ≤ moment_limit
    go (Some fault) e = within
    go None e = accepted (clock-timely now e) (is_accepted (moment_answer h.start.idle_ms h.pairs now None))

pub clock-within : (start : Start) (past : Past) → AreReplies start past → clock past ≤ moment_limit
clock-within start [] legal = omega arith
clock-within start (pair ∷ past) legal =
    let h : History = record { start = start; pairs = past } in
    rw legal.1 (clock_step h pair.event (clock-within start past legal.2))
