-- What a moment and a Continue leave of a life, whatever the history is.
use Rattle.std.proofs.Common.{◌≡◌, ℕ, Bool, true, false, nat_lt, cond, ◌&&◌, List, [], Option, Some, None, refl, ap, sym}
use Rattle.tcap_laws.proofs.BoolLemmas.{and_false, and_true}
use Rattle.tcap_model.specs.Histories.Clock.{clock}
use Rattle.tcap_model.specs.Histories.History.{History}
use Rattle.tcap_model.specs.Histories.Life.{Life, state_after_continue, life_by_moment}
use Rattle.tcap_model.specs.Replies.Reply.{moment_answer, moment_outputs}
use Rattle.tcap_model.specs.Words.Answer.{Answer, is_accepted}
use Rattle.tcap_model.specs.Words.Fault.{Fault}
use Rattle.tcap_model.specs.Words.State.{State, is_live, peer_by}

-- a moment at which no fault is due is accepted
pub accepted_by : (h : History) (now : ℕ) (f : Option Fault) → f ≡ None
    → is_accepted (moment_answer h.start.idle_ms h.pairs now f) ≡ true
accepted_by h now (Some f) e = absurd cc
accepted_by h now None e = go (nat_lt now (clock h.pairs))
  where
    go : (b : Bool) → is_accepted (cond b (Answer.outputs [])
        (Answer.outputs (moment_outputs h.start.idle_ms h.pairs now))) ≡ true
    go true = refl
    go false = refl

-- a moment ends a dialogue that is live and has been idle too long
pub left_by_moment : (idle : Bool) (state : State) (context : Option (List ℕ))
    → life_by_moment idle state context ≡ cond (is_live state && idle) Life.over (Life.standing state context)
left_by_moment true state context =
    ap (λ b. cond b Life.over (Life.standing state context)) (sym (and_true (is_live state)))
left_by_moment false state context =
    ap (λ b. cond b Life.over (Life.standing state context)) (sym (and_false (is_live state)))

-- a live dialogue that takes a Continue is Active, with the peer that it has from then on
pub answered_is : (state : State) (origin : List ℕ) → is_live state ≡ true
    → state_after_continue state origin ≡ State.active (peer_by state origin)
answered_is State.fresh origin e = absurd cc
answered_is State.sent origin e = refl
answered_is (State.received peer) origin e = absurd cc
answered_is (State.active peer) origin e = refl
