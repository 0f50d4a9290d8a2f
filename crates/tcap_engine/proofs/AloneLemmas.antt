-- What a dialogue sees of the answers of one call, and of a run.
use Rattle.std.proofs.Common.{◌≡◌, refl, sym, ap, subst, ◌∙◌, ℕ, List, [], ◌∷◌, length, drop}
use Rattle.std.proofs.Math.Seq.{drop-append_seam}
use Rattle.tcap_engine.specs.IsolationForm.{IsAnsweredAlone, AreAnsweredAlone, EachAnswerIsAlone, EachRunIsAlone}
use Rattle.tcap_engine.specs.Running.{StandsThrough, after_events, replies, new_answers}
use Rattle.tcap_laws.proofs.CallerLemmas.{each-alone}
use Rattle.tcap_model.specs.Histories.History.{History}
use Rattle.tcap_model.specs.Replies.Legal.{IsLegal}
use Rattle.tcap_model.specs.Replies.Reply.{reply}
use Rattle.tcap_model.specs.Statements.EngineMoves.{with_pair}
use Rattle.tcap_model.specs.Table.World.{World}
use Rattle.tcap_model.specs.Words.Answer.{Answer}
use Rattle.tcap_model.specs.Words.Event.{Event}

-- What stands before a pair of a legal history is legal.
pub legal_before : (h : History) (event : Event) → IsLegal (with_pair h event) → IsLegal h
legal_before h event legal = (legal.0, legal.1.2)

pub legal_at_first : (h : History) (events : List Event) → IsLegal (after_events h events) → IsLegal h
legal_at_first h [] legal = legal
legal_at_first h (event ∷ events) legal = legal_before h event (legal_at_first (with_pair h event) events legal)

-- What a run adds are the replies.
pub added : (h : History) (events : List Event) (w : World) (before after : List Answer)
    → StandsThrough h events w before after → new_answers before after ≡ replies h events
added h events w before after s = ap (drop (length before)) s.are_replies ∙ drop-append_seam before (replies h events)

reply_alone : (dialogue : ℕ) (h : History) (event : Event) → IsLegal h → IsAnsweredAlone dialogue h event (reply h event)
reply_alone dialogue h event legal named left = each-alone h dialogue event legal named left

replies_alone : (dialogue : ℕ) (h : History) (events : List Event) → IsLegal (after_events h events)
    → AreAnsweredAlone dialogue h events (replies h events)
replies_alone dialogue h [] legal = refl
replies_alone dialogue h (event ∷ events) legal = (
  reply_alone dialogue h event (legal_at_first h (event ∷ events) legal),
  replies_alone dialogue (with_pair h event) events legal,
)

pub answer-alone : EachAnswerIsAlone
answer-alone dialogue h event answer engine stands =
    subst (IsAnsweredAlone dialogue h event) (sym stands.is_reply)
    (reply_alone dialogue h event (legal_before h event stands.stands.is_legal))

pub run-alone : EachRunIsAlone
run-alone dialogue h events engine before after s =
    subst (AreAnsweredAlone dialogue h events) (sym (added h events engine before after s))
    (replies_alone dialogue h events s.stands.is_legal)
