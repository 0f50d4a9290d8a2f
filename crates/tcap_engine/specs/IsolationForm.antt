-- What one dialogue sees of an engine's answers.
use Rattle.std.specs.Prelude.{◌≡◌, ◌≢◌, ℕ, List, [], ◌∷◌, IsTrue}
use Rattle.tcap_engine.specs.HistoryForm.{StandsOn}
use Rattle.tcap_engine.specs.Running.{StandsThrough, new_answers}
use Rattle.tcap_model.specs.Histories.History.{History}
use Rattle.tcap_model.specs.Histories.Names.{names}
use Rattle.tcap_model.specs.Replies.Reply.{reply}
use Rattle.tcap_model.specs.Statements.EngineMoves.{with_pair}
use Rattle.tcap_model.specs.Statements.Isolation.{compared, history_of}
use Rattle.tcap_model.specs.Table.World.{World}
use Rattle.tcap_model.specs.Words.Answer.{Answer}
use Rattle.tcap_model.specs.Words.Event.{Event}
use Rattle.tcap_model.specs.Words.Fault.{Fault}

-- Where an event names the dialogue, the answer after a history is the reply that the dialogue's own
-- history gives, as far as it is compared; unless no invocation number is left (own).
abbrev pub IsAnsweredAlone : ℕ → History → Event → Answer → Type 0
IsAnsweredAlone dialogue h event answer =
    IsTrue (names event dialogue) → answer ≢ Answer.refused Fault.numbers_spent →
    compared dialogue event answer ≡ compared dialogue event (reply (history_of dialogue h) event)

-- The answers to events, one for each, are those that the dialogue's own history gives, each after what
-- stands before it (own).
abbrev pub AreAnsweredAlone : ℕ → History → List Event → List Answer → Type 0
AreAnsweredAlone dialogue h [] answers = answers ≡ []
AreAnsweredAlone dialogue h (event ∷ events) [] = ⊥
AreAnsweredAlone dialogue h (event ∷ events) (answer ∷ answers) =
    IsAnsweredAlone dialogue h event answer × AreAnsweredAlone dialogue (with_pair h event) events answers

-- What an engine answers to an event, at whatever history it stood (own).
abbrev pub EachAnswerIsAlone : Type 0
EachAnswerIsAlone =
    (dialogue : ℕ) (h : History) (event : Event) (answer : Answer) (engine : World) →
    StandsOn h event answer engine → IsAnsweredAlone dialogue h event answer

-- The answers that a run adds (own).
abbrev pub EachRunIsAlone : Type 0
EachRunIsAlone =
    (dialogue : ℕ) (h : History) (events : List Event) (engine : World) (before after : List Answer) →
    StandsThrough h events engine before after → AreAnsweredAlone dialogue h events (new_answers before after)
