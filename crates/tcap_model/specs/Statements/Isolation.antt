-- What is to be proved of every legal history: no dialogue sees another.
use Rattle.std.specs.Prelude.{◌≡◌, ◌≢◌, ℕ, IsTrue}
use Rattle.tcap_model.specs.Words.Answer.{Answer}
use Rattle.tcap_model.specs.Words.Event.{Event}
use Rattle.tcap_model.specs.Words.Fault.{Fault}
use Rattle.tcap_model.specs.Histories.History.{History}
use Rattle.tcap_model.specs.Replies.Legal.{IsLegal}
use Rattle.tcap_model.specs.Histories.Names.{names}
use Rattle.tcap_model.specs.Statements.Only.{only, answer_within}
use Rattle.tcap_model.specs.Replies.Reply.{reply}

-- The history of one dialogue (own).
abbrev pub history_of : ℕ → History → History
history_of dialogue h = record { start = h.start; pairs = only dialogue h.pairs }

-- An answer without the number that an invoke draws (own).
abbrev pub without_number : Answer → Answer
without_number (Answer.new_dialogue dialogue) = Answer.new_dialogue dialogue
without_number (Answer.number n) = Answer.number 0
without_number Answer.done = Answer.done
without_number (Answer.given_up n) = Answer.given_up n
without_number (Answer.outputs outputs) = Answer.outputs outputs
without_number (Answer.refused fault) = Answer.refused fault

-- What is compared of an answer to an event: of a moment the outputs of the dialogue, of an invoke that
-- it was accepted and not the number that it draws, of all else everything (own).
abbrev pub compared : ℕ → Event → Answer → Answer
compared dialogue Event.new_dialogue answer = answer
compared dialogue (Event.on_dialogue named request) answer = without_number answer
compared dialogue (Event.received from bytes) answer = answer
compared dialogue (Event.moment now) answer = answer_within dialogue answer

-- The reply to an event is the one that the dialogue's own history gives, as far as it is compared
-- (own).
abbrev pub IsAlone : History → ℕ → Event → Type 0
IsAlone h dialogue event =
    compared dialogue event (reply h event) ≡ compared dialogue event (reply (history_of dialogue h) event)

-- Neither other dialogues nor their peers are seen in a dialogue, be it created or not: for each event that
-- names it, unless no invocation number is left (own).
abbrev pub EachIsAlone : Type 0
EachIsAlone =
    (h : History) (dialogue : ℕ) (event : Event) → IsLegal h → IsTrue (names event dialogue) →
    reply h event ≢ Answer.refused Fault.numbers_spent → IsAlone h dialogue event
