-- Engines and the messages between them.
use Rattle.std.specs.Prelude.{◌≡◌, ◌≢◌, ℕ, Bool, false, ◌&&◌, bytes_eq, nat_eq, List, [], ◌∷◌, IsTrue, if◌then◌else◌}
use Rattle.std.specs.List.{list_any}
use Rattle.tcap_model.specs.Words.Address.{Address}
use Rattle.tcap_model.specs.Words.Answer.{Answer}
use Rattle.tcap_model.specs.Words.Event.{Event}
use Rattle.tcap_model.specs.Histories.History.{History, Start}
use Rattle.tcap_model.specs.Replies.Legal.{IsLegal}
use Rattle.tcap_model.specs.Words.Output.{Output}
use Rattle.tcap_model.specs.Histories.Pair.{Pair, Past}

-- One of any number of engines, by its number (own).
abbrev pub Engine : Type 0
Engine = ℕ

-- A pair of one of the engines (own).
pub record Marked : Type 0 where
  pub engine : Engine
  pub pair : Pair

-- The pairs of all, the newest first (own).
abbrev pub Trace : Type 0
Trace = List Marked

-- The pairs of one engine, the newest first (own).
abbrev pub side : Engine → Trace → Past
side engine [] = []
side engine (m ∷ trace) = if nat_eq engine m.engine then m.pair ∷ side engine trace else side engine trace

-- ---- addresses

-- Where each engine is: its addresses (own).
abbrev pub Places : Type 0
Places = Engine → List Address

-- Whether an address is one of the engine's (own).
abbrev pub is_at : Places → Engine → Address → Bool
is_at places engine address = list_any (bytes_eq address) (places engine)

-- No address is that of two engines (own).
abbrev pub AreApart : Places → Type 0
AreApart places =
    (one other : Engine) (address : Address) → IsTrue (is_at places one address) →
    IsTrue (is_at places other address) → one ≡ other

-- ---- messages

-- Whether an output sends these bytes to the engine (own).
abbrev pub is_send : Places → Engine → List ℕ → Output → Bool
is_send places engine bytes (Output.send to sent) = is_at places engine to && bytes_eq sent bytes
is_send places engine bytes (Output.dialogue indication) = false
is_send places engine bytes (Output.component indication) = false
is_send places engine bytes (Output.dropped why) = false

-- Whether an answer sends these bytes to the engine (own).
abbrev pub answer_sends : Places → Engine → List ℕ → Answer → Bool
answer_sends places engine bytes (Answer.outputs outputs) = list_any (is_send places engine bytes) outputs
answer_sends places engine bytes (Answer.new_dialogue dialogue) = false
answer_sends places engine bytes (Answer.number n) = false
answer_sends places engine bytes Answer.done = false
answer_sends places engine bytes (Answer.given_up n) = false
answer_sends places engine bytes (Answer.refused fault) = false

-- Whether these bytes were sent to the engine in a history (own).
abbrev pub was_sent : Places → Engine → List ℕ → Past → Bool
was_sent places engine bytes past = list_any (λ (pair : Pair). answer_sends places engine bytes pair.answer) past

-- Bytes that an engine receives come from another, at whose addresses their sender's is, and which sent
-- them to the receiver before (own).
pub record ComesFromOther (places : Places) (engine : Engine) (from : Address) (bytes : List ℕ) (trace : Trace) : Type 0
  where
    pub sender : Engine
    pub is_other : sender ≢ engine
    pub is_from : IsTrue (is_at places sender from)
    pub is_sent : IsTrue (was_sent places engine bytes (side sender trace))

-- What is received comes from another engine (own).
abbrev pub IsCarriedTo : Places → Engine → Event → Trace → Type 0
IsCarriedTo places engine Event.new_dialogue trace = Unit {0}
IsCarriedTo places engine (Event.on_dialogue dialogue request) trace = Unit {0}
IsCarriedTo places engine (Event.received from bytes) trace = ComesFromOther places engine from bytes trace
IsCarriedTo places engine (Event.moment now) trace = Unit {0}

-- All that is received was sent to the receiver by another engine in an earlier pair, any message any
-- number of times and in any order (own).
abbrev pub IsCarried : Places → Trace → Type 0
IsCarried places [] = Unit {0}
IsCarried places (m ∷ trace) = IsCarriedTo places m.engine m.pair.event trace × IsCarried places trace

-- Any number of engines, each with a start and addresses of its own, and what happened to all (own).
pub record Net : Type 0 where
  pub start : Engine → Start
  pub places : Places
  pub trace : Trace

-- The history of one of the engines (own).
abbrev pub history_in : Net → Engine → Trace → History
history_in net engine trace = record { start = net.start engine; pairs = side engine trace }

-- The pairs of each engine, in their order, are a legal history; what one receives another sent to it
-- before; and no address is that of two (own).
pub record IsNet (net : Net) : Type 0 where
  pub is_legal : (engine : Engine) → IsLegal (history_in net engine net.trace)
  pub are_apart : AreApart net.places
  pub is_carried : IsCarried net.places net.trace
