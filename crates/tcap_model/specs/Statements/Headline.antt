-- What is to be proved of every legal history: the headline.
use Rattle.std.specs.Prelude.{◌≡◌, ℕ, ℤ, ◌≤◌, List, [], ◌∷◌, length, map}
use Rattle.std.specs.Prelude.{Option, Some, None, option_map, option_to_list}
use Rattle.tcap_model.specs.Histories.Clock.{clock}
use Rattle.tcap_model.specs.Invocations.Closings.{Told, closings}
use Rattle.tcap_model.specs.Invocations.Deadline.{deadline}
use Rattle.tcap_model.specs.Invocations.Decision.{decision, as_list}
use Rattle.tcap_model.specs.Histories.History.{History}
use Rattle.tcap_model.specs.Invocations.Invocation.{Invocation, invocation_of}
use Rattle.tcap_model.specs.Replies.Legal.{IsLegal}
use Rattle.tcap_model.specs.Histories.Life.{Life, life, standing_dialogues}
use Rattle.tcap_model.specs.Invocations.Outcome.{outcome_of, outcome}
use Rattle.tcap_model.specs.Words.Output.{Closing}
use Rattle.tcap_model.specs.Histories.Pair.{Pair, Past}
use Rattle.tcap_model.specs.Statements.Places.{StandsIn}
use Rattle.tcap_model.specs.Replies.Queue.{queue}
use Rattle.tcap_model.specs.Procedures.QueueRules.{queue_limit, joined}
use Rattle.tcap_model.specs.Table.World.{rows_of}

-- ---- decided

-- The closing indications of a number are none where its invocation has no outcome, and else the one
-- that its outcome asks for, in the answer to the event whose mark decided (own).
abbrev pub Decided : History → ℕ → Type 0
Decided h n = closings n h.pairs ≡ as_list (decision n h.pairs)

-- With this pair the invocation of a number has this outcome, and before it none (own).
pub record IsDecidedBy (n : ℕ) (closing : Closing) (pair : Pair) (before : Past) : Type 0 where
  pub is_outcome : outcome n (pair ∷ before) ≡ Some closing
  pub none_before : outcome n before ≡ None

-- A number has one closing indication in all. It tells this outcome, in the answer of the pair that
-- decided it (own).
pub record IsToldOnce (n : ℕ) (closing : Closing) (past : Past) : Type 0 where
  pub told : Told
  pub pair : Pair
  pub before : Past
  pub is_all : closings n past ≡ told ∷ []
  pub is_closing : told.closing ≡ closing
  pub is_place : told.place ≡ pair ∷ before
  pub stands : StandsIn pair before past
  pub is_decided : IsDecidedBy n closing pair before

-- Decided, in the plain form: the closing indications of a number are none where its invocation has no
-- outcome; where it has one, they are one alone, in the answer to the event whose mark decided (own).
pub record PlainlyDecided (h : History) (n : ℕ) : Type 0 where
  pub none : outcome n h.pairs ≡ None → closings n h.pairs ≡ []
  pub one : (closing : Closing) → outcome n h.pairs ≡ Some closing → IsToldOnce n closing h.pairs

-- ---- outcome

-- What is told of the end of an invocation, without its place: its dialogue, its identifier and how it
-- was closed (own).
pub record ToldClosing : Type 0 where
  pub dialogue : ℕ
  pub id : ℤ
  pub closing : Closing

-- The ending that a closing indication tells (own).
abbrev pub told_closing : Told → ToldClosing
told_closing told = record { dialogue = told.dialogue; id = told.id; closing = told.closing }

-- The ending of an invocation with this outcome (own).
abbrev pub closing_due : Invocation → Option Closing → List ToldClosing
closing_due i outcome =
    option_to_list (option_map (λ closing. record { dialogue = i.dialogue; id = i.id; closing = closing }) outcome)

-- The closing indications of an invocation are none where it has no outcome, and else one: its outcome
-- with its contents, with the invocation's dialogue and identifier (own).
abbrev pub HasOutcome : History → ℕ → Type 0
HasOutcome h n = (i : Invocation) → invocation_of n h.pairs ≡ Some i
    → map told_closing (closings n h.pairs) ≡ closing_due i (outcome_of (Some i) h.pairs)

-- ---- counting

-- Each number has at most one closing indication. It has exactly one once a moment at or past its
-- deadline was accepted, or its dialogue is over (own).
pub record Counted (h : History) (n : ℕ) : Type 0 where
  pub most : length (closings n h.pairs) ≤ 1
  pub late : (i : Invocation) (t : ℕ) → invocation_of n h.pairs ≡ Some i → deadline i h.pairs ≡ Some t
      → t ≤ clock h.pairs → length (closings n h.pairs) ≡ 1
  pub over : (i : Invocation) → invocation_of n h.pairs ≡ Some i → life i.dialogue h.pairs ≡ Life.over
      → length (closings n h.pairs) ≡ 1

-- ---- bound

-- How many invoke identifiers a dialogue may have in use: as many as there are octets (own).
abbrev pub identifier_count : ℕ
identifier_count = 256

-- At most as many dialogues stand as may, each with at most 256 invoke identifiers in use and a queue
-- within its limit (own).
pub record Bounded (h : History) : Type 0 where
  pub dialogues : length (standing_dialogues h.pairs) ≤ h.start.max_dialogues
  pub identifiers : (dialogue : ℕ) → length (rows_of h.start.reject_ms dialogue h.pairs) ≤ identifier_count
  pub queues : (dialogue : ℕ) → length (joined (queue dialogue h.pairs)) ≤ queue_limit

-- ---- the statements

-- Every number at every legal history is decided so (own).
abbrev pub EachIsDecided : Type 0
EachIsDecided = (h : History) (n : ℕ) → IsLegal h → Decided h n

-- Each number of each legal history is decided, in the plain form (own).
abbrev pub EachIsPlainlyDecided : Type 0
EachIsPlainlyDecided = (h : History) (n : ℕ) → IsLegal h → PlainlyDecided h n

-- Every number at every legal history has its outcome told (own).
abbrev pub EachHasOutcome : Type 0
EachHasOutcome = (h : History) (n : ℕ) → IsLegal h → HasOutcome h n

-- Every number at every legal history is counted so (own).
abbrev pub EachIsCounted : Type 0
EachIsCounted = (h : History) (n : ℕ) → IsLegal h → Counted h n

-- Every legal history keeps within its bounds (own).
abbrev pub EachIsBounded : Type 0
EachIsBounded = (h : History) → IsLegal h → Bounded h
