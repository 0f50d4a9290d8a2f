-- Worked histories: what happens, and what is stated of the end of each invocation.
use Rattle.std.specs.Prelude.{◌≡◌, ℕ, ℤ, ◌-◌, List, length, map, reverse, drop, Option, Some, None, option_map, option_to_list}
use Rattle.tcap_model.specs.Invocations.Closings.{Told, closings}
use Rattle.tcap_model.specs.Invocations.Decision.{decision, as_list}
use Rattle.tcap_model.specs.Histories.History.{Start, History}
use Rattle.tcap_model.specs.Replies.Legal.{IsLegal}
use Rattle.tcap_model.specs.Invocations.Numbers.{numbers}
use Rattle.tcap_model.specs.Invocations.Outcome.{outcome}
use Rattle.tcap_model.specs.Words.Output.{Closing}
use Rattle.tcap_model.specs.Histories.Pair.{Pair, Past}

-- A closing indication: the event whose answer holds it, counted from 1, its dialogue, its invoke
-- identifier, and how the invocation is closed (own).
pub record Indication : Type 0 where
  pub event : ℕ
  pub dialogue : ℕ
  pub id : ℤ
  pub closing : Closing

-- What is stated of the invocation of a number: its one closing indication, if it has one (own).
pub record Stated : Type 0 where
  pub number : ℕ
  pub indication : Option Indication

-- The invocation of this number is closed at this event, in this dialogue, with this invoke
-- identifier, and so (own).
abbrev pub closed_at : ℕ → ℕ → ℕ → ℤ → Closing → Stated
closed_at number event dialogue id closing =
    record {
      number = number;
      indication =
          Some (record { event = event; dialogue = dialogue; id = id; closing = closing });
    }

-- The invocation of this number isn't closed (own).
abbrev pub not_closed : ℕ → Stated
not_closed number = record { number = number; indication = None }

-- A history, and what is stated of each number that an answer in it carries (own).
pub record Worked : Type 0 where
  pub history : History
  pub stated : List Stated

-- A worked history, written in order of time (own).
abbrev pub worked : Start → List Pair → List Stated → Worked
worked start pairs stated = record { history = record { start = start; pairs = reverse pairs }; stated = stated }

-- The pairs up to and with this event, counted from 1 (own).
abbrev pub first_pairs : ℕ → Past → Past
first_pairs count past = drop (length past - count) past

-- A stated indication, with its place (own).
abbrev pub told_as : Past → Indication → Told
told_as past i = record { place = first_pairs i.event past; dialogue = i.dialogue; id = i.id; closing = i.closing }

-- How an invocation is closed, as it is stated (own).
abbrev pub closing_stated : Stated → Option Closing
closing_stated s = option_map (λ (i : Indication). i.closing) s.indication

-- The closing indications of an invocation, as they are stated (own).
abbrev pub told_stated : Past → Stated → List Told
told_stated past s = option_to_list (option_map (told_as past) s.indication)

-- Each invocation has the outcome and the closing indications that are stated, and its outcome is
-- decided where they are told (own).
pub record IsAsStated (past : Past) (stated : List Stated) : Type 0 where
  pub numbered : numbers past ≡ map (λ (s : Stated). s.number) stated
  pub outcomes : map (λ n. outcome n past) (numbers past) ≡ map closing_stated stated
  pub told : map (λ n. closings n past) (numbers past) ≡ map (told_stated past) stated
  pub decided : map (λ n. as_list (decision n past)) (numbers past) ≡ map (told_stated past) stated

-- The history is legal: each answer in it is the reply to what stands before it. And each invocation
-- ends as it is stated (own).
pub record Works (w : Worked) : Type 0 where
  pub is_legal : IsLegal w.history
  pub is_as_stated : IsAsStated w.history.pairs w.stated
