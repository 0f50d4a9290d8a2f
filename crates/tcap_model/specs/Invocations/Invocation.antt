-- Invocations: each accepted invoke, under the number that its answer carries.
use Rattle.std.specs.Prelude.{ℕ, ℤ, ◌+◌, ◌==◌, ◌&&◌, List, [], ◌∷◌, Bool, Option, Some, None, is_some, option_to_list, find, if◌then◌else◌}
use Rattle.std.specs.Option.{option_or}
use Rattle.std.specs.Ordering.{int_eq}
use Rattle.tcap_invocation.specs.declared.class.Class.{Class}
use Rattle.tcap_model.specs.Words.Answer.{Answer}
use Rattle.tcap_model.specs.Words.Event.{Event}
use Rattle.tcap_model.specs.Histories.History.{History}
use Rattle.tcap_model.specs.Invocations.Numbers.{number_of}
use Rattle.tcap_model.specs.Histories.Pair.{Pair, Past, gathered}
use Rattle.tcap_model.specs.Words.Request.{Request, ComponentRequest}

-- An invocation: its number, its dialogue, its invoke identifier, its operation class and its
-- timeout in milliseconds (Q.774, Invocation state machine).
pub record Invocation : Type 0 where
  pub number : ℕ
  pub dialogue : ℕ
  pub id : ℤ
  pub class : Class
  pub timeout : ℕ

-- The invocation that a request on a dialogue makes, under the number that its answer may carry
-- (Q.771, Component handling).
abbrev pub invoked_under : ℕ → Request → Option ℕ → Option Invocation
invoked_under dialogue request None = None
invoked_under dialogue (Request.component (ComponentRequest.invoke id class code parameter linked timeout)) (Some n) =
    Some (record { number = n; dialogue = dialogue; id = id; class = class; timeout = timeout })
invoked_under dialogue (Request.component (ComponentRequest.result_last id body)) (Some n) = None
invoked_under dialogue (Request.component (ComponentRequest.result_more id body)) (Some n) = None
invoked_under dialogue (Request.component (ComponentRequest.error_back id code parameter)) (Some n) = None
invoked_under dialogue (Request.component (ComponentRequest.u_reject id problem)) (Some n) = None
invoked_under dialogue (Request.component (ComponentRequest.u_cancel id)) (Some n) = None
invoked_under dialogue (Request.dialogue asked) (Some n) = None

-- The invocation that an event with this answer makes (own).
abbrev pub invoked_of : Event → Answer → Option Invocation
invoked_of Event.new_dialogue answer = None
invoked_of (Event.on_dialogue dialogue request) answer = invoked_under dialogue request (number_of answer)
invoked_of (Event.received from bytes) answer = None
invoked_of (Event.moment now) answer = None

-- The invocation that a pair makes, if any (own).
abbrev pub invoked_by : Pair → Option Invocation
invoked_by pair = invoked_of pair.event pair.answer

-- How many invoke requests were accepted (own).
abbrev pub invokes : Past → ℕ
invokes [] = 0
invokes (pair ∷ past) = if is_some (invoked_by pair) then invokes past + 1 else invokes past

-- The number of the next invocation: they are drawn from a counter, each once (own).
abbrev pub next_number : History → ℕ
next_number history = history.start.next_number + invokes history.pairs

-- The invocations, in order of time (own).
abbrev pub invocations : Past → List Invocation
invocations past = gathered (λ pair before. option_to_list (invoked_by pair)) past

-- The invocation of a number (own).
abbrev pub invocation_of : ℕ → Past → Option Invocation
invocation_of n past = find (λ (i : Invocation). i.number == n) (invocations past)

-- Whether an invocation has this dialogue and identifier (own).
abbrev pub has_id : ℕ → ℤ → Invocation → Bool
has_id dialogue id i = (i.dialogue == dialogue) && int_eq i.id id

-- An invocation, if there is one with this dialogue and identifier (own).
abbrev pub with_id : ℕ → ℤ → Option Invocation → Option Invocation
with_id dialogue id None = None
with_id dialogue id (Some i) = if has_id dialogue id i then Some i else None

-- The latest invocation with this identifier in the dialogue (own).
abbrev pub latest : ℕ → ℤ → Past → Option Invocation
latest dialogue id [] = None
latest dialogue id (pair ∷ past) = option_or (with_id dialogue id (invoked_by pair)) (latest dialogue id past)
