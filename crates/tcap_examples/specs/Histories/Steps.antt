-- Histories step by step: the engine before and after each event, and what its one dialogue does.
use Rattle.std.specs.Prelude.{◌≡◌, ℕ, nat_lt, true, false, List, [], ◌∷◌, Option, Some, None, if◌then◌else◌}
use Rattle.tcap_model.specs.Words.Answer.{Answer}
use Rattle.tcap_model.specs.Table.Dialogue.{Dialogue, fresh_dialogue}
use Rattle.tcap_model.specs.Words.Event.{Event}
use Rattle.tcap_model.specs.Histories.History.{History, Start}
use Rattle.tcap_examples.specs.Dialogues.Played.{heard}
use Rattle.tcap_model.specs.Replies.Reply.{reply}
use Rattle.tcap_model.specs.Table.TableMove.{Setting, DialogueEvent, table_move}
use Rattle.tcap_model.specs.Table.World.{World, world_of}
use Rattle.tcap_model.specs.Table.EngineMove.{setting_in}

-- ---- what is written

-- An event, its answer, and the engine after it (own).
pub record Step : Type 0 where
  pub event : Event
  pub answer : Answer
  pub after : World

-- A start, the engine there, and steps in order of time (own).
pub record Walk : Type 0 where
  pub start : Start
  pub before : World
  pub steps : List Step

-- The history before the first step (own).
abbrev pub nothing_happened : Start → History
nothing_happened start = record { start = start; pairs = [] }

-- The history after a step (own).
abbrev pub after_step : History → Step → History
after_step h step = record {
  start = h.start;
  pairs = record { event = step.event; answer = step.answer; idle_ms = h.start.idle_ms } ∷ h.pairs;
}

-- ---- what the dialogue does

-- What an event is for a dialogue that stands and that it names, at this clock: the request for a new
-- dialogue and a moment below the clock are nothing for it. A dialogue that was asked for stands as a
-- fresh one, and after a moment below the clock each stands as it was (own).
abbrev pub dialogue_event : ℕ → Event → Option DialogueEvent
dialogue_event clock Event.new_dialogue = None
dialogue_event clock (Event.on_dialogue dialogue request) = Some (DialogueEvent.request request)
dialogue_event clock (Event.received from bytes) = Some (heard bytes)
dialogue_event clock (Event.moment now) = if nat_lt now clock then None else Some (DialogueEvent.moment now)

-- The dialogue answers so, goes on, and is the second one then (own).
pub record GoesOn (s : Setting) (before : Dialogue) (event : DialogueEvent) (answer : Answer) (after : Dialogue) : Type
    0 where
  pub answers : (table_move s before event).answer ≡ answer
  pub becomes : (table_move s before event).after ≡ after
  pub stands : (table_move s before event).is_over ≡ false

-- The dialogue answers so and is over (own).
pub record GoesOver (s : Setting) (before : Dialogue) (event : DialogueEvent) (answer : Answer) : Type 0 where
  pub answers : (table_move s before event).answer ≡ answer
  pub is_over : (table_move s before event).is_over ≡ true

-- The one dialogue that stands does what leads to the dialogues after the event: it goes on, or it is
-- over and none is left; what is nothing for it leaves it as it was (own).
abbrev pub Moves : Setting → Dialogue → Option DialogueEvent → Answer → List Dialogue → Type 0
Moves s before None answer after = after ≡ before ∷ []
Moves s before (Some event) answer [] = GoesOver s before event answer
Moves s before (Some event) answer (after ∷ []) = GoesOn s before event answer after
Moves s before (Some event) answer (after ∷ another ∷ others) = ⊥

-- The dialogues after an event, where none stands before it: the one that was asked for is Idle
-- (own).
abbrev pub first_dialogues : ℕ → ℕ → Answer → List Dialogue
first_dialogues reject_ms idle_ms (Answer.new_dialogue dialogue) = fresh_dialogue dialogue reject_ms idle_ms ∷ []
first_dialogues reject_ms idle_ms (Answer.number number) = []
first_dialogues reject_ms idle_ms Answer.done = []
first_dialogues reject_ms idle_ms (Answer.given_up number) = []
first_dialogues reject_ms idle_ms (Answer.outputs outputs) = []
first_dialogues reject_ms idle_ms (Answer.refused fault) = []

-- From the dialogues before an event, at most one, to those after it (own).
abbrev pub LeadsTo : World → List Dialogue → Step → Type 0
LeadsTo w [] step = step.after.dialogues ≡ first_dialogues w.reject_ms w.idle_ms step.answer
LeadsTo w (before ∷ []) step =
    Moves (setting_in w) before (dialogue_event w.clock step.event) step.answer step.after.dialogues
LeadsTo w (before ∷ another ∷ others) step = ⊥

-- ---- the steps

-- The answer is the reply to what stands before it; the engine at the history with this step is the
-- one that is written; and what the dialogue does answers so and leads there (own).
pub record IsStep (h : History) (before : World) (step : Step) : Type 0 where
  pub is_reply : reply h step.event ≡ step.answer
  pub is_world : world_of (after_step h step) ≡ step.after
  pub leads : LeadsTo before before.dialogues step

-- Each step is one, from where the step before it leads (own).
abbrev pub AreSteps : History → World → List Step → Type 0
AreSteps h before [] = Unit {0}
AreSteps h before (step ∷ steps) = IsStep h before step × AreSteps (after_step h step) step.after steps

-- The engine at the start is the one that is written, and each step is one (own).
pub record Walks (w : Walk) : Type 0 where
  pub begins : world_of (nothing_happened w.start) ≡ w.before
  pub goes : AreSteps (nothing_happened w.start) w.before w.steps
