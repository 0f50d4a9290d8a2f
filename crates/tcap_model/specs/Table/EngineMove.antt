-- What the engine does: to each event its answer, and the engine after it.
use Rattle.std.specs.Prelude.{ℕ, ◌+◌, Bool, false, nat_eq, nat_lt, List, [], ◌∷◌, ◌++◌, length, filter_map}
use Rattle.std.specs.Prelude.{is_some, Option, Some, None, if◌then◌else◌}
use Rattle.tcap_component.specs.ComponentReading.{components_of}
use Rattle.tcap_model.specs.Procedures.AbortRules.{message_sent, sent_if_any}
use Rattle.tcap_model.specs.Procedures.ComponentHandling.{uni_told}
use Rattle.tcap_model.specs.Procedures.QueueRules.{queue_limit}
use Rattle.tcap_model.specs.Procedures.Reception.{Reception, reception}
use Rattle.tcap_model.specs.Table.Dialogue.{Dialogue, fresh_dialogue}
use Rattle.tcap_model.specs.Table.DueLapses.{all_told, all_idle_told, left_at}
use Rattle.tcap_model.specs.Table.TableMove.{Setting, Moved, DialogueEvent, table_move, born, left_standing}
use Rattle.tcap_model.specs.Table.World.{World}
use Rattle.tcap_model.specs.Words.Address.{Address}
use Rattle.tcap_model.specs.Words.Answer.{Answer}
use Rattle.tcap_model.specs.Words.Event.{Event}
use Rattle.tcap_model.specs.Words.Fault.{Fault}
use Rattle.tcap_model.specs.Words.Identifiers.{birth_fault}
use Rattle.tcap_model.specs.Words.Output.{Output, DialogueIndication}
use Rattle.tcap_model.specs.Words.Request.{Request}
use Rattle.tcap_model.specs.Words.State.{is_live}
use Rattle.tcap_model.specs.Words.Time.{moment_fault}

-- The answer to an event, and the engine after it (own).
pub record EngineMoved : Type 0 where
  pub answer : Answer
  pub after : World

-- ---- the dialogues, by identifier

-- Whether a dialogue has this identifier (own).
abbrev pub is_of : ℕ → Dialogue → Bool
is_of identifier d = nat_eq identifier d.standing.identifier

-- The dialogue with an identifier, if it stands (own).
abbrev pub dialogue_in : ℕ → List Dialogue → Option Dialogue
dialogue_in identifier [] = None
dialogue_in identifier (d ∷ ds) = if is_of identifier d then Some d else dialogue_in identifier ds

-- A dialogue of this identifier becomes another one, or is over; any other stays (own).
abbrev pub changed_if : ℕ → Option Dialogue → Dialogue → Option Dialogue
changed_if identifier after d = if is_of identifier d then after else Some d

-- The dialogues, where that of an identifier is another one then, or is over (own).
abbrev pub with_dialogue : ℕ → Option Dialogue → List Dialogue → List Dialogue
with_dialogue identifier after dialogues = filter_map (changed_if identifier after) dialogues

-- Whether a dialogue stands and is live (own).
abbrev pub is_live_if_any : Option Dialogue → Bool
is_live_if_any None = false
is_live_if_any (Some d) = is_live d.standing.state

-- Whether the dialogue with an identifier is live (own).
abbrev pub is_live_in : List Dialogue → ℕ → Bool
is_live_in dialogues identifier = is_live_if_any (dialogue_in identifier dialogues)

-- ---- one dialogue moves

-- What is around each dialogue of an engine (own).
abbrev pub setting_in : World → Setting
setting_in w = record { clock = w.clock; number = w.next_number; limit = queue_limit }

-- The number of the next invocation after an answer: one that carries a number has drawn it (own).
abbrev pub number_after : Answer → ℕ → ℕ
number_after (Answer.number number) next = next + 1
number_after (Answer.new_dialogue dialogue) next = next
number_after Answer.done next = next
number_after (Answer.given_up number) next = next
number_after (Answer.outputs outputs) next = next
number_after (Answer.refused fault) next = next

-- Nothing but the answer (own).
abbrev pub unmoved : World → Answer → EngineMoved
unmoved w answer = record { answer = answer; after = w }

-- The dialogue of an identifier moves (own).
abbrev pub moved_in : World → ℕ → Moved → EngineMoved
moved_in w identifier m = record {
  answer = m.answer;
  after =
      record w {
        next_number = number_after m.answer w.next_number;
        dialogues = with_dialogue identifier (left_standing m) w.dialogues;
      };
}

-- A dialogue is created under the next identifier (own).
abbrev pub born_in : World → Answer → Dialogue → EngineMoved
born_in w answer d = record {
  answer = answer;
  after = record w { next_dialogue = w.next_dialogue + 1; dialogues = w.dialogues ++ d ∷ [] };
}

-- ---- requests

-- Why no dialogue can be created, if so (own).
abbrev pub birth_fault_in : World → Option Fault
birth_fault_in w = birth_fault w.max_dialogues (length w.dialogues) w.next_dialogue

-- A new dialogue is asked for: it is Idle, or refused (Q.774, Transaction state machine).
abbrev pub asked_in : World → Option Fault → EngineMoved
asked_in w (Some fault) = unmoved w (Answer.refused fault)
asked_in w None = born_in w (Answer.new_dialogue w.next_dialogue)
    (fresh_dialogue w.next_dialogue w.reject_ms w.idle_ms)

-- A request on the dialogue of an identifier; where none stands it is unknown (Q.774, Dialogue control).
abbrev pub requested_in : World → ℕ → Request → Option Dialogue → EngineMoved
requested_in w identifier request None = unmoved w (Answer.refused Fault.unknown_dialogue)
requested_in w identifier request (Some d) =
    moved_in w identifier (table_move (setting_in w) d (DialogueEvent.request request))

-- ---- received bytes

-- Outputs before those of an answer (own).
abbrev pub told_first : List Output → Answer → Answer
told_first first (Answer.outputs outputs) = Answer.outputs (first ++ outputs)
told_first first (Answer.number number) = Answer.number number
told_first first (Answer.new_dialogue dialogue) = Answer.new_dialogue dialogue
told_first first Answer.done = Answer.done
told_first first (Answer.given_up number) = Answer.given_up number
told_first first (Answer.refused fault) = Answer.refused fault

-- A dialogue moves, and what is sent goes out before what it tells (own).
abbrev pub sending_first : List Output → Moved → Moved
sending_first sent m = record m { answer = told_first sent m.answer }

-- A message to the dialogue of an identifier, or a faulty one, with what is sent for it first; where none
-- stands nothing happens (Q.774, Transaction sublayer procedures).
abbrev pub reached_in : World → ℕ → List Output → DialogueEvent → Option Dialogue → EngineMoved
reached_in w identifier sent event None = unmoved w (Answer.outputs [])
reached_in w identifier sent event (Some d) =
    moved_in w identifier (sending_first sent (table_move (setting_in w) d event))

-- A dialogue that a Begin creates (Q.774, Dialogue begin).
abbrev pub begun_in : World → Moved → EngineMoved
begun_in w m = born_in w m.answer m.after

-- What becomes of bytes received from an address: they are dropped or aborted, told as a Unidirectional,
-- create a dialogue, or reach the one that they name; an Abort goes to the address that they came
-- from (Q.774, Transaction sublayer procedures; where it goes is own).
abbrev pub received_in : World → Address → Reception → EngineMoved
received_in w from (Reception.dropped why) = unmoved w (Answer.outputs (Output.dropped why ∷ []))
received_in w from (Reception.aborted message) = unmoved w (Answer.outputs (message_sent from message ∷ []))
received_in w from (Reception.unidirectional context info components) =
    unmoved w
    (Answer.outputs (Output.dialogue (DialogueIndication.uni context info) ∷ uni_told (components_of components)))
received_in w from (Reception.begun origin context info components) =
    begun_in w (born (setting_in w) w.next_dialogue w.reject_ms w.idle_ms from origin context info components)
received_in w from (Reception.taken identifier message) =
    reached_in w identifier [] (DialogueEvent.frame from message) (dialogue_in identifier w.dialogues)
received_in w from (Reception.broken identifier abort cause) =
    reached_in w identifier (sent_if_any from abort) (DialogueEvent.fault cause) (dialogue_in identifier w.dialogues)

-- ---- moments

-- An accepted moment becomes the clock; what is due in all dialogues is told, and each identifier that
-- has waited is free; then the dialogues that have been idle too long are over
-- (Q.774, Invocation timer; Q.774, Reject timer; that dialogues end is own).
abbrev pub advanced : World → ℕ → EngineMoved
advanced w now = record {
  answer = Answer.outputs (all_told now w.dialogues ++ all_idle_told now w.dialogues);
  after = record w { clock = now; dialogues = filter_map (left_at now) w.dialogues };
}

-- A moment: one above the limit is refused, one below the clock does nothing (own).
abbrev pub moment_in : World → ℕ → Option Fault → EngineMoved
moment_in w now (Some fault) = unmoved w (Answer.refused fault)
moment_in w now None = if nat_lt now w.clock then unmoved w (Answer.outputs []) else advanced w now

-- ---- all events

-- What the engine does (Q.774, Transaction sublayer procedures; Q.774, Component handling).
unfoldable pub engine_move : World → Event → EngineMoved
engine_move w Event.new_dialogue = asked_in w (birth_fault_in w)
engine_move w (Event.on_dialogue identifier request) =
    requested_in w identifier request (dialogue_in identifier w.dialogues)
engine_move w (Event.received from bytes) =
    received_in w from (reception (is_live_in w.dialogues) (is_some (birth_fault_in w)) bytes)
engine_move w (Event.moment now) = moment_in w now (moment_fault now)
