-- One dialogue played through: what happens to it, one thing after the other, and what it answers.
use Rattle.std.specs.Prelude.{◌≡◌, ℕ, ◌+◌, ◌||◌, Bool, true, false, List, [], ◌∷◌, ◌++◌, Option, Some, None, Result, Ok, Err}
use Rattle.tcap_pdu.specs.declared.fault.FrameFault.{FrameFault}
use Rattle.tcap_pdu.specs.FrameSpelling.{Message}
use Rattle.tcap_pdu.specs.FrameReading.{frame_at}
use Rattle.tcap_pdu.specs.FrameWritten.{written_frame}
use Rattle.tcap_model.specs.Words.Answer.{Answer}
use Rattle.tcap_model.specs.Procedures.AbortRules.{fault_cause}
use Rattle.tcap_model.specs.Procedures.QueueRules.{queue_limit}
use Rattle.tcap_model.specs.Table.Dialogue.{Dialogue, fresh_dialogue}
use Rattle.tcap_model.specs.Procedures.Reception.{Reception, reception}
use Rattle.tcap_examples.specs.Values.Peer.{peer_address}
use Rattle.tcap_model.specs.Table.TableMove.{Setting, DialogueEvent, Moved, table_move, born}

-- What a message to a dialogue that is live is for it, as it was read or by its fault (own).
abbrev pub heard_by : Result Message FrameFault → DialogueEvent
heard_by (Ok m) = DialogueEvent.frame peer_address m
heard_by (Err f) = DialogueEvent.fault (fault_cause f)

-- What the bytes of a message to a dialogue that is live are for it (own).
abbrev pub heard : List ℕ → DialogueEvent
heard bytes = heard_by (frame_at bytes)

-- The number that the next invocation gets: an accepted Invoke has taken one (own).
abbrev pub number_after : ℕ → Answer → ℕ
number_after next (Answer.new_dialogue dialogue) = next
number_after next (Answer.number number) = next + 1
number_after next Answer.done = next
number_after next (Answer.given_up number) = next
number_after next (Answer.outputs outputs) = next
number_after next (Answer.refused fault) = next

-- The clock after an event: a moment sets it (own).
abbrev pub clock_played : ℕ → DialogueEvent → ℕ
clock_played clock (DialogueEvent.request request) = clock
clock_played clock (DialogueEvent.frame from message) = clock
clock_played clock (DialogueEvent.fault cause) = clock
clock_played clock (DialogueEvent.moment now) = now

-- How far a dialogue was played: what is around it, the dialogue, its answers, and whether it is over
-- (own).
pub record Played : Type 0 where
  pub setting : Setting
  pub dialogue : Dialogue
  pub answers : List Answer
  pub is_over : Bool

-- At the start: the clock is 0, the first invocation gets number 1, and a queue has its usual limit
-- (own).
abbrev pub first_setting : Setting
first_setting = record { clock = 0; number = 1; limit = queue_limit }

-- A new dialogue of identifier 1, where identifiers wait so long for a Reject, in milliseconds (own).
abbrev pub opened_with : ℕ → Played
opened_with reject_ms =
    record { setting = first_setting; dialogue = fresh_dialogue 1 reject_ms 0; answers = []; is_over = false }

-- A new dialogue where identifiers wait 1000 milliseconds for a Reject (own).
abbrev pub opened : Played
opened = opened_with 1000

-- After one event more, and what the dialogue did; it stays over once it is (own).
abbrev pub after_move : Played → DialogueEvent → Moved → Played
after_move p event m = record {
  setting = record {
    clock = clock_played p.setting.clock event;
    number =
        number_after p.setting.number m.answer;
    limit = p.setting.limit;
  };
  dialogue = m.after;
  answers = p.answers ++ m.answer ∷ [];
  is_over = p.is_over || m.is_over;
}

-- After these events, one after the other (own).
unfoldable pub play : Played → List DialogueEvent → Played
play p [] = p
play p (event ∷ events) = play (after_move p event (table_move p.setting p.dialogue event)) events

-- A dialogue as it is created, with what it tells (own).
abbrev pub after_birth : Moved → Played
after_birth m = record { setting = first_setting; dialogue = m.after; answers = m.answer ∷ []; is_over = m.is_over }

-- No dialogue is created (own).
abbrev pub unborn : Played
unborn = record opened { is_over = true }

-- The dialogue that is created, if one is (own).
abbrev pub begun_by : Reception → Played
begun_by (Reception.dropped why) = unborn
begun_by (Reception.aborted answer) = unborn
begun_by (Reception.unidirectional context info components) = unborn
begun_by (Reception.begun origin context info components) =
    after_birth (born first_setting 1 1000 0 peer_address origin context info components)
begun_by (Reception.taken dialogue message) = unborn
begun_by (Reception.broken dialogue answer cause) = unborn

-- The octets of the Abort with which bytes are answered that end no dialogue, if they are so (own).
abbrev pub aborted_with : Reception → Option (List ℕ)
aborted_with (Reception.dropped why) = None
aborted_with (Reception.aborted answer) = Some (written_frame answer)
aborted_with (Reception.unidirectional context info components) = None
aborted_with (Reception.begun origin context info components) = None
aborted_with (Reception.taken dialogue message) = None
aborted_with (Reception.broken dialogue answer cause) = None

-- The dialogue that faulty bytes end, the octets of the Abort with which they are answered, and the cause,
-- if they are so (own).
abbrev pub broken_with : Reception → Option (ℕ × (List ℕ × ℕ))
broken_with (Reception.dropped why) = None
broken_with (Reception.aborted answer) = None
broken_with (Reception.unidirectional context info components) = None
broken_with (Reception.begun origin context info components) = None
broken_with (Reception.taken dialogue message) = None
broken_with (Reception.broken dialogue None cause) = None
broken_with (Reception.broken dialogue (Some answer) cause) = Some (dialogue, (written_frame answer, cause))

-- Nothing is live before the first message (own).
abbrev pub is_none_live : ℕ → Bool
is_none_live dialogue = false

-- The dialogue that is created by a Begin with these bytes, if it is accepted (own).
unfoldable pub begun_from : List ℕ → Played
begun_from bytes = begun_by (reception is_none_live false bytes)

-- The answers, and whether the dialogue is over (own).
pub record Seen : Type 0 where
  pub answers : List Answer
  pub is_over : Bool

-- How far a dialogue was played, as it is seen from outside (own).
abbrev pub as_seen : Played → Seen
as_seen p = record { answers = p.answers; is_over = p.is_over }

-- To these events the dialogue answers so, and goes on (own).
abbrev pub Answers : Played → List DialogueEvent → List Answer → Type 0
Answers p events answers = as_seen (play p events) ≡ record { answers = answers; is_over = false }

-- To these events the dialogue answers so, and is over then (own).
abbrev pub Ends : Played → List DialogueEvent → List Answer → Type 0
Ends p events answers = as_seen (play p events) ≡ record { answers = answers; is_over = true }
