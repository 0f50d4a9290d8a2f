-- What an engine is, and what it is at a history.
use Rattle.std.specs.Prelude.{◌≡◌, ℕ, ◌+◌, ◌==◌, ◌&&◌, Bool, false, List, [], filter_map, Option, Some, None, if◌then◌else◌}
use Rattle.tcap_invocation.specs.declared.stage.Stage.{Stage}
use Rattle.tcap_invocation.specs.declared.stage.Stage.TheVariants as stage
use Rattle.tcap_invocation.specs.Invocations.{Row}
use Rattle.tcap_model.specs.Histories.Birth.{next_dialogue, dialogues}
use Rattle.tcap_model.specs.Histories.Clock.{clock}
use Rattle.tcap_model.specs.Invocations.Closings.{Told}
use Rattle.tcap_model.specs.Invocations.Deadline.{deadline}
use Rattle.tcap_model.specs.Invocations.Decision.{decision}
use Rattle.tcap_model.specs.Table.Dialogue.{Dialogue}
use Rattle.tcap_model.specs.Replies.Due.{standing_of}
use Rattle.tcap_model.specs.Replies.Held.{is_waiting}
use Rattle.tcap_model.specs.Histories.History.{Start, History}
use Rattle.tcap_model.specs.Invocations.Invocation.{Invocation, invocations, latest, next_number}
use Rattle.tcap_model.specs.Replies.Legal.{IsLegal}
use Rattle.tcap_model.specs.Histories.Kept.{kept_address}
use Rattle.tcap_model.specs.Histories.Life.{Life, life, touched}
use Rattle.tcap_model.specs.Histories.Pair.{Past}

-- An engine: how many dialogues may stand, how long an identifier waits for a Reject, how long a dialogue
-- may stay idle, the next dialogue identifier and invocation number, the clock, and the dialogues that
-- stand, by identifier (own).
pub record World : Type 0 where
  pub max_dialogues : ℕ
  pub reject_ms : ℕ
  pub idle_ms : ℕ
  pub next_dialogue : ℕ
  pub next_number : ℕ
  pub clock : ℕ
  pub dialogues : List Dialogue

-- An engine as it starts: the limits and the counters that it is given, clock 0 and no dialogues (own).
abbrev pub first_world : Start → World
first_world start = record {
  max_dialogues = start.max_dialogues;
  reject_ms = start.reject_ms;
  idle_ms = start.idle_ms;
  next_dialogue = start.next_dialogue;
  next_number = start.next_number;
  clock = 0;
  dialogues = [];
}

-- ---- the invocations of a dialogue

-- An invocation that nothing has closed: Queued with its timeout, or Sent with its deadline
-- (Q.774, Invocation state machine).
abbrev pub pending_stage : Invocation → Option ℕ → Stage
pending_stage i None = stage.Queued i.timeout
pending_stage i (Some deadline) = stage.Sent deadline

-- How far an invocation is, if its identifier is in use: pending where nothing has decided; Waiting
-- after a result or an error, until `reject_ms` after the clock then; else its identifier is free
-- (Q.774, Invocation state machine).
abbrev pub stage_by : ℕ → Past → Invocation → Option Told → Option Stage
stage_by reject_ms past i None = Some (pending_stage i (deadline i past))
stage_by reject_ms past i (Some told) =
    if is_waiting reject_ms i.dialogue i.id past told then Some (stage.Waiting (clock told.place + reject_ms)) else None

-- A row: the identifier, and the number, class and stage of its invocation (own).
abbrev pub row : Invocation → Stage → Row
row i s = (i.id, record { number = i.number; class = i.class; stage = s })

-- The row of an invocation, if it is at some stage (own).
abbrev pub row_by : Invocation → Option Stage → Option Row
row_by i None = None
row_by i (Some s) = Some (row i s)

-- Whether an invocation is the latest with its identifier in its dialogue (own).
abbrev pub is_number : ℕ → Option Invocation → Bool
is_number number None = false
is_number number (Some i) = i.number == number

-- The row of an invocation in a dialogue: the latest one of an identifier that is in use (own).
abbrev pub row_of : ℕ → ℕ → Past → Invocation → Option Row
row_of reject_ms dialogue past i =
    if (i.dialogue == dialogue) && is_number i.number (latest i.dialogue i.id past)
    then row_by i (stage_by reject_ms past i (decision i.number past)) else None

-- The rows of a dialogue, by number (own).
abbrev pub rows_of : ℕ → ℕ → Past → List Row
rows_of reject_ms dialogue past = filter_map (row_of reject_ms dialogue past) (invocations past)

-- ---- the dialogues

-- A dialogue, if it stands: with all that its life says, its queue, its invocations, when it was active
-- last, and the address of its peer (own).
abbrev pub dialogue_by : ℕ → ℕ → ℕ → Past → Life → Option Dialogue
dialogue_by reject_ms idle_ms dialogue past Life.unborn = None
dialogue_by reject_ms idle_ms dialogue past (Life.standing state context) = Some (record {
  standing = standing_of dialogue past state context;
  invocations = record { reject_ms = reject_ms; rows = rows_of reject_ms dialogue past };
  idle_ms = idle_ms;
  touched = touched dialogue past;
  kept = kept_address dialogue past;
})
dialogue_by reject_ms idle_ms dialogue past Life.over = None

-- The dialogue of an identifier, if it stands (own).
abbrev pub dialogue_at : ℕ → ℕ → Past → ℕ → Option Dialogue
dialogue_at reject_ms idle_ms past dialogue = dialogue_by reject_ms idle_ms dialogue past (life dialogue past)

-- The engine at a history (own).
abbrev pub world_of : History → World
world_of h = record {
  max_dialogues = h.start.max_dialogues;
  reject_ms = h.start.reject_ms;
  idle_ms = h.start.idle_ms;
  next_dialogue = next_dialogue h;
  next_number = next_number h;
  clock = clock h.pairs;
  dialogues = filter_map (dialogue_at h.start.reject_ms h.start.idle_ms h.pairs) (dialogues h.pairs);
}

-- An engine stands at a legal history if it is what the history says (own).
pub record StandsAt (h : History) (engine : World) : Type 0 where
  pub is_legal : IsLegal h
  pub is_world : engine ≡ world_of h
