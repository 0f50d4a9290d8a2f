-- A play of a script: two engines, and the messages between them.
use Rattle.std.specs.Prelude.{ℕ, ◌+◌, ◌-◌, ◌==◌, Bool, true, false, List, [], ◌∷◌, ◌++◌, codes, length, Option, Some, None, bytes_eq, slice_get, set, if◌then◌else◌}
use Rattle.std.specs.Fmt.{decimal}
use Rattle.std.specs.Option.{option_map, option_and_then}
use Rattle.tcap_model.specs.Histories.History.{History, Start}
use Rattle.tcap_model.specs.Replies.Reply.{reply}
use Rattle.tcap_model.specs.Statements.Net.{Trace, side}
use Rattle.tcap_model.specs.Words.Address.{Address}
use Rattle.tcap_model.specs.Words.Answer.{Answer}
use Rattle.tcap_model.specs.Words.Event.{Event}
use Rattle.tcap_model.specs.Words.Output.{Output}
use Rattle.tcap_play.specs.AnswerText.{answer_lines}
use Rattle.tcap_play.specs.Opening.{Opening, opening_of}
use Rattle.tcap_play.specs.Pieces.{is_skipped, words_of}
use Rattle.tcap_play.specs.ScriptLine.{ScriptLine, line_of}
use Rattle.tcap_play.specs.ScriptWords.{MessageName}
use Rattle.tcap_play.specs.Sides.{Engine, address_of, far, number_of}

-- What became of a message: it waits, it was received on the other side, or it is lost (own).
pub data Fate : Type 0 where
  waiting : Fate
  delivered : Fate
  lost : Fate

-- A message that was sent, and where it goes (own).
pub record Message : Type 0 where
  pub to : Address
  pub octets : List ℕ
  pub fate : Fate

-- The idle limit of both engines, in milliseconds, 0 for none; what happened to them, the newest pair
-- first; and the messages that each sent, in their order (own).
pub record Played : Type 0 where
  pub idle_ms : ℕ
  pub trace : Trace
  pub from_a : List Message
  pub from_b : List Message

-- What a line did: what it prints, and the play after it (own).
pub record Stepped : Type 0 where
  pub text : List ℕ
  pub after : Played

-- ---- engines and messages

-- Each engine lets 16 dialogues stand, and an identifier waits a second for a Reject of its answer; how
-- long a dialogue may stay idle the script says; the first dialogue and the first invocation are 1 (own).
abbrev pub play_start : ℕ → Start
play_start idle_ms = record { max_dialogues = 16; reject_ms = 1000; idle_ms = idle_ms; next_dialogue = 1; next_number = 1 }

-- Before the first line, with this idle limit (own).
abbrev pub not_begun : ℕ → Played
not_begun idle_ms = record { idle_ms = idle_ms; trace = []; from_a = []; from_b = [] }

-- The history of an engine (own).
abbrev pub history_of : Engine → Played → History
history_of engine p = record { start = play_start p.idle_ms; pairs = side (number_of engine) p.trace }

-- The messages that an engine sent (own).
abbrev pub sent_by : Engine → Played → List Message
sent_by Engine.a p = p.from_a
sent_by Engine.b p = p.from_b

-- With these messages of an engine (own).
abbrev pub with_sent : Engine → List Message → Played → Played
with_sent Engine.a messages p = record p { from_a = messages }
with_sent Engine.b messages p = record p { from_b = messages }

-- The messages that outputs send, none of them received (own).
abbrev pub messages_of : List Output → List Message
messages_of [] = []
messages_of (Output.send to bytes ∷ outputs) =
    record { to = to; octets = bytes; fate = Fate.waiting } ∷ messages_of outputs
messages_of (Output.dialogue told ∷ outputs) = messages_of outputs
messages_of (Output.component told ∷ outputs) = messages_of outputs
messages_of (Output.dropped why ∷ outputs) = messages_of outputs

-- The messages that an answer sends (own).
abbrev pub messages_in : Answer → List Message
messages_in (Answer.new_dialogue dialogue) = []
messages_in (Answer.number number) = []
messages_in Answer.done = []
messages_in (Answer.given_up number) = []
messages_in (Answer.outputs outputs) = messages_of outputs
messages_in (Answer.refused fault) = []

-- The message with this number, from 1 (own).
abbrev pub message_at : ℕ → List Message → Option Message
message_at number messages = if number == 0 then None else slice_get messages (number - 1)

-- Whether a message is in this state (own).
abbrev pub has_fate : Fate → Fate → Bool
has_fate Fate.waiting Fate.waiting = true
has_fate Fate.waiting Fate.delivered = false
has_fate Fate.waiting Fate.lost = false
has_fate Fate.delivered Fate.waiting = false
has_fate Fate.delivered Fate.delivered = true
has_fate Fate.delivered Fate.lost = false
has_fate Fate.lost Fate.waiting = false
has_fate Fate.lost Fate.delivered = false
has_fate Fate.lost Fate.lost = true

-- A message, where it is in this state (own).
abbrev pub message_if : Fate → Message → Option Message
message_if fate message = if has_fate fate message.fate then Some message else None

-- The message with this number, where it is in this state (own).
abbrev pub message_in : Fate → ℕ → List Message → Option Message
message_in fate number messages = option_and_then (message_if fate) (message_at number messages)

-- A message, where it goes to this address (own).
abbrev pub message_to : Address → Message → Option Message
message_to address message = if bytes_eq message.to address then Some message else None

-- With this message, which has this number, in another state (own).
abbrev pub with_fate : Fate → ℕ → Message → List Message → List Message
with_fate fate number message messages = set messages (number - 1) (record message { fate = fate })

-- ---- lines

-- An engine is handed an event that is answered so: the answer is printed, and what it sends waits (own).
abbrev pub answered : Engine → Event → Answer → Played → Stepped
answered engine event answer p = record {
  text = answer_lines engine (length (sent_by engine p)) answer;
  after = with_sent engine (sent_by engine p ++ messages_in answer) (record p {
    trace = record { engine = number_of engine; pair = record { event = event; answer = answer; idle_ms = p.idle_ms } } ∷ p.trace;
  });
}

-- An engine is handed an event; its answer is the reply after all that was handed to it before (own).
abbrev pub handed : Engine → Event → Played → Stepped
handed engine event p = answered engine event (reply (history_of engine p) event) p

-- This message is received on the side that didn't send it, from the address of the one that did, and is
-- in a new state (own).
abbrev pub received_from : MessageName → Fate → Played → Message → Stepped
received_from name fate p message = handed (far name.engine) (Event.received (address_of name.engine) message.octets)
    (with_sent name.engine (with_fate fate name.number message (sent_by name.engine p)) p)

-- This message is lost; nothing is printed (own).
abbrev pub lost_from : MessageName → Played → Message → Stepped
lost_from name p message = record {
  text = [];
  after = with_sent name.engine (with_fate Fate.lost name.number message (sent_by name.engine p)) p;
}

-- The message of a name, where it is in this state and goes to the other side (own).
abbrev pub carried : MessageName → Fate → Played → Option Message
carried name fate p =
    option_and_then (message_to (address_of (far name.engine))) (message_in fate name.number (sent_by name.engine p))

-- One step, and another after it (own).
abbrev pub followed : Stepped → (Played → Stepped) → Stepped
followed first next = record { text = first.text ++ (next first.after).text; after = (next first.after).after }

-- What a line does; none where it names no message that can be so treated: only one that waits is
-- delivered or lost, only one that was delivered is received again, and one that goes elsewhere than to the
-- other side is only lost (own).
abbrev pub step : Played → ScriptLine → Option Stepped
step p (ScriptLine.call engine event) = Some (handed engine event p)
step p (ScriptLine.deliver name) =
    option_map (received_from name Fate.delivered p) (carried name Fate.waiting p)
step p (ScriptLine.again name) =
    option_map (received_from name Fate.delivered p) (carried name Fate.delivered p)
step p (ScriptLine.lose name) =
    option_map (lost_from name p) (message_in Fate.waiting name.number (sent_by name.engine p))
step p (ScriptLine.advance now) =
    Some (followed (handed Engine.a (Event.moment now) p) (handed Engine.b (Event.moment now)))

-- What the line of these octets does; none where it has no form of a script (own).
abbrev pub step_by : Played → List ℕ → Option Stepped
step_by p line = option_and_then (step p) (line_of (words_of line))

-- ---- scripts

-- What is printed, and whether it is good (own).
pub record Printed : Type 0 where
  pub text : List ℕ
  pub good : Bool

-- That the line of this number is bad (own).
abbrev pub bad_line : ℕ → List ℕ
bad_line number = codes "line " ++ (decimal number ++ codes " bad\n")

-- Text before what is printed (own).
abbrev pub behind : List ℕ → Printed → Printed
behind text printed = record printed { text = text ++ printed.text }

-- What is printed from a line on: a bad line ends the play, which isn't good then (own).
abbrev pub printed_by : ℕ → (Played → Printed) → Option Stepped → Printed
printed_by number later None = record { text = bad_line number; good = false }
printed_by number later (Some stepped) = behind stepped.text (later stepped.after)

-- What is printed from the line of this number on; skipped lines are counted too (own).
unfoldable pub printed_from : ℕ → Played → List (List ℕ) → Printed
printed_from number p [] = record { text = []; good = true }
printed_from number p (line ∷ lines) =
    if is_skipped line then printed_from (number + 1) p lines
    else printed_by number (λ q. printed_from (number + 1) q lines) (step_by p line)

-- What the play prints of a script that opens so (own).
abbrev pub printed_behind : Opening → Printed
printed_behind opening = printed_from (opening.passed + 1) (not_begun opening.idle_ms) opening.lines

-- What the play of a script prints (own).
abbrev pub printed_of : List ℕ → Printed
printed_of script = printed_behind (opening_of script)

-- Its text (own).
abbrev pub play_text_of : List ℕ → List ℕ
play_text_of script = (printed_of script).text

-- Whether it is good (own).
abbrev pub play_is_good : List ℕ → Bool
play_is_good script = (printed_of script).good
