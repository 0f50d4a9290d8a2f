-- A play as a net: two engines that hear one another and nobody else, and what its text shows of them.
use Rattle.std.specs.Prelude.{◌≡◌, ◌+◌, ◌&&◌, not, ℕ, Bool, true, false, List, [], ◌∷◌, ◌++◌, length, Option, Some, None, IsTrue, if◌then◌else◌}
use Rattle.std.specs.List.{list_all}
use Rattle.tcap_model.specs.Histories.Pair.{Past}
use Rattle.tcap_model.specs.Statements.Net.{IsNet, Net, Trace, side}
use Rattle.tcap_model.specs.Statements.TwoEnds.{TwoEnds}
use Rattle.tcap_model.specs.Words.Event.{Event}
use Rattle.tcap_play.specs.AnswerText.{answer_lines}
use Rattle.tcap_play.specs.Opening.{Opening, opening_of}
use Rattle.tcap_play.specs.Pieces.{is_skipped, lines_of, words_of}
use Rattle.tcap_play.specs.Play.{Played, Stepped, bad_line, messages_in, not_begun, play_start, play_text_of, play_is_good, step_by}
use Rattle.tcap_play.specs.ScriptLine.{ScriptLine, line_of}
use Rattle.tcap_play.specs.Sides.{engine_numbered, play_places}

-- ---- raw lines

-- Whether an event brings octets to an engine (own).
abbrev pub is_receipt : Event → Bool
is_receipt Event.new_dialogue = false
is_receipt (Event.on_dialogue dialogue request) = false
is_receipt (Event.received from bytes) = true
is_receipt (Event.moment now) = false

-- Whether a line hands an engine octets of its own, which no engine need have sent (own).
abbrev pub is_raw : Option ScriptLine → Bool
is_raw None = false
is_raw (Some (ScriptLine.call engine event)) = is_receipt event
is_raw (Some (ScriptLine.deliver name)) = false
is_raw (Some (ScriptLine.again name)) = false
is_raw (Some (ScriptLine.lose name)) = false
is_raw (Some (ScriptLine.advance now)) = false

-- Whether the octets of a line are such a line: it isn't skipped, and is read as one (own).
abbrev pub is_raw_line : List ℕ → Bool
is_raw_line line = not (is_skipped line) && is_raw (line_of (words_of line))

-- Whether no line of a script is a `raw` or `rawfrom` line (own).
abbrev pub has_no_raw : List ℕ → Bool
has_no_raw script = list_all (λ line. not (is_raw_line line)) (lines_of script)

-- No line of a script is a `raw` or `rawfrom` line: what its engines receive are the messages of the play alone (own).
abbrev pub HasNoRaw : List ℕ → Type 0
HasNoRaw script = IsTrue (has_no_raw script)

-- ---- the play

-- The play after a line and those that follow it; a bad line ends it, and leaves the play as it was (own).
abbrev pub played_by : (Played → Played) → Played → Option Stepped → Played
played_by later p None = p
played_by later p (Some stepped) = later stepped.after

-- The play after lines, up to the first bad one (own).
unfoldable pub played_from : Played → List (List ℕ) → Played
played_from p [] = p
played_from p (line ∷ lines) =
    if is_skipped line then played_from p lines else played_by (λ q. played_from q lines) p (step_by p line)

-- The play of a script that opens so (own).
abbrev pub played_behind : Opening → Played
played_behind opening = played_from (not_begun opening.idle_ms) opening.lines

-- The play of a script: all that happened to both engines, up to its first bad line (own).
abbrev pub played_of : List ℕ → Played
played_of script = played_behind (opening_of script)

-- The two engines of a script, each with the start and the address of its play, and the pairs of both in
-- its order (own).
abbrev pub net_of : List ℕ → Net
net_of script = record {
  start = λ engine. play_start (played_of script).idle_ms;
  places = play_places;
  trace = (played_of script).trace;
}

-- ---- its text

-- How many messages an engine sent, by its pairs (own).
abbrev pub sent_count : Past → ℕ
sent_count [] = 0
sent_count (pair ∷ past) = sent_count past + length (messages_in pair.answer)

-- The text that shows the answers of both engines in order of time: each message has the number that
-- follows those of all that its engine sent before (own).
abbrev pub shown_text : Trace → List ℕ
shown_text [] = []
shown_text (m ∷ trace) =
    shown_text trace ++ answer_lines (engine_numbered m.engine) (sent_count (side m.engine trace)) m.pair.answer

-- What is printed is this text; and behind it, where the play isn't good, that a line is bad (own).
abbrev pub IsShown : Bool → List ℕ → List ℕ → Type 0
IsShown true shown text = text ≡ shown
IsShown false shown text = (number : ℕ) × (text ≡ shown ++ bad_line number)

-- ---- the statements

-- What happens to both engines in the play of a script without a `raw` or `rawfrom` line meets Net: each answers as its
-- own history says, and receives only what the other sent before (own).
abbrev pub PlaysMeetNet : Type 0
PlaysMeetNet = (script : List ℕ) → HasNoRaw script → IsNet (net_of script)

-- Of the answers in it both users may rely on the origin of each answer, that it comes after the Invoke, that
-- one closes at most, and on the operations (own).
abbrev pub PlaysHaveTwoEnds : Type 0
PlaysHaveTwoEnds = (script : List ℕ) → HasNoRaw script → TwoEnds play_places (played_of script).trace

-- What the play of any script prints are these answers, in their order, and nothing else but that a line is
-- bad (own).
abbrev pub PlaysShowTheirAnswers : Type 0
PlaysShowTheirAnswers =
    (script : List ℕ) → IsShown (play_is_good script) (shown_text (played_of script).trace) (play_text_of script)
