-- What is printed for a line: the answer to it after all lines before.
use Rattle.std.specs.Prelude.{ℕ, ◌+◌, Bool, ◌||◌, List, [], ◌∷◌, ◌++◌, codes, Option, Some, None, is_some, if◌then◌else◌}
use Rattle.std.specs.Fmt.{decimal}
use Rattle.std.specs.List.{flat_map, list_all}
use Rattle.hex.specs.Hex.{encode_lower}
use Rattle.tcap_engine.specs.NextTimer.{next_timer_in}
use Rattle.tcap_engine.specs.StateOf.{state_in_life}
use Rattle.tcap_reception.specs.declared.state.State.{State}
use Rattle.tcap_reception.specs.declared.state.State.TheVariants as state
use Rattle.tcap_model.specs.Histories.History.{History}
use Rattle.tcap_model.specs.Histories.Life.{life}
use Rattle.tcap_model.specs.Replies.Reply.{reply}
use Rattle.tcap_model.specs.Statements.EngineMoves.{with_pair}
use Rattle.tcap_model.specs.Table.World.{world_of}
use Rattle.tcap_model.specs.Words.Answer.{Answer}
use Rattle.tcap_model.specs.Words.Fault.{Fault, fault_number}
use Rattle.tcap_model.specs.Words.Output.{Output}
use Rattle.tcap_play.specs.OutputText.{component_words, dialogue_words, drop_words}
use Rattle.tcap_play.specs.Pieces.{is_skipped, lines_of, words_of}
use Rattle.tcap_words.specs.Text.{octets_words}
use Rattle.tcap_lines.specs.FaultNames.{fault_name_of}
use Rattle.tcap_lines.specs.FaultText.{line_fault_words}
use Rattle.tcap_lines.specs.LineFaults.{or_empty}
use Rattle.tcap_lines.specs.Reading.{first_fault}
use Rattle.tcap_lines.specs.declared.fault.LineFault.{LineFault}
use Rattle.tcap_living.specs.JsonText.{json_answer, json_last, json_state, json_timer, json_wrong}
use Rattle.tcap_living.specs.LiveLine.{LiveLine, line_of}
use Rattle.tcap_living.specs.LiveTable.{live_table}
use Rattle.tcap_living.specs.Outputs.{outputs_in}
use Rattle.tcap_living.specs.declared.format.Format.{Format}
use Rattle.tcap_living.specs.declared.format.Format.TheVariants as shape

-- ---- one line of an answer

-- A line of words of the answer to the line with this number (own).
abbrev pub numbered : ℕ → List ℕ → List ℕ
numbered number words = decimal number ++ (codes " " ++ (words ++ codes "\n"))

-- An output: what is sent, with where it goes, what is told, or why a message is dropped (own).
abbrev pub output_words : Output → List ℕ
output_words (Output.send to bytes) = codes "send " ++ (octets_words to ++ (codes " " ++ encode_lower bytes))
output_words (Output.dialogue told) = dialogue_words told
output_words (Output.component told) = component_words told
output_words (Output.dropped why) = codes "dropped " ++ drop_words why

-- The lines of outputs, in their order (own).
abbrev pub output_lines : ℕ → List Output → List ℕ
output_lines number outputs = flat_map (λ output. numbered number (output_words output)) outputs

-- A refusal: the fault's number and its name (own).
abbrev pub refused_words : Fault → List ℕ
refused_words fault = codes "refused " ++ (decimal (fault_number fault) ++ (codes " " ++ or_empty (fault_name_of (fault_number fault))))

-- The last line of an answer: what was made, or that all outputs stand before it (own).
abbrev pub last_words : Answer → List ℕ
last_words (Answer.new_dialogue dialogue) = codes "new " ++ decimal dialogue
last_words (Answer.number number) = codes "number " ++ decimal number
last_words Answer.done = codes "done"
last_words (Answer.given_up number) = codes "givenup " ++ decimal number
last_words (Answer.outputs outputs) = codes "done"
last_words (Answer.refused fault) = refused_words fault

-- The lines of an answer in words: its outputs one by one, and a last line that none of them is (own).
abbrev pub answer_lines : ℕ → Answer → List ℕ
answer_lines number answer = output_lines number (outputs_in answer) ++ numbered number (last_words answer)

-- The moment at which the next timer is due, `-` where none is (own).
abbrev pub timer_words : Option ℕ → List ℕ
timer_words None = codes "timer -"
timer_words (Some moment) = codes "timer " ++ decimal moment

-- The state of a dialogue: Idle, Initiation Sent, Initiation Received or Active, `-` where none stands
-- (own; Q.774, Transaction state machine).
abbrev pub state_words : Option State → List ℕ
state_words None = codes "state -"
state_words (Some state.Fresh) = codes "state fresh"
state_words (Some state.Sent) = codes "state sent"
state_words (Some state.Received) = codes "state received"
state_words (Some state.Active) = codes "state active"

-- What is wrong with the words of a line that has no form: which of them first, and what was expected there
-- (own).
abbrev pub wrong_words : Option LineFault → List ℕ
wrong_words None = codes "bad"
wrong_words (Some found) = codes "bad " ++ line_fault_words live_table found

-- ---- in either format

-- An answer (own).
abbrev pub answer_text : Format → ℕ → Answer → List ℕ
answer_text shape.Words number answer = answer_lines number answer
answer_text shape.Json number answer = json_answer number answer

-- The moment at which the next timer is due (own).
abbrev pub timer_text : Format → ℕ → Option ℕ → List ℕ
timer_text shape.Words number moment = numbered number (timer_words moment)
timer_text shape.Json number moment = json_last number (json_timer moment)

-- The state of a dialogue (own).
abbrev pub state_text : Format → ℕ → Option State → List ℕ
state_text shape.Words number found = numbered number (state_words found)
state_text shape.Json number found = json_last number (json_state found)

-- What is wrong with the words of a line that has no form (own).
abbrev pub wrong_text : Format → ℕ → Option LineFault → List ℕ
wrong_text shape.Words number found = numbered number (wrong_words found)
wrong_text shape.Json number found = json_last number (json_wrong found)

-- ---- what a line does

-- The answer to what a line asks for after a history: to an event the reply, of the timer and of a state
-- what the history says (own).
abbrev pub asked_lines : Format → ℕ → History → LiveLine → List ℕ
asked_lines format number h (LiveLine.call event) = answer_text format number (reply h event)
asked_lines format number h LiveLine.timer = timer_text format number (next_timer_in (world_of h))
asked_lines format number h (LiveLine.state dialogue) = state_text format number (state_in_life (life dialogue h.pairs))

-- The history after it: an event comes to it, and nothing else (own).
abbrev pub asked_after : History → LiveLine → History
asked_after h (LiveLine.call event) = with_pair h event
asked_after h LiveLine.timer = h
asked_after h (LiveLine.state dialogue) = h

-- That a line of these words has no form (own).
abbrev pub bad_line : Format → ℕ → List (List ℕ) → List ℕ
bad_line format number words = wrong_text format number (first_fault live_table words)

-- What is printed for words by what they ask for, if they have the form of a line (own).
abbrev pub lines_by : Format → ℕ → History → List (List ℕ) → Option LiveLine → List ℕ
lines_by format number h words None = bad_line format number words
lines_by format number h words (Some line) = asked_lines format number h line

-- The history after it; a bad line leaves it as it was (own).
abbrev pub after_by : History → Option LiveLine → History
after_by h None = h
after_by h (Some line) = asked_after h line

-- What is printed for the line of these octets, which has this number: nothing where it is skipped (own).
abbrev pub line_text : Format → ℕ → History → List ℕ → List ℕ
line_text format number h line = if is_skipped line then [] else lines_by format number h (words_of line) (line_of (words_of line))

-- The history after it (own).
abbrev pub line_after : History → List ℕ → History
line_after h line = if is_skipped line then h else after_by h (line_of (words_of line))

-- Whether a line is skipped or has a form of a line (own).
abbrev pub is_good_line : List ℕ → Bool
is_good_line line = is_skipped line || is_some (line_of (words_of line))

-- ---- all lines

-- What is printed for lines, the first of which has this number: for each the answer to it after all lines
-- before (own).
unfoldable pub text_from : Format → ℕ → History → List (List ℕ) → List ℕ
text_from format number h [] = []
text_from format number h (line ∷ lines) = line_text format number h line ++ text_from format (number + 1) (line_after h line) lines

-- The history after lines (own).
unfoldable pub history_from : History → List (List ℕ) → History
history_from h [] = h
history_from h (line ∷ lines) = history_from (line_after h line) lines

-- Whether none of the lines is bad (own).
abbrev pub are_good : List (List ℕ) → Bool
are_good lines = list_all is_good_line lines

-- What is printed for octets, by an engine that begins with this history (own).
abbrev pub live_text_of : Format → History → List ℕ → List ℕ
live_text_of format start octets = text_from format 1 start (lines_of octets)

-- Whether no line of them is bad (own).
abbrev pub live_is_good : List ℕ → Bool
live_is_good octets = are_good (lines_of octets)
