-- Words, names and lines as a contract sees them.
use Rattle.std.specs.Prelude.{ℕ, List, map}
use Rattle.ber_core.specs.Place.{Slice}
use Rattle.tcap_engine.specs.EventViews.{event_view}
use Rattle.tcap_play.specs.ScriptLine.{ScriptLine}
use Rattle.tcap_play.specs.ScriptWords.{MessageName}
use Rattle.tcap_play.specs.SideView.{side_view}
use Rattle.tcap_play.specs.declared.script.word.Word.{Word}
use Rattle.tcap_play.specs.declared.script.values.Name.{Name}
use Rattle.tcap_play.specs.declared.script.line.Line.{Line}
use Rattle.tcap_play.specs.declared.script.line.Line.TheVariants as line

-- The characters of a word (own).
abbrev pub text_of : {A : Type 0} → Word A → List ℕ
text_of word = word.text.now

-- The characters of words (own).
abbrev pub texts_of : List Slice → List (List ℕ)
texts_of words = map (λ w. w.now) words

-- The name of a message (own).
abbrev pub name_view : Name → MessageName
name_view name = record { engine = side_view name.side; number = name.number }

-- What a line asks for (own).
abbrev pub line_view : Line → ScriptLine
line_view (line.Call side event) = ScriptLine.call (side_view side) (event_view event)
line_view (line.Deliver name) = ScriptLine.deliver (name_view name)
line_view (line.Again name) = ScriptLine.again (name_view name)
line_view (line.Lose name) = ScriptLine.lose (name_view name)
line_view (line.Advance now) = ScriptLine.advance now
