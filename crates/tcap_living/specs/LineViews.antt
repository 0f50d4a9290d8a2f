-- Lines as a contract sees them.
use Rattle.tcap_engine.specs.EventViews.{event_view}
use Rattle.tcap_living.specs.LiveLine.{LiveLine}
use Rattle.tcap_living.specs.declared.line.Line.{Line}
use Rattle.tcap_living.specs.declared.line.Line.TheVariants as line

-- What a line asks for (own).
abbrev pub line_view : Line → LiveLine
line_view (line.Call event) = LiveLine.call (event_view event)
line_view line.Timer = LiveLine.timer
line_view (line.State dialogue) = LiveLine.state dialogue
