-- How a script opens, as a contract sees it.
use Rattle.tcap_play.specs.Opening as model
use Rattle.tcap_play.specs.Pieces.{pieces_left}
use Rattle.tcap_play.specs.declared.opening.Opening.{Opening}

-- What stands before the lines of a play, and these (own).
abbrev pub opening_view : Opening → model.Opening
opening_view opening = record { idle_ms = opening.idle_ms; passed = opening.passed; lines = pieces_left 10 opening.rest }
