-- What an element holds at a line of a table, and which line follows it.
use Rattle.std.specs.Prelude.{ℕ, List, Option, Some, None, if◌then◌else◌}
use Rattle.ber_core.specs.SequenceReading.{is_tag}
use Rattle.tcap_explain.specs.declared.line.Line.{Line}
use Rattle.tcap_explain.specs.declared.table.Inside.{Inside}

-- What an element holds, and the line at which the next one is looked for (own).
abbrev pub Choice : Type 0
Choice = Inside × Line

-- These two (own).
abbrev pub leads : Inside → Line → Choice
leads held line = (held, line)

-- The choice, where the element has this tag, of one octet (own).
abbrev pub only : ℕ → List ℕ → Inside → Line → Option Choice
only octet tag held line = if is_tag octet tag then Some (leads held line) else None

-- The first of two choices, if it is there, else the second (own).
abbrev pub either : Option Choice → Option Choice → Option Choice
either None second = second
either (Some choice) second = Some choice
