-- What a message is called in the output.
use Rattle.std.specs.Prelude.{ℕ, List, Option, Some, None}
use Rattle.std.specs.Fmt.{decimal}

-- What a message is called (own).
pub data Label : Type 0 where
  -- the name that stands before it
  name : (octets : List ℕ) → Label
  -- the number of its line, counted from 1
  line : (number : ℕ) → Label
  -- the offset of its first octet in the stream
  offset : (count : ℕ) → Label

-- What the message of a line is called: its name, or the number of the line where it has none (own).
abbrev pub label_of : ℕ → Option (List ℕ) → Label
label_of number None = line number
label_of number (Some octets) = name octets

-- The words for what a message is called (own).
abbrev pub label_words : Label → List ℕ
label_words (name octets) = octets
label_words (line number) = decimal number
label_words (offset count) = decimal count
