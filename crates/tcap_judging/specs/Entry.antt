-- What an input has: its entries, each of which prints a text.
use Rattle.std.specs.Prelude.{◌≡◌, ◌==◌, ℕ, ◌+◌, List, [], ◌∷◌, ◌++◌, length, take, Option, Some, None, if◌then◌else◌}
use Rattle.ber_core.specs.declared.fault.FeedFault.{FeedFault}
use Rattle.ber_core.specs.declared.fault.FeedFault.TheVariants.{OutOfMemory, Ber, TooLong}
use Rattle.ber_core.specs.Stream.{cut_into, cut_of}
use Rattle.tcap_judging.specs.Lines.{IsInLines}
use Rattle.tcap_judging.specs.declared.naming.Naming.{Naming}

-- An entry of an input (own).
pub data Entry : Type 0 where
  -- a line, by which first words are names, by its number, counted from 1, and its octets
  line : (naming : Naming) (number : ℕ) (octets : List ℕ) → Entry
  -- a message of a stream, by the offset of its first octet, and its octets
  message : (offset : ℕ) (octets : List ℕ) → Entry
  -- octets of a stream at which no message is, by the offset of the first
  broken : (offset : ℕ) (octets : List ℕ) → Entry
  -- what may follow such octets, which isn't read, by the offset of the first of them
  unread : (offset : ℕ) → Entry
  -- octets of a stream that are passed over behind a fault, by the offset of the first, and how many they are
  passed : (offset count : ℕ) → Entry

-- Behind octets of a stream at which no message is, no more is read: the last of the entries say so (own).
abbrev pub IsBroken : List Entry → Type 0
IsBroken entries = (before : List Entry) × (offset : ℕ) × (octets : List ℕ)
    × (entries ≡ before ++ (broken offset octets ∷ (unread offset ∷ [])))

-- Lines with their numbers, of which the first has this one (own).
abbrev pub numbered : Naming → ℕ → List (List ℕ) → List Entry
numbered naming number [] = []
numbered naming number (octets ∷ lines) = line naming number octets ∷ numbered naming (number + 1) lines

-- An input of lines has these entries: a line for each line feed, and at its end one for the octets behind the
-- last line feed (own).
pub record LinesTell (naming : Naming) (input : List ℕ) (entries last : List Entry) : Type 0 where
  pub lines : List (List ℕ)
  pub rest : List ℕ
  pub is_in_lines : IsInLines lines rest input
  pub are_entries : entries ≡ numbered naming 1 lines
  pub is_last : last ≡ numbered naming (length lines + 1) (rest ∷ [])

-- The messages of a stream, of which the first begins at this offset (own).
abbrev pub message_entries : ℕ → List (List ℕ) → List Entry
message_entries offset [] = []
message_entries offset (octets ∷ messages) = message offset octets ∷ message_entries (offset + length octets) messages

-- How many octets messages have (own).
abbrev pub octets_in : List (List ℕ) → ℕ
octets_in [] = 0
octets_in (octets ∷ messages) = length octets + octets_in messages

-- How many of the octets behind the last message are judged at most: what a message may have, and one more where that
-- is what is wrong. `OutOfMemory` never stands (own).
abbrev pub judged_by : FeedFault → ℕ
judged_by OutOfMemory = 65535
judged_by (Ber why) = 65535
judged_by TooLong = 65536

-- The octets behind the last message, at this offset, where a fault stands, and that nothing behind them is read (own).
abbrev pub broken_entries : ℕ → List ℕ → Option FeedFault → List Entry
broken_entries offset rest None = []
broken_entries offset rest (Some fault) = broken offset (take (judged_by fault) rest) ∷ (unread offset ∷ [])

-- The octets behind the last message, at this offset, where the stream ends and no fault stands (own).
abbrev pub unfinished_entries : ℕ → List ℕ → Option FeedFault → List Entry
unfinished_entries offset rest None = if length rest == 0 then [] else message offset rest ∷ []
unfinished_entries offset rest (Some fault) = []

-- A stream has these entries: its messages, and the octets behind them, as soon as no message can begin there; at its
-- end the octets of a message that isn't whole (own).
pub record StreamTells (input : List ℕ) (entries last : List Entry) : Type 0 where
  pub messages : List (List ℕ)
  pub rest : List ℕ
  pub fault : Option FeedFault
  pub is_cut : cut_of input ≡ cut_into messages rest fault
  pub are_entries : entries ≡ message_entries 0 messages ++ broken_entries (octets_in messages) rest fault
  pub is_last : last ≡ unfinished_entries (octets_in messages) rest fault
