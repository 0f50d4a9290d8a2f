-- What a run over a stream reads and writes.
use Rattle.std.specs.Prelude.{◌≡◌, ◌≢◌, ◌≤◌, ◌<◌, ◌⊎◌, ℕ, Bool, List, [], ◌++◌, length, Option, None}
use Rattle.std.specs.Io.KnownBytes.{Appends, Consumes, IsAtEnd}
use Rattle.ber_core.specs.Stream.{cut_of}
use Rattle.tcap_text.specs.declared.fault.PlayFault.{PlayFault}
use Rattle.tcap_text.specs.declared.fault.PlayFault.TheVariants as fault
use Rattle.tcap_text.specs.Input.{most_reads, piece_length}
use Rattle.tcap_text.specs.StreamText.{verdict_lines, last_line, stream_text_of, stream_is_good}

-- What the reader gave: the pieces before the last, behind which no fault stands, and the last, which is
-- empty where the reader gave no more (own).
pub record IsRead (had left : Option (List ℕ)) : Type 0 where
  pub before : List ℕ
  pub piece : List ℕ
  pub given : Consumes had left (before ++ piece)
  pub is_piece : length piece ≤ piece_length
  pub no_fault : (cut_of before).fault ≡ None

-- All the octets that the reader gave (own).
abbrev pub read_of : {had left : Option (List ℕ)} → IsRead had left → List ℕ
read_of read = read.before ++ read.piece

-- No more is read: the reader is at its end, or a fault stands (own).
abbrev pub IsOver : {had left : Option (List ℕ)} → IsRead had left → Type 0
IsOver {had} {left} read = ((read.piece ≡ []) × IsAtEnd left) ⊎ ((cut_of (read_of read)).fault ≢ None)

-- The stream was read up to its end or its fault, its text was written behind what the writer held, and
-- this is its verdict (own).
pub record IsStreamed (had left old new : Option (List ℕ)) (good : Bool) : Type 0 where
  pub read : IsRead had left
  pub over : IsOver read
  pub written : Appends old new (stream_text_of (read_of read))
  pub verdict : good ≡ stream_is_good (read_of read)

-- No fault stands behind what was read, and the line of each of its messages was written (own).
pub record IsHalted (had left old new : Option (List ℕ)) : Type 0 where
  pub stream : List ℕ
  pub given : Consumes had left stream
  pub no_fault : (cut_of stream).fault ≡ None
  pub written : Appends old new (verdict_lines (cut_of stream).messages)

-- A run was halted in a stream of at least an octet for each read that a run may make (own).
pub record IsEndless (had left old new : Option (List ℕ)) : Type 0 where
  pub halted : IsHalted had left old new
  pub many : most_reads ≤ length halted.stream

-- Memory is refused for what the last piece completes or leaves, or for the last line: the lines of all
-- messages before that piece, and then of some that it completes, were written whole (own).
pub record IsShort (had left old new : Option (List ℕ)) : Type 0 where
  pub read : IsRead had left
  pub wanted : (read.piece ≢ []) ⊎ (IsAtEnd left × (last_line (cut_of read.before) ≢ []))
  pub told : List (List ℕ)
  pub untold : List (List ℕ)
  pub are_messages : (cut_of (read_of read)).messages ≡ (cut_of read.before).messages ++ (told ++ untold)
  pub written : Appends old new (verdict_lines ((cut_of read.before).messages ++ told))

-- What is printed behind the lines of all messages: the last line once no more is read (own).
abbrev pub IsLast : {had left : Option (List ℕ)} → IsRead had left → List ℕ → Type 0
IsLast read last = (last ≡ []) ⊎ (IsOver read × (last ≡ last_line (cut_of (read_of read))))

-- A write failed: the lines of all messages before the last piece were written, and of what is printed
-- then a front, but not all of it (own).
pub record IsStreamCut (had left old new : Option (List ℕ)) : Type 0 where
  pub read : IsRead had left
  pub last : List ℕ
  pub is_last : IsLast read last
  pub front : List ℕ
  pub rest : List ℕ
  pub is_text : verdict_lines (cut_of (read_of read)).messages ++ last ≡ verdict_lines (cut_of read.before).messages ++ (front ++ rest)
  pub is_cut : 0 < length rest
  pub written : Appends old new (verdict_lines (cut_of read.before).messages ++ front)

-- What the reader gave and the writer took where a run came to no verdict (own).
abbrev pub IsUnstreamed : Option (List ℕ) → Option (List ℕ) → Option (List ℕ) → Option (List ℕ) → PlayFault → Type 0
IsUnstreamed had left old new fault.OutOfMemory = IsShort had left old new
IsUnstreamed had left old new fault.Read = IsHalted had left old new
IsUnstreamed had left old new fault.Write = IsStreamCut had left old new
IsUnstreamed had left old new fault.TooLong = IsEndless had left old new
