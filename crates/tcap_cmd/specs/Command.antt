-- What a run of the command gives: the text asked for and its verdict, or why it came to none.
use Rattle.std.specs.Prelude.{◌≡◌, ◌⊎◌, ℕ, Bool, true, false, List, Option, Some, Result, Ok, Err, MatchResult}
use Rattle.std.specs.Io.KnownBytes.{Appends, Keeps}
use Rattle.clap.specs.Words.{Text}
use Rattle.tcap_cmd.specs.declared.refusal.Refusal.{Refusal}
use Rattle.tcap_cmd.specs.declared.refusal.Refusal.TheVariants.{BadCommand, BadHex, OutOfMemory, WriteFailed, ReadFailed, InputTooLong}
use Rattle.tcap_cmd.specs.CommandLine.{Asked, show, check, canon, play, stream, Ask, AskNothing}
use Rattle.tcap_play.specs.Play.{play_text_of, play_is_good}
use Rattle.tcap_text.specs.Input.{IsScript, IsLeft, IsPast}
use Rattle.tcap_text.specs.StreamRun.{IsRead, IsOver, read_of, IsHalted, IsEndless, IsShort, IsStreamCut}
use Rattle.tcap_text.specs.StreamText.{stream_text_of, stream_is_good}
use Rattle.tcap_words.specs.Canonical.{canon_text_of, canon_is_good}
use Rattle.tcap_words.specs.Show.{show_text_of, check_text_of, show_is_good}
use Rattle.tcap_words.specs.Spelling.{spelled_by}
use Rattle.tcap_words.specs.Writing.{IsFront}

-- The text that is asked for, of a message's bytes, of a script or of a stream (own).
abbrev pub text_of : Asked → List ℕ → List ℕ
text_of (show hex) bytes = show_text_of bytes
text_of (check hex) bytes = check_text_of bytes
text_of (canon hex) bytes = canon_text_of bytes
text_of play script = play_text_of script
text_of stream bytes = stream_text_of bytes

-- Whether the verdict of that text is good (own).
abbrev pub is_good_of : Asked → List ℕ → Bool
is_good_of (show hex) bytes = show_is_good bytes
is_good_of (check hex) bytes = show_is_good bytes
is_good_of (canon hex) bytes = canon_is_good bytes
is_good_of play script = play_is_good script
is_good_of stream bytes = stream_is_good bytes

-- HEX spells bytes (own).
abbrev pub SpellsBytes : List ℕ → Type 0
SpellsBytes hex = (bytes : List ℕ) × (spelled_by hex ≡ Some bytes)

-- Why there are no bytes of HEX, and so no text: it spells none, or it spells some and memory runs out
-- (own).
abbrev pub IsUnspelled : List ℕ → Refusal → Type 0
IsUnspelled hex BadCommand = ⊥
IsUnspelled hex BadHex = (bytes : List ℕ) → spelled_by hex ≡ Some bytes → ⊥
IsUnspelled hex OutOfMemory = (bytes : List ℕ) × (spelled_by hex ≡ Some bytes)
IsUnspelled hex WriteFailed = ⊥
IsUnspelled hex ReadFailed = ⊥
IsUnspelled hex InputTooLong = ⊥

-- These bytes were read of a stream, up to its end or its fault (own).
pub record IsStreamRead (had left : Option (List ℕ)) (bytes : List ℕ) : Type 0 where
  pub read : IsRead had left
  pub over : IsOver read
  pub are_bytes : bytes ≡ read_of read

-- The bytes whose text is asked for: those that HEX spells, the script that the reader gave up to its end,
-- or what it gave of a stream (own).
abbrev pub IsInput : Asked → Option (List ℕ) → Option (List ℕ) → List ℕ → Type 0
IsInput (show hex) had left bytes = spelled_by hex ≡ Some bytes
IsInput (check hex) had left bytes = spelled_by hex ≡ Some bytes
IsInput (canon hex) had left bytes = spelled_by hex ≡ Some bytes
IsInput play had left script = IsScript had left script
IsInput stream had left bytes = IsStreamRead had left bytes

-- There are bytes, their text was written behind what the writer held, and this is its verdict (own).
pub record IsAnswered (asked : Asked) (had left old new : Option (List ℕ)) (good : Bool) : Type 0 where
  pub bytes : List ℕ
  pub is_input : IsInput asked had left bytes
  pub written : Appends old new (text_of asked bytes)
  pub verdict : good ≡ is_good_of asked bytes

-- There are bytes, and a prefix of their text, never all of it, was written behind what the writer held
-- (own).
pub record IsCut (asked : Asked) (had left old new : Option (List ℕ)) : Type 0 where
  pub bytes : List ℕ
  pub is_input : IsInput asked had left bytes
  pub written : IsFront (text_of asked bytes) old new

-- HEX is asked about, and it spells no bytes (own).
abbrev pub IsBadHex : Asked → Type 0
IsBadHex (show hex) = SpellsBytes hex → ⊥
IsBadHex (check hex) = SpellsBytes hex → ⊥
IsBadHex (canon hex) = SpellsBytes hex → ⊥
IsBadHex play = ⊥
IsBadHex stream = ⊥

-- Where memory may be refused: HEX spells bytes, or the reader gave no more than a script may have, and
-- nothing is written; a stream's lines are written up to there (own).
abbrev pub IsWanting : Asked → Option (List ℕ) → Option (List ℕ) → Option (List ℕ) → Option (List ℕ) → Type 0
IsWanting (show hex) had left old new = SpellsBytes hex × Keeps old new
IsWanting (check hex) had left old new = SpellsBytes hex × Keeps old new
IsWanting (canon hex) had left old new = SpellsBytes hex × Keeps old new
IsWanting play had left old new = IsLeft had left × Keeps old new
IsWanting stream had left old new = IsShort had left old new

-- A write failed: a prefix of the text was written, never all of it (own).
abbrev pub IsUnwritten : Asked → Option (List ℕ) → Option (List ℕ) → Option (List ℕ) → Option (List ℕ) → Type 0
IsUnwritten (show hex) had left old new = IsCut (show hex) had left old new
IsUnwritten (check hex) had left old new = IsCut (check hex) had left old new
IsUnwritten (canon hex) had left old new = IsCut (canon hex) had left old new
IsUnwritten play had left old new = IsCut play had left old new
IsUnwritten stream had left old new = IsStreamCut had left old new

-- A read failed: nothing is written of a script, and of a stream the lines up to there (own).
abbrev pub IsUnread : Asked → Option (List ℕ) → Option (List ℕ) → Option (List ℕ) → Option (List ℕ) → Type 0
IsUnread (show hex) had left old new = ⊥
IsUnread (check hex) had left old new = ⊥
IsUnread (canon hex) had left old new = ⊥
IsUnread play had left old new = IsLeft had left × Keeps old new
IsUnread stream had left old new = IsHalted had left old new

-- The input is too long, with the same written (own).
abbrev pub IsTooLong : Asked → Option (List ℕ) → Option (List ℕ) → Option (List ℕ) → Option (List ℕ) → Type 0
IsTooLong (show hex) had left old new = ⊥
IsTooLong (check hex) had left old new = ⊥
IsTooLong (canon hex) had left old new = ⊥
IsTooLong play had left old new = IsPast had left × Keeps old new
IsTooLong stream had left old new = IsEndless had left old new

-- When a run that asks for something may be refused, and what it read and wrote (own).
abbrev pub IsRefused : Asked → Refusal → Option (List ℕ) → Option (List ℕ) → Option (List ℕ) → Option (List ℕ) → Type 0
IsRefused asked BadCommand had left old new = ⊥
IsRefused asked BadHex had left old new = IsBadHex asked × Keeps old new
IsRefused asked OutOfMemory had left old new = IsWanting asked had left old new
IsRefused asked WriteFailed had left old new = IsUnwritten asked had left old new
IsRefused asked ReadFailed had left old new = IsUnread asked had left old new
IsRefused asked InputTooLong had left old new = IsTooLong asked had left old new

-- The words ask for something, of which a run is so refused (own).
abbrev pub IsAskedRefused : List Text → Refusal → Option (List ℕ) → Option (List ℕ) → Option (List ℕ) → Option (List ℕ) → Type 0
IsAskedRefused words refusal had left old new = (asked : Asked) × Ask words asked × IsRefused asked refusal had left old new

-- When a run for these words may be refused, and what it read and wrote: memory may be refused while they
-- are read, whatever they ask for, and nothing is written then (own).
abbrev pub IsRefusal : List Text → Refusal → Option (List ℕ) → Option (List ℕ) → Option (List ℕ) → Option (List ℕ) → Type 0
IsRefusal words BadCommand had left old new = AskNothing words × Keeps old new
IsRefusal words BadHex had left old new = IsAskedRefused words BadHex had left old new
IsRefusal words OutOfMemory had left old new = Keeps old new ⊎ IsAskedRefused words OutOfMemory had left old new
IsRefusal words WriteFailed had left old new = IsAskedRefused words WriteFailed had left old new
IsRefusal words ReadFailed had left old new = IsAskedRefused words ReadFailed had left old new
IsRefusal words InputTooLong had left old new = IsAskedRefused words InputTooLong had left old new

-- The status: 0 good, 1 not good, 2 refused (own).
abbrev pub status_of : Result Bool Refusal → ℕ
status_of (Ok true) = 0
status_of (Ok false) = 1
status_of (Err refusal) = 2

-- What a run for these words gives, what the reader had before and after, and what the writer held (own).
abbrev pub Gave : List Text → Option (List ℕ) → Option (List ℕ) → Option (List ℕ) → Option (List ℕ) → Result Bool Refusal → Type 0
Gave words had left old new answer = MatchResult answer
    (λ good. (asked : Asked) × Ask words asked × IsAnswered asked had left old new good)
    (λ refusal. IsRefusal words refusal had left old new)
