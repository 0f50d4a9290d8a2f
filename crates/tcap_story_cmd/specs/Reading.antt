-- Which stories are read of the inputs that are named.
use Rattle.std.specs.Prelude.{◌≡◌, ◌+◌, ◌≤◌, length, ℕ, Bool, true, false, List, [], ◌∷◌, codes, bytes_eq, Option, Result, Ok, Err}
use Rattle.std.specs.declared.vec.Vec.{Vec}
use Rattle.std.specs.Io.KnownBytes.{Consumes}
use Rattle.tcap_text.specs.Input.{IsLeft, IsPast, IsScript, longest_script, piece_length}
use Rattle.tcap_story_cmd.specs.Stories.{Entry}
use Rattle.tcap_story_cmd.specs.declared.unread.Unread.{Unread}
use Rattle.tcap_story_cmd.specs.declared.unread.Unread.TheVariants as unread

-- A text that was read, or why it was not, as a contract sees it (own).
abbrev pub input_view : {A : Type 0} → Result (Vec ℕ A) Unread → Result (List ℕ) Unread
input_view (Ok script) = Ok script.items
input_view (Err why) = Err why

-- What a reader gave, up to its end, is this text; or it was not read so far: a read failed, or it gave more than a
-- script may have (own).
abbrev pub IsInput : (had left : Option (List ℕ)) → Result (List ℕ) Unread → Type 0
IsInput had left (Ok script) = IsScript had left script
IsInput had left (Err unread.NotOpened) = ⊥
IsInput had left (Err unread.ReadFailed) = IsLeft had left
IsInput had left (Err unread.TooLong) = IsPast had left

-- What an input that has these octets, where they are known, gave once it was open; or it was not opened (own).
abbrev pub IsOpened : (octets : Option (List ℕ)) → Result (List ℕ) Unread → Type 0
IsOpened octets (Ok script) = (left : Option (List ℕ)) × IsInput octets left (Ok script)
IsOpened octets (Err unread.NotOpened) = Unit {0}
IsOpened octets (Err unread.ReadFailed) = (left : Option (List ℕ)) × IsInput octets left (Err unread.ReadFailed)
IsOpened octets (Err unread.TooLong) = (left : Option (List ℕ)) × IsInput octets left (Err unread.TooLong)

-- Whether a name is that of standard input (own).
abbrev pub is_standard : List ℕ → Bool
is_standard name = bytes_eq name (codes "-")

-- Standard input gave it; or the input of this name did, and standard input stays as it was (own).
abbrev pub IsReadOf : Bool → (octets : Option (List ℕ)) → (had left : Option (List ℕ)) → Result (List ℕ) Unread → Type 0
IsReadOf true octets had left input = IsInput had left input
IsReadOf false octets had left input = IsOpened octets input × (left ≡ had)

-- This was read under a name, where standard input had that and has this left (own).
abbrev pub IsRead : (List ℕ → Option (List ℕ)) → List ℕ → (had left : Option (List ℕ)) → Result (List ℕ) Unread → Type 0
IsRead octets_of name had left input = IsReadOf (is_standard name) (octets_of name) had left input

-- These stories were read of inputs of the first of these names, in their order, and the others are left; standard input
-- had that and has this left (own).
abbrev pub AreRead : (List ℕ → Option (List ℕ)) → List (List ℕ) → List Entry → List (List ℕ) → (had left : Option (List ℕ)) → Type 0
AreRead octets_of names [] others had left = (others ≡ names) × (left ≡ had)
AreRead octets_of [] (e ∷ es) others had left = ⊥
AreRead octets_of (name ∷ names) (e ∷ es) others had left =
    (mid : Option (List ℕ)) × (e.name ≡ name) × IsRead octets_of name had mid e.input × AreRead octets_of names es others mid left

-- Some octets were given, and no more than one read beyond the longest script (own).
pub record IsGiven (had left : Option (List ℕ)) : Type 0 where
  pub octets : List ℕ
  pub given : Consumes had left octets
  pub fits : length octets ≤ longest_script + piece_length

-- These stories were read, and of a further one, where there is one, no more than a read beyond the longest script
-- (own).
pub record AreHalted (octets_of : List ℕ → Option (List ℕ)) (names : List (List ℕ)) (had left : Option (List ℕ)) : Type 0 where
  pub entries : List Entry
  pub others : List (List ℕ)
  pub mid : Option (List ℕ)
  pub read : AreRead octets_of names entries others had mid
  pub given : IsGiven mid left
