-- A session: the lines that an engine has answered, and what of the next one it holds.
use Rattle.std.specs.Prelude.{◌≡◌, ◌+◌, ◌<◌, ℕ, List, [], ◌∷◌, ◌++◌, length, Option}
use Rattle.std.specs.Io.KnownBytes.{Appends}
use Rattle.tcap_model.specs.Histories.History.{History}
use Rattle.tcap_model.specs.Table.World.{StandsAt}
use Rattle.tcap_play.specs.Pieces.{pieces}
use Rattle.tcap_text.specs.Input.{longest_script}
use Rattle.tcap_text.specs.declared.fault.PlayFault.{PlayFault}
use Rattle.tcap_text.specs.declared.fault.PlayFault.TheVariants as fault
use Rattle.tcap_living.specs.LiveText.{are_good, history_from, line_text, text_from}
use Rattle.tcap_living.specs.declared.session.Session.{Session}
use Rattle.tcap_living.specs.declared.format.Format.{Format}

-- A session that began with a history has answered these lines (own).
pub record HasAnswered {A : Type 0} (start : History) (lines : List (List ℕ)) (session : Session A) : Type 0 where
  pub stands : StandsAt (history_from start lines) session.engine
  pub is_number : session.number ≡ 1 + length lines
  pub verdict : session.good ≡ are_good lines

-- A front of a text that isn't empty was written, all of it where the writer could not be flushed (own).
pub record IsFrontOf (text : List ℕ) (old new : Option (List ℕ)) : Type 0 where
  pub front : List ℕ
  pub rest : List ℕ
  pub is_text : text ≡ front ++ rest
  pub is_some : 0 < length text
  pub written : Appends old new front

-- Why a line was not answered, and what of its answer was written: nothing where memory is refused (own).
abbrev pub IsUnanswered : List ℕ → List ℕ → Option (List ℕ) → Option (List ℕ) → PlayFault → Type 0
IsUnanswered line text old new fault.OutOfMemory = Appends old new [] × (0 < length line)
IsUnanswered line text old new fault.Read = ⊥
IsUnanswered line text old new fault.Write = IsFrontOf text old new
IsUnanswered line text old new fault.TooLong = ⊥

-- The line that is held was answered, and the next is empty so far (own).
pub record AnswersHeld {A : Type 0} (format : Format) (start : History) (lines : List (List ℕ)) (old new : Session A) (before after : Option (List ℕ)) : Type 0 where
  pub answered : HasAnswered start (lines ++ (old.line.items ∷ [])) new
  pub prints : Appends before after (line_text format (1 + length lines) (history_from start lines) old.line.items)
  pub is_held : new.line.items ≡ []

-- Octets are held behind those of the line so far (own).
pub record Holds {A : Type 0} (part : List ℕ) (old new : Session A) : Type 0 where
  pub is_line : new.line.items ≡ old.line.items ++ part
  pub is_engine : new.engine ≡ old.engine
  pub is_number : new.number ≡ old.number
  pub verdict : new.good ≡ old.good

-- Why octets are not held: memory is refused for them, or the line would be too long (own).
abbrev pub IsUnheld : List ℕ → PlayFault → Type 0
IsUnheld line fault.OutOfMemory = 0 < length line
IsUnheld line fault.Read = ⊥
IsUnheld line fault.Write = ⊥
IsUnheld line fault.TooLong = longest_script < length line

-- The pieces of octets, where these stand before the first (own).
abbrev pub continued : List ℕ → List (List ℕ) → List (List ℕ)
continued held [] = held ∷ []
continued held (part ∷ more) = (held ++ part) ∷ more

-- More octets were taken: the lines that end in them were answered, and what follows the last of these is
-- held (own).
pub record IsTaken {A : Type 0} (format : Format) (start : History) (answered : List (List ℕ)) (piece : List ℕ) (old new : Session A) (before after : Option (List ℕ)) : Type 0 where
  pub told : List (List ℕ)
  pub are_lines : continued old.line.items (pieces 10 piece) ≡ told ++ (new.line.items ∷ [])
  pub has_answered : HasAnswered start (answered ++ told) new
  pub prints : Appends before after (text_from format (1 + length answered) (history_from start answered) told)

-- What was written of the answer to a line that was not answered whole, and why (own).
abbrev pub IsStopped : Format → History → ℕ → List ℕ → Option (List ℕ) → Option (List ℕ) → PlayFault → Type 0
IsStopped format h number line old new fault.OutOfMemory = Appends old new [] × (0 < length line)
IsStopped format h number line old new fault.Read = ⊥
IsStopped format h number line old new fault.Write = IsFrontOf (line_text format number h line) old new
IsStopped format h number line old new fault.TooLong = Appends old new [] × (longest_script < length line)

-- More octets were not taken whole: the lines before this one were answered (own).
pub record IsUntaken (format : Format) (start : History) (answered : List (List ℕ)) (held piece : List ℕ) (before after : Option (List ℕ)) (fault : PlayFault) : Type 0 where
  pub told : List (List ℕ)
  pub line : List ℕ
  pub later : List (List ℕ)
  pub are_lines : continued held (pieces 10 piece) ≡ told ++ (line ∷ later)
  pub mid : Option (List ℕ)
  pub prints : Appends before mid (text_from format (1 + length answered) (history_from start answered) told)
  pub stopped : IsStopped format (history_from start (answered ++ told)) (1 + length (answered ++ told)) line mid after fault
