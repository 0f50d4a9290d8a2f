-- What a writer was given of a text where a write failed.
use Rattle.std.specs.Prelude.{◌≡◌, ◌<◌, ◌++◌, ℕ, List, length, Option}
use Rattle.std.specs.Io.KnownBytes.{Appends}

-- A front of a text, but not all of it, was written behind what the writer held (own).
pub record IsFront (text : List ℕ) (old new : Option (List ℕ)) : Type 0 where
  pub front : List ℕ
  pub rest : List ℕ
  pub is_text : text ≡ front ++ rest
  pub is_cut : 0 < length rest
  pub written : Appends old new front
