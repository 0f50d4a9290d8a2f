-- Octets that are copied to a room.
use Rattle.std.specs.Prelude.{◌≡◌, ℕ, ◌+◌, List, ◌++◌, length, take, drop}

-- A part is copied to a place in a room, and this is where it ends; what lies before and behind it stays (own).
pub record Copies (old : List ℕ) (at : ℕ) (part new : List ℕ) (end : ℕ) : Type 0 where
  pub room : new ≡ take at old ++ (part ++ drop (at + length part) old)
  pub ends : end ≡ at + length part
