-- What a piece adds to the sum over a stream's messages.
use Rattle.std.specs.Prelude.{◌≡◌, ℕ, List, length, map}
use Rattle.ber_core.specs.Feeding.{Left, Takes}
use Rattle.tcap_bench.specs.Checksum.{checksum}

-- The feed has taken the piece, and the lengths of the messages that it completes were added (own).
pub record IsAdded (stream piece : List ℕ) (later : Left) (sum added : ℕ) : Type 0 where
  pub told : List (List ℕ)
  pub takes : Takes stream piece told later
  pub is_sum : added ≡ checksum sum (map (λ message. length message) told)
