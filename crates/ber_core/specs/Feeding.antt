-- A feed: what it holds of the stream behind which it stands, and what a push does.
use Rattle.std.specs.Prelude.{◌≡◌, ◌≢◌, ℕ, ◌⊎◌, List, [], ◌++◌, Option, Some, None}
use Rattle.ber_core.specs.declared.fault.FeedFault.{FeedFault}
use Rattle.ber_core.specs.declared.fault.FeedFault.TheVariants.{OutOfMemory, Ber, TooLong}
use Rattle.ber_core.specs.Stream.{Cut, cut_of}

-- What a feed holds: the octets that no message has yet, and the fault that stands (own).
pub record Left : Type 0 where
  pub rest : List ℕ
  pub fault : Option FeedFault

-- What a feed holds behind a stream with this rest and fault: once a fault stands, no octets are held
-- (own).
abbrev pub left_by : Option FeedFault → List ℕ → Left
left_by None rest = record { rest = rest; fault = None }
left_by (Some fault) rest = record { rest = []; fault = Some fault }

-- What a feed holds behind a stream that was cut so (own).
abbrev pub left_of : Cut → Left
left_of cut = left_by cut.fault cut.rest

-- The feed has taken this stream, in whatever pieces: it holds what the cut of the whole stream
-- leaves (own).
abbrev pub StandsBehind : List ℕ → Left → Type 0
StandsBehind stream left = left ≡ left_of (cut_of stream)

-- The piece completes these messages of the stream and no others, and the feed stands behind the
-- longer stream (own).
pub record Takes (stream piece : List ℕ) (completed : List (List ℕ)) (new : Left) : Type 0 where
  pub messages : (cut_of (stream ++ piece)).messages ≡ (cut_of stream).messages ++ completed
  pub stands : StandsBehind (stream ++ piece) new

-- Memory is wanted: the piece completes a message, or it leaves octets to be held (own).
abbrev pub WantsMemory : List ℕ → List ℕ → Type 0
WantsMemory stream piece = ((cut_of (stream ++ piece)).messages ≢ (cut_of stream).messages)
    ⊎ ((piece ≢ []) × ((cut_of (stream ++ piece)).fault ≡ None))

-- A push answers these messages: the piece completes them; where there are none, no fault stands
-- (own).
abbrev pub Completes : List ℕ → List ℕ → List (List ℕ) → Left → Type 0
Completes stream piece completed new = Takes stream piece completed new × (completed ≡ [] → new.fault ≡ None)

-- A push answers this fault: it completes no message, and the fault stands; where memory is refused,
-- nothing is taken, and memory was wanted (own).
abbrev pub Fails : List ℕ → List ℕ → Left → FeedFault → Left → Type 0
Fails stream piece old OutOfMemory new = (new ≡ old) × WantsMemory stream piece
Fails stream piece old (Ber why) new = Takes stream piece [] new × (new.fault ≡ Some (Ber why))
Fails stream piece old TooLong new = Takes stream piece [] new × (new.fault ≡ Some TooLong)
