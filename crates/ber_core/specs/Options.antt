-- Steps that may find nothing, one after the other.
use Rattle.std.specs.Prelude.{Option, Some, None}

infixl 10 ◌>>=◌
-- Reading goes on with what was found; nothing found ends it (own).
abbrev pub ◌>>=◌ : {A B : Type 0} → Option A → (A → Option B) → Option B
None >>= f = None
(Some x) >>= f = f x
