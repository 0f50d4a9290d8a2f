-- A list of invocations whose numbers are below 0 is empty.
use Rattle.std.proofs.Common.{◌≡◌, ℕ, List, [], ◌∷◌, refl, arith}
use Rattle.tcap_invocation.specs.Invocations.{AllBelow, InvocationList, Row}

none-below : (rows : List Row) → AllBelow 0 rows → rows ≡ []
none-below [] h = refl
none-below (r ∷ rs) h = absurd (let below = h.0 in omega (arith, below))

pub emptied : (list : InvocationList) (reject_ms : ℕ) → AllBelow 0 list.rows → list.reject_ms ≡ reject_ms → record { reject_ms = reject_ms; rows = [] } ≡ list
emptied list reject_ms h wait = rw (none-below list.rows h, wait) refl
