-- The application context of a dialogue as a contract sees it.
use Rattle.std.specs.Prelude.{ℕ, List, Option, Some, None}
use Rattle.tcap_primitives.specs.declared.context.Context.{Context}

-- The application context (own).
abbrev pub context_view : {A : Type 0} → Option (Context A) → Option (List ℕ)
context_view None = None
context_view (Some context) = Some context.octets.items
