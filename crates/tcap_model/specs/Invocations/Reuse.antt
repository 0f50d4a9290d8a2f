-- Whether an identifier was used again.
use Rattle.std.specs.Prelude.{ℕ, List, Bool}
use Rattle.std.specs.List.{list_any}
use Rattle.tcap_model.specs.Invocations.Invocation.{Invocation}
use Rattle.tcap_model.specs.Histories.Pair.{Past}
use Rattle.tcap_model.specs.Invocations.Span.{Place, places, following, invokes_number, uses_id}

-- The places after the invoke of a number, in order of time (own).
abbrev pub places_after_invoke : ℕ → Past → List Place
places_after_invoke n past = following (invokes_number n) (places past)

-- Whether the identifier of an invocation was used again in its dialogue, after its invoke (own).
abbrev pub is_reused : Invocation → Past → Bool
is_reused i past = list_any (uses_id i.dialogue i.id) (places_after_invoke i.number past)
