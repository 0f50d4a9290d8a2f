-- What is read of a kind of event, where the kind is known.
use Rattle.std.proofs.Common.{◌≡◌, ℕ, List, Result, sym, subst}
use Rattle.ber_core.specs.Results.{Gives}
use Rattle.tcap_model.specs.Words.Event.{Event}
use Rattle.tcap_record.specs.declared.kind.EventKind.{EventKind}
use Rattle.tcap_record.specs.Layout.{event_at}

pub of_kind : {X : Type 0} (view : X → Event × List ℕ) (result : Result X ℕ) (octets : List ℕ) (k j : EventKind) → k ≡ j
    → Gives view result (event_at j octets) → Gives view result (event_at k octets)
of_kind view result octets k j is given = subst (λ (i : EventKind). Gives view result (event_at i octets)) (sym is) given
