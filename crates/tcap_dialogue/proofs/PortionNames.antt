-- A context that is given can be named.
use Rattle.std.proofs.Common.{◌≡◌, true, Option, Some, None, refl}
use Rattle.std.specs.Prelude.{IfSome}
use Rattle.ber_core.proofs.CallerLemmas.{object_identifier_again}
use Rattle.ber_core.specs.ObjectIdentifier.{IsObjectIdentifier}
use Rattle.ber_core.specs.Place.{Slice}
use Rattle.tcap_model.specs.Procedures.Refusals.{can_name}
use Rattle.tcap_reception.specs.PortionParts.{context_of_portion}

-- That of an AARQ or of an AUDT.
pub named_given : (aarq : Option (Slice × Slice)) → IfSome aarq (λ a. IsObjectIdentifier a.0.now) → can_name (context_of_portion aarq) ≡ true
named_given None is = refl
named_given (Some a) is = object_identifier_again a.0.now is
