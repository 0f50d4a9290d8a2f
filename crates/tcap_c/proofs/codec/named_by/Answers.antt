use Rattle.std.proofs.Common.{◌≡◌, List, ℕ, Option, sym, subst}
use Rattle.std.specs.Prelude.{IsSomeAnd}
use Rattle.object_identifiers.specs.Arcs.{NamesOctets}
use Rattle.tcap_c.proofs.NameLemmas.{named_text, ok_is}
use Rattle.tcap_c.proofs.codec.named_by.Goals as goal

pub returns-in_default-clause-only : goal.returns-in_default-clause-only
returns-in_default-clause-only c octets names = c.in_default.ensures.cases.0 (named_text c.args.text.now octets names)

pub returns-clause-only : goal.returns-clause-only
returns-clause-only c octets names =
    let read = c.object_identifier.ensures.only octets
    (subst (λ (t : List ℕ). NamesOctets t octets) (sym c.in-Ok.ensures.cases.0) names) in
    subst (λ (o : Option (List ℕ)). IsSomeAnd o (λ x. x ≡ octets)) (sym c.ok.ensures.value) (ok_is c.object_identifier.result octets read)
