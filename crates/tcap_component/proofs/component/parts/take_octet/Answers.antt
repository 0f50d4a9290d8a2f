use Rattle.std.proofs.Common.{refl, arith}
use Rattle.std.proofs.lemmas.List.{length-drop}
use Rattle.ber_core.proofs.CallerLemmas.{tagged_one}
use Rattle.tcap_component.proofs.PlaceSteps.{rest_is, octet-goes}
use Rattle.tcap_component.proofs.component.parts.take_octet.Goals as goal

pub returns-in-len3-up-clause-value : goal.returns-in-len3-up-clause-value
returns-in-len3-up-clause-value c =
    tagged_one 2 c.args.bytes.now _ (λ e. omega (arith, e)) refl c.in-len3-up.len_at_least c.if-first-eq-INTEGER.true c.if-length-eq1.true (rest_is c.args.bytes.now)

pub returns-in-len3-up-clause-goes_on : goal.returns-in-len3-up-clause-goes_on
returns-in-len3-up-clause-goes_on c other ne =
    octet-goes other _ c.args.bytes _ (returns-in-len3-up-clause-value c) (refl, omega (arith, length-drop 3 c.args.bytes.now, c.in-len3-up.len_at_least)) ne
