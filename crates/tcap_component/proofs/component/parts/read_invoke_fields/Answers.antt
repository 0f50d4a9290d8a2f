use Rattle.ber_core.proofs.CallerLemmas.{goes-then}
use Rattle.tcap_component.proofs.PlaceSteps.{coded-rest}
use Rattle.tcap_component.proofs.component.parts.read_invoke_fields.Goals as goal

pub returns-clause-place : goal.returns-clause-place
returns-clause-place c =
    let goes = goes-then 0x06 c.in_ok-linked.rest c.in_ok-id.rest c.args.bytes c.in_ok-id.ensures.code c.in_ok-linked.ensures.code in
    coded-rest c.in_ok-body.body.code c.in_ok-body.body.parameter c.in_ok-linked.rest c.args.bytes goes c.in_ok-body.ensures.place
