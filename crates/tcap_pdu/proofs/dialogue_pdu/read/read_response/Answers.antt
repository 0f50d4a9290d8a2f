use Rattle.std.proofs.Common.{refl}
use Rattle.tcap_pdu.proofs.DialoguePlaceSteps.{info-way}
use Rattle.ber_core.proofs.CallerLemmas.{goes-then}
use Rattle.tcap_pdu.proofs.dialogue_pdu.read.read_response.Goals as goal

pub returns-clause-place : goal.returns-clause-place
returns-clause-place c =
    let first = c.in_ok-version1.rest in
    let second = c.in_ok-result.rest in
    let third = c.in_ok-source.rest in
    let goes = goes-then 0xbe third second c.args.content
    (goes-then 0xbe second first c.args.content (c.in_ok-version1.ensures.goes_on 0xbe refl refl) (c.in_ok-result.ensures.goes_on 0xbe refl))
    (c.in_ok-source.ensures.goes_on 0xbe refl) in
    (c.in_ok-version1.ensures.context, info-way c.in_ok-info.info third c.args.content goes c.in_ok-info.ensures.inside)
