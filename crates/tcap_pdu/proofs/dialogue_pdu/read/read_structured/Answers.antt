use Rattle.std.proofs.Common.{subst, ℕ, []}
use Rattle.tcap_pdu.proofs.DialoguePlaceSteps.{held-in, pdu-in}
use Rattle.ber_core.specs.Way.{IsInside}
use Rattle.tcap_pdu.proofs.dialogue_pdu.read.read_structured.Goals as goal

pub returns-in_ok-version1-in-96-clause-place : goal.returns-in_ok-version1-in-96-clause-place
returns-in_ok-version1-in-96-clause-place c =
    let r = c.in_ok-version1-in-96 in
    held-in [] 0x60 r.context r.info c.in_ok-tag.content c.args.bytes (subst (λ (n : ℕ). IsInside n c.in_ok-tag.content c.args.bytes) c.in-96.is c.in_ok-tag.ensures.inside) (r.ensures.context, r.ensures.info)

pub returns-in-97-clause-place : goal.returns-in-97-clause-place
returns-in-97-clause-place c =
    pdu-in 0x61 c.read_response.result c.in_ok-tag.content c.args.bytes (subst (λ (n : ℕ). IsInside n c.in_ok-tag.content c.args.bytes) c.in-97.is c.in_ok-tag.ensures.inside) c.read_response.ensures.tag c.read_response.ensures.place

pub returns-in-100-clause-place : goal.returns-in-100-clause-place
returns-in-100-clause-place c =
    pdu-in 0x64 c.read_abort.result c.in_ok-tag.content c.args.bytes (subst (λ (n : ℕ). IsInside n c.in_ok-tag.content c.args.bytes) c.in-100.is c.in_ok-tag.ensures.inside) c.read_abort.ensures.tag c.read_abort.ensures.place
