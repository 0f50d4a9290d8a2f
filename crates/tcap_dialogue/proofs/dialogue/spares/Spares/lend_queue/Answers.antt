use Rattle.std.proofs.Common.{rules, arith, ◌≡◌, ◌≤◌, ◌*◌, ap, inl, inr, vec_capacity}
use Rattle.tcap_dialogue.proofs.RejectLemmas.{taken-is-last}
use Rattle.tcap_dialogue.specs.RejectRoom.{IsBare}
use Rattle.tcap_primitives.specs.declared.queue.Queue.{Queue}
use Rattle.tcap_dialogue.proofs.dialogue.spares.Spares.lend_queue.Goals as goal

pub returns-in-Some-clause-room : goal.returns-in-Some-clause-room
returns-in-Some-clause-room g c count (inl has) =
    let octets = c.clear.ensures.octets in
    let parts = c.clear.ensures.parts in
    let bare : IsBare c.args.queue.now = search rules in
    (omega (arith, octets.0, has.0, bare.0), omega (arith, parts.0, has.1, bare.1))
returns-in-Some-clause-room g c count (inr lent) =
    let last : c.in-Some.found ≡ lent.left = taken-is-last c.args.self.now.queues.items c.in-Some.found lent.left _ (search rules) lent.is_last (λ d some. c.in-Some.ensures.value d some) in
    let octets = c.clear.ensures.octets in
    let parts = c.clear.ensures.parts in
    let after = c.replace.ensures.after in
    let octets_after = ap (λ (q : Queue _). vec_capacity q.octets) after in
    let parts_after = ap (λ (q : Queue _). vec_capacity q.parts) after in
    let room_octets : 8 * count ≤ vec_capacity c.in-Some.found.octets = rw last lent.octets in
    let room_parts : count ≤ vec_capacity c.in-Some.found.parts = rw last lent.parts in
    (omega (arith, octets.0, octets.1, octets_after, room_octets), omega (arith, parts.0, parts.1, parts_after, room_parts))
