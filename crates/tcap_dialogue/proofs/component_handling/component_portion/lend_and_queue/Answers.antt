use Rattle.std.proofs.Common.{◌+◌, arith, inl}
use Rattle.tcap_dialogue.proofs.component_handling.component_portion.lend_and_queue.Goals as goal

pub append_reject-requires-clause-octets : goal.append_reject-requires-clause-octets
append_reject-requires-clause-octets g c = omega (arith, (c.lend_queue.ensures.room 1 c.requires).0)

pub append_reject-requires-clause-part : goal.append_reject-requires-clause-part
append_reject-requires-clause-part g c = omega (arith, (c.lend_queue.ensures.room 1 c.requires).1)

pub returns-clause-room : goal.returns-clause-room
returns-clause-room g c count finds =
    let has = c.lend_queue.ensures.room (count + 1) finds in
    let e = c.append_reject.ensures in
    inl (omega (arith, has.0, e.octets_room, e.octets_len), omega (arith, has.1, e.parts_room, e.parts_len))
