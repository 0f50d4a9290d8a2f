use Rattle.tcap_station.proofs.station.events.receive_held.Goals as goal

pub returns-clause-moves : goal.returns-clause-moves
returns-clause-moves g c = rw (← c.hold.ensures) c.receive_into.ensures.moves

pub returns-clause-stands : goal.returns-clause-stands
returns-clause-stands g c = rw (← c.hold.ensures) c.receive_into.ensures.stands
