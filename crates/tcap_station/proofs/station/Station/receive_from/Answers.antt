use Rattle.std.proofs.Common.{ap, drop}
use Rattle.tcap_model.specs.Table.EngineMove.{engine_move}
use Rattle.tcap_model.specs.Words.Event.{Event}
use Rattle.tcap_station.specs.Marks.{marks_in}
use Rattle.tcap_station.specs.Station.{StationState}
use Rattle.tcap_station.proofs.HistoryLemmas.{received-told, stands-received}
use Rattle.tcap_station.proofs.TakeLemmas.{line-after, received}
use Rattle.tcap_station.proofs.station.Station.receive_from.Goals as goal

pub invariant_of-self-2 : goal.invariant_of-self-2
invariant_of-self-2 g c =
    let line = c.self.inside.line in
    record {
      marked =
          line-after c.receive_held-received.result (marks_in line.marks) (marks_in c.find_place.new.marks) (marks_in c.mark_event.new.marks)
          (drop line.taken line.front.outputs) line.back.outputs c.receive_held-received.new.outbox.outputs
          c.self.inside.events c.mark_event.new.events c.len-before.result
          c.find_place.ensures.marks c.self.invariant.marked c.receive_held-received.ensures.kept c.receive_held-received.ensures.still
          c.len-before.ensures c.mark_event.ensures.marks c.mark_event.ensures.err;
      ordered = c.mark_event.ensures.ordered;
      left = c.self.invariant.left;
    }

pub returns-clause-moves : goal.returns-clause-moves
returns-clause-moves g c =
    let line = c.self.inside.line in
    rw (← c.self.view_is) (
    received c.receive_held-received.result c.mark_event.result (engine_move c.self.inside.engine (Event.received c.args.from.now c.args.message.now))
    c.self.inside.engine c.receive_held-received.new.engine (marks_in line.marks) (marks_in c.find_place.new.marks) (marks_in c.mark_event.new.marks)
    (drop line.taken line.front.outputs) line.back.outputs c.receive_held-received.new.outbox.outputs
    c.self.inside.events c.mark_event.new.events c.self.inside.max_message c.len-before.result
    c.find_place.ensures.marks c.self.invariant.marked c.receive_held-received.ensures.kept c.receive_held-received.ensures.still
    c.len-before.ensures c.receive_held-received.ensures.moves
    c.mark_event.ensures.answer c.mark_event.ensures.events c.mark_event.ensures.marks c.mark_event.ensures.err
    )

pub returns-clause-stands : goal.returns-clause-stands
returns-clause-stands g c =
    stands-received c.receive_held-received.result c.mark_event.result (Event.received c.args.from.now c.args.message.now) c.self.inside.engine
    c.self.inside.line.back.outputs c.receive_held-received.new.outbox.outputs c.args.self.now _
    (ap (λ (s : StationState). s.engine) c.self.view_is) c.mark_event.ensures.answer c.receive_held-received.ensures.moves
    (received-told c.mark_event.result _ _ _ (returns-clause-moves g c)) c.receive_held-received.ensures.stands
