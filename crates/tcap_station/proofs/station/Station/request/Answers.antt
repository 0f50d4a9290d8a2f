use Rattle.std.proofs.Common.{ap, drop}
use Rattle.tcap_model.specs.Table.EngineMove.{engine_move}
use Rattle.tcap_model.specs.Words.Event.{Event}
use Rattle.tcap_primitives.specs.RequestViews.{request_view}
use Rattle.tcap_station.specs.Marks.{marks_in}
use Rattle.tcap_station.specs.Station.{StationState}
use Rattle.tcap_station.proofs.HistoryLemmas.{stands-told, within-told}
use Rattle.tcap_station.proofs.TakeLemmas.{line-after, told, told-within}
use Rattle.tcap_station.proofs.station.Station.request.Goals as goal

pub invariant_of-self-2 : goal.invariant_of-self-2
invariant_of-self-2 g c =
    let line = c.self.inside.line in
    record {
      marked =
          line-after c.request_into-accepted.result (marks_in line.marks) (marks_in c.prepare.new.marks) (marks_in c.mark_event.new.marks)
          (drop line.taken line.front.outputs) line.back.outputs c.request_into-accepted.new.outbox.outputs
          c.self.inside.events c.mark_event.new.events c.len-before.result
          c.prepare.ensures.marks c.self.invariant.marked c.request_into-accepted.ensures.kept c.request_into-accepted.ensures.still
          c.len-before.ensures c.mark_event.ensures.marks c.mark_event.ensures.err;
      ordered = c.mark_event.ensures.ordered;
      left = c.self.invariant.left;
    }

pub returns-clause-moves : goal.returns-clause-moves
returns-clause-moves g c =
    let line = c.self.inside.line in
    rw (← c.self.view_is) (
    told-within c.mark_event.result _ _ _ (c.in_ok-prepare.ensures.within)
    (told c.request_into-accepted.result c.mark_event.result (engine_move c.self.inside.engine (Event.on_dialogue c.args.dialogue (request_view c.args.request.now)))
    c.self.inside.engine c.request_into-accepted.new.self (marks_in line.marks) (marks_in c.prepare.new.marks) (marks_in c.mark_event.new.marks)
    (drop line.taken line.front.outputs) line.back.outputs c.request_into-accepted.new.outbox.outputs
    c.self.inside.events c.mark_event.new.events c.self.inside.max_message c.len-before.result
    c.prepare.ensures.marks c.self.invariant.marked c.request_into-accepted.ensures.kept c.request_into-accepted.ensures.still
    c.len-before.ensures c.request_into-accepted.ensures.moves c.request_into-accepted.ensures.err
    c.mark_event.ensures.answer c.mark_event.ensures.events c.mark_event.ensures.marks c.mark_event.ensures.err)
    )

pub returns-clause-stands : goal.returns-clause-stands
returns-clause-stands g c =
    stands-told c.request_into-accepted.result c.mark_event.result (Event.on_dialogue c.args.dialogue (request_view c.args.request.now)) c.self.inside.engine
    c.self.inside.line.back.outputs c.request_into-accepted.new.outbox.outputs c.args.self.now _
    (ap (λ (s : StationState). s.engine) c.self.view_is) c.mark_event.ensures.answer c.request_into-accepted.ensures.moves
    (within-told c.mark_event.result _ _ _ (returns-clause-moves g c)) c.request_into-accepted.ensures.stands
