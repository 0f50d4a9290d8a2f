use Rattle.std.proofs.Common.{ap, refl}
use Rattle.tcap_dialogue.specs.RequestForm.{queued_done}
use Rattle.tcap_station.specs.Station.{StationState}
use Rattle.tcap_station.proofs.HistoryLemmas.{stands-taken}
use Rattle.tcap_station.proofs.TakeLemmas.{counted}
use Rattle.tcap_station.proofs.station.Station.u_reject.Goals as goal

pub returns-clause-moves : goal.returns-clause-moves
returns-clause-moves g c =
    rw (← c.self.view_is)
    (counted queued_done c.u_reject-queued.result c.count_event.result _ c.self.inside.engine c.u_reject-queued.new.self _ _ _ _ (λ _. refl)
    c.u_reject-queued.ensures.moves c.u_reject-queued.ensures.err c.count_event.ensures.answer c.count_event.ensures.ok c.count_event.ensures.err)

pub returns-clause-stands : goal.returns-clause-stands
returns-clause-stands g c =
    stands-taken queued_done c.u_reject-queued.result c.count_event.result _ _ c.self.inside.engine c.args.self.now _
    (ap (λ (s : StationState). s.engine) c.self.view_is) c.count_event.ensures.answer (returns-clause-moves g c) c.u_reject-queued.ensures.stands
