use Rattle.std.proofs.Common.{◌≡◌, ap, refl, rules, to_z, of_z, w8}
use Rattle.std.proofs.lemmas.Int.{to_z-of_z}
use Rattle.tcap_dialogue.specs.RequestForm.{queued_done}
use Rattle.tcap_station.specs.Station.{StationState}
use Rattle.tcap_station.proofs.HistoryLemmas.{stands-taken}
use Rattle.tcap_station.proofs.TakeLemmas.{counted}
use Rattle.tcap_station.proofs.station.Station.error_back.Goals as goal

pub returns-clause-moves : goal.returns-clause-moves
returns-clause-moves g c =
    let id : to_z w8 (of_z w8 c.args.id) ≡ c.args.id = to_z-of_z w8 c.args.id (search rules) in
    rw (← c.self.view_is)
    (counted queued_done c.error_back-queued.result c.count_event.result _ c.self.inside.engine c.error_back-queued.new.self _ _ _ _ (λ _. refl)
    (rw id at (c.error_back-queued.ensures.moves)) c.error_back-queued.ensures.err c.count_event.ensures.answer c.count_event.ensures.ok c.count_event.ensures.err)

pub returns-clause-stands : goal.returns-clause-stands
returns-clause-stands g c =
    let id : to_z w8 (of_z w8 c.args.id) ≡ c.args.id = to_z-of_z w8 c.args.id (search rules) in
    stands-taken queued_done c.error_back-queued.result c.count_event.result _ _ c.self.inside.engine c.args.self.now _
    (ap (λ (s : StationState). s.engine) c.self.view_is) c.count_event.ensures.answer (returns-clause-moves g c) (rw id at (c.error_back-queued.ensures.stands))
