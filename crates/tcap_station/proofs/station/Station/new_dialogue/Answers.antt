use Rattle.std.proofs.Common.{ap, refl}
use Rattle.tcap_engine.specs.StepForm.{birth_answer}
use Rattle.tcap_station.specs.Station.{StationState}
use Rattle.tcap_station.proofs.HistoryLemmas.{stands-taken}
use Rattle.tcap_station.proofs.TakeLemmas.{counted}
use Rattle.tcap_station.proofs.station.Station.new_dialogue.Goals as goal

pub returns-clause-moves : goal.returns-clause-moves
returns-clause-moves g c =
    rw (← c.self.view_is)
    (counted birth_answer c.new_dialogue-created.result c.count_event.result _ c.self.inside.engine c.new_dialogue-created.new.self _ _ _ _ (λ _. refl)
    c.new_dialogue-created.ensures.moves c.new_dialogue-created.ensures.err c.count_event.ensures.answer c.count_event.ensures.ok c.count_event.ensures.err)

pub returns-clause-stands : goal.returns-clause-stands
returns-clause-stands g c =
    stands-taken birth_answer c.new_dialogue-created.result c.count_event.result _ _ c.self.inside.engine c.args.self.now _
    (ap (λ (s : StationState). s.engine) c.self.view_is) c.count_event.ensures.answer (returns-clause-moves g c) c.new_dialogue-created.ensures.stands
