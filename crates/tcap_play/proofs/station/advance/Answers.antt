use Rattle.std.proofs.lemmas.Result.{on_ok_weaker}
use Rattle.tcap_play.proofs.PlaySteps.{after_both}
use Rattle.tcap_play.proofs.station.advance.Goals as goal

pub returns : goal.returns
returns g c = on_ok_weaker c.call-2.result (λ later p at. after_both _ _ _ _ _ _ _ _ _ (c.in_ok-call.ensures p at) later) c.call-2.ensures
