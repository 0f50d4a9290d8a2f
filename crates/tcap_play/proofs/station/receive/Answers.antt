use Rattle.std.proofs.lemmas.Result.{IfOk-weaker}
use Rattle.tcap_play.proofs.PlaySteps.{received_by_a, received_by_b}
use Rattle.tcap_play.proofs.station.receive.Goals as goal

pub returns-in-A : goal.returns-in-A
returns-in-A g c = IfOk-weaker c.receive_from.result _ _ (λ done does p at. rw c.in-A.is (received_by_b p c.args.name.number _ c.args.a.now c.receive_from.new.from c.args.b.now c.receive_from.new.to done _ _ at c.receive_from.ensures.engine does)) c.receive_from.ensures.done

pub returns-in-B : goal.returns-in-B
returns-in-B g c = IfOk-weaker c.receive_from-in-B.result _ _ (λ done does p at. rw c.in-B.is (received_by_a p c.args.name.number _ c.args.a.now c.receive_from-in-B.new.to c.args.b.now c.receive_from-in-B.new.from done _ _ at c.receive_from-in-B.ensures.engine does)) c.receive_from-in-B.ensures.done
