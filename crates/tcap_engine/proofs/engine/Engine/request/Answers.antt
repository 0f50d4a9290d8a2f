use Rattle.tcap_engine.proofs.VectorLemmas.{asked-told}
use Rattle.tcap_engine.proofs.engine.Engine.request.Goals as goal

pub returns-clause-moves : goal.returns-clause-moves
returns-clause-moves g c =
    rw (asked-told c.asked.result c.in_ok-accepted.accepted _ _ _ c.asked.ensures c.into_vector.ensures.outputs c.vector-sink.ensures.outputs) c.in_ok-accepted.ensures.moves

pub returns-clause-kind : goal.returns-clause-kind
returns-clause-kind g c =
    rw (asked-told c.asked.result c.in_ok-accepted.accepted _ _ _ c.asked.ensures c.into_vector.ensures.outputs c.vector-sink.ensures.outputs) (c.in_ok-accepted.ensures.kind _)

pub returns-clause-stands : goal.returns-clause-stands
returns-clause-stands g c h at =
    rw (asked-told c.asked.result c.in_ok-accepted.accepted _ _ _ c.asked.ensures c.into_vector.ensures.outputs c.vector-sink.ensures.outputs) (c.in_ok-accepted.ensures.stands h at)
