use Rattle.tcap_engine.proofs.VectorLemmas.{vector-told}
use Rattle.tcap_engine.proofs.engine.Engine.go_on.Goals as goal

pub returns-clause-stands : goal.returns-clause-stands
returns-clause-stands g c h at =
    rw (vector-told _ _ _ c.into_vector.ensures.outputs c.vector-sink.ensures.outputs) (c.in_ok-go_on_with.ensures.stands h at)
