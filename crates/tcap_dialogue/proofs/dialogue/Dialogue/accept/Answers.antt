use Rattle.tcap_dialogue.proofs.PlaceLemmas.{vector-in-place}
use Rattle.tcap_dialogue.proofs.dialogue.Dialogue.accept.Goals as goal

pub returns-clause-place : goal.returns-clause-place
returns-clause-place g c portion given =
    vector-in-place portion c.args.components c.into_vector.result.items _ c.into_vector.ensures.slices
    (c.take_begin_with.ensures.place portion given (c.find.ensures.place portion c.args.components (rw (c.vector-sink.ensures.slices) tt)))
