use Rattle.tcap_dialogue.proofs.PlaceLemmas.{vector-in-place}
use Rattle.tcap_dialogue.proofs.dialogue.Dialogue.take_frame.Goals as goal

pub returns-clause-place : goal.returns-clause-place
returns-clause-place g c other =
    vector-in-place _ _ c.into_vector-outputs.result.items _ c.into_vector-outputs.ensures.slices
    (c.receive_message.ensures.place other (rw (c.vector-sink.ensures.slices) tt))
