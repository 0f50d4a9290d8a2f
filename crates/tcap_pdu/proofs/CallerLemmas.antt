-- What the crates above cite: laws of this crate's definitions. Declares nothing.
pub use Rattle.tcap_pdu.proofs.MessageGrammar.{id_of-is, id_of-again}
pub use Rattle.tcap_pdu.proofs.FrameGrammar.{frame_takes, frame_again, frame_fails, frame_told, is_frame, one_frame, one_fault, no_frame}
pub use Rattle.tcap_pdu.proofs.FrontGrammar.{front_read, front_again}
pub use Rattle.tcap_pdu.proofs.LengthGrammar.{length-written, length-with, length-own, length-sized, with_dialogue-own, parts-can}
pub use Rattle.tcap_pdu.proofs.WrittenFrameGrammar.{written_spelled, written_again}
pub use Rattle.tcap_pdu.proofs.DialogueAgreement.{dialogue_takes, dialogue_again}
pub use Rattle.tcap_pdu.proofs.WrittenSpelling.{written_spells, written_read}
pub use Rattle.tcap_pdu.proofs.SpelledWritable.{spelled_context, spelled_information, spelled_diagnostic}
pub use Rattle.tcap_pdu.proofs.LengthGrammar.{content-fits}
pub use Rattle.tcap_pdu.proofs.PartsWithin.{contents_within, filled_least, dialogue_within}
pub use Rattle.tcap_pdu.proofs.DialogueParts.{information_none}
pub use Rattle.tcap_pdu.proofs.DialogueLength.{element_most, element_least, external_most, external_least, length-dialogue}
