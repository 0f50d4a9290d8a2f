-- What the crates above cite: laws of this crate's definitions. Declares nothing.
pub use Rattle.ber_core.proofs.ResultSteps.{read, refused, read_is, refused_is, not_read, not_refused, ByResult, by_result, bind_read, bind_refused, chosen_by, guard_read}
pub use Rattle.ber_core.proofs.OptionSteps.{some, some_is, not_some, ByOption, by_option, bind_some, guard_some, test_some, ending-is, ending-again}
pub use Rattle.ber_core.proofs.HeadGrammar.{HeadRead, SpellsLength, SpellsHead, head_takes, head_again-definite, head_again-indefinite}
pub use Rattle.ber_core.proofs.HeadAgreement.{begins, begins_again}
pub use Rattle.ber_core.proofs.ElementGrammar.{element_takes, element_again, IsElement-begins, IsElement-longer}
pub use Rattle.ber_core.proofs.Agreement.{element_fails}
pub use Rattle.ber_core.proofs.FaultAgain.{one_fault, no_element}
pub use Rattle.ber_core.proofs.FaultStays.{fault_stays}
pub use Rattle.ber_core.proofs.ItemSteps.{items_of-empty, items_of-none, items_of-next, items_of-fault, items_of-list}
pub use Rattle.ber_core.proofs.PlainElement.{tagged_one}
pub use Rattle.ber_core.proofs.SequenceGrammar.{Apart, is_tag-one, is_tag-is, list_from, content_at-is, may_takes, filled_takes, must_takes, any_takes, end_takes, may_again, must_again, filled_again, any_again, end_again, must-longer, other_first}
pub use Rattle.ber_core.proofs.AloneGrammar.{only_takes, only_again, alone_takes, alone_again, list_takes, list_again}
pub use Rattle.ber_core.proofs.ObjectIdentifierGrammar.{object_identifier_takes, object_identifier_again}
pub use Rattle.ber_core.proofs.WrittenGrammar.{length_is, part_is, fields_spelled, element_spelled, element_written}
pub use Rattle.ber_core.proofs.LengthOfWritten.{element_length-least, element_length-most, length-written}
pub use Rattle.ber_core.proofs.IntegerGrammar.{integer_takes, integer_again, integer-octets, integer_spelled, integer-fits}
pub use Rattle.ber_core.proofs.IntegerOctets.{octet_of-signed_octet, signed_octet-octet_of, octet_of-below, signed_octet-fits, cast_signed-is, cast_unsigned-is}
pub use Rattle.ber_core.proofs.WaySteps.{goes-all, goes-then, goes-past, inside-goes, inside-goes-any, way-one, way-one-any, way-in, way-any, element-inside, head_length-whole}
pub use Rattle.ber_core.proofs.ElementsRoad.{elements-yield}
pub use Rattle.ber_core.proofs.CutGrammar.{after_messages, cut_takes, cut-faulty, cut-longer, cut-message, cut-stops}
