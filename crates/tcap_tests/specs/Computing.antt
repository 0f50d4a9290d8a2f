-- What the printed examples compute with.
use Rattle.std.specs.Fmt.{digits}
use Rattle.hex.specs.Hex.{decode_pairs, encode_with}
use Rattle.ber_core.specs.ElementReading.{end_at, contents_by, after_at, element_at}
use Rattle.ber_core.specs.HeadReading.{further_at, tag_at, length_at, head_at}
use Rattle.ber_core.specs.Integer.{signed_after, integer_at}
use Rattle.ber_core.specs.Length.{number_after}
use Rattle.ber_core.specs.ListReading.{items_by, item_at}
use Rattle.ber_core.specs.ObjectIdentifier.{subidentifiers_at, is_object_identifier}
use Rattle.ber_core.specs.SequenceReading.{tagged, first_whole, only_at, alone_at}
use Rattle.tcap_pdu.specs.DialoguePartsReading.{one_octet, one_at, information_at, version_of, version_at, context_at, opening_at, number_at, diagnostic_at}
use Rattle.tcap_pdu.specs.DialogueReading.{request_at, response_at, abort_at, structured_at, unstructured_at, foreign_by, pdu_by, pdu_at, dialogue_at}
use Rattle.tcap_pdu.specs.DialogueWritten.{written_external, written_dialogue}
use Rattle.tcap_pdu.specs.FrameReading.{id_at, portions_at, cause_at, reason_at, unidirectional_at, begin_at, end_at as frame_end_at, go_on_at, abort_at as frame_abort_at, type_at, frame_at}
use Rattle.tcap_component.specs.ComponentReading.{identifier_of, identifier_at, linked_at, code_at, body_at, result_at, rejected_at, problem_kind, problem_code, problem_at, invoke_at, result_last_at, error_at, reject_at, result_more_at, form_at, second_is_listed, is_structured, front_identifier, component_at, components_by}
use Rattle.tcap_component.specs.Written.{write_fault}
use Rattle.tcap_words.specs.Verdict.{message_of}
use Rattle.tcap_words.specs.Canonical.{canonical_of}

-- Whoever unfolds this name can run all that reads, judges, writes and prints (own).
unfoldable pub computing : Unit {0}
unfolding digits decode_pairs encode_with end_at contents_by after_at element_at further_at tag_at length_at head_at signed_after integer_at number_after items_by item_at subidentifiers_at is_object_identifier tagged first_whole only_at alone_at one_octet one_at information_at version_of version_at context_at opening_at number_at diagnostic_at request_at response_at abort_at structured_at unstructured_at foreign_by pdu_by pdu_at dialogue_at written_external written_dialogue id_at portions_at cause_at reason_at unidirectional_at begin_at frame_end_at go_on_at frame_abort_at type_at frame_at identifier_of identifier_at linked_at code_at body_at result_at rejected_at problem_kind problem_code problem_at invoke_at result_last_at error_at reject_at result_more_at form_at second_is_listed is_structured front_identifier component_at components_by write_fault message_of canonical_of
computing = tt
