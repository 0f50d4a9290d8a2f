-- The dialogue PDUs of requests: what a context and user information that are good make good.
use Rattle.std.proofs.Common.{◌≡◌, ℕ, Bool, true, false, List, Option, Some, None, refl, unwrap_or}
use Rattle.ber_core.specs.ObjectIdentifier.{is_object_identifier}
use Rattle.tcap_pdu.specs.DialogueDue.{content_fault}
use Rattle.tcap_pdu.specs.DialoguePartsReading.{is_information}
use Rattle.tcap_pdu.specs.DialogueSpelling.{PduValue, Source}
use Rattle.tcap_model.specs.Procedures.Refusals.{can_name}

pub request_good : (context info : List ℕ) → can_name (Some context) ≡ true → is_information info ≡ true → content_fault (PduValue.aarq true context info) ≡ None
request_good context info n i = rw (n, i) refl

pub alone_good : (context info : List ℕ) → can_name (Some context) ≡ true → is_information info ≡ true → content_fault (PduValue.audt true context info) ≡ None
alone_good context info n i = rw (n, i) refl

pub response_good : (context info : List ℕ) (accepted : Bool) (source : Source) → is_object_identifier context ≡ true → is_information info ≡ true → content_fault (PduValue.aare true context accepted source info) ≡ None
response_good context info accepted source n i = rw (n, i) refl

pub given_good : (given : Option (List ℕ)) (asked : List ℕ) → can_name given ≡ true → is_object_identifier asked ≡ true → is_object_identifier (unwrap_or given asked) ≡ true
given_good None asked n a = a
given_good (Some context) asked n a = n

pub abort_good : (info : List ℕ) → is_information info ≡ true → content_fault (PduValue.abrt false info) ≡ None
abort_good info i = rw i refl
