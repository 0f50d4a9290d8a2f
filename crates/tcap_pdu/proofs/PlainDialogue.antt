-- The plain forms of a dialogue PDU, as the general reading reads them.
use Rattle.std.proofs.Common.{◌≡◌, ℕ, Bool, true, List, [], ◌∷◌, length, Option, Some, None, refl}
use Rattle.std.specs.Prelude.{IfSome}
use Rattle.std.proofs.lemmas.List.{nil_from_length}
use Rattle.ber_core.specs.ElementReading.{after_at, element_at}
use Rattle.ber_core.specs.HeadReading.{tag_at, length_at, head_at}
use Rattle.ber_core.specs.SequenceReading.{tagged, content_at, only_at, alone_at}
use Rattle.ber_core.proofs.CallerLemmas.{only_takes}
use Rattle.tcap_pdu.specs.declared.dialogue_pdu.DialoguePdu.{DialoguePdu}
use Rattle.tcap_pdu.specs.DialogueSpelling.Source.{user}
use Rattle.tcap_pdu.specs.DialogueSpelling.PduValue.{aarq, aare}
use Rattle.tcap_pdu.specs.DialogueViews.{pdu_value}
use Rattle.tcap_pdu.specs.DialoguePartsReading.{one_octet, tag_and, one_at, information_at, Opening, opening, opening_at, number_at, diagnostic_at}
use Rattle.tcap_pdu.specs.DialogueReading.{request_at, response_at, structured_at}
use Rattle.tcap_pdu.proofs.DialogueParts.{information_none, one_again}

-- ---- what stands behind the application context name

no-information : information_at [] ≡ Some []
unfolding information_at tagged element_at head_at tag_at
no-information = rw (information_none [] refl) refl

pub request-alone : (version1 : Bool) (bytes context rest : List ℕ) → opening_at bytes ≡ Some (opening version1 context rest) → length rest ≡ 0 → request_at bytes ≡ Some (opening version1 context [])
unfolding request_at
request-alone version1 bytes context rest o none = rw o (rw (nil_from_length rest none) (rw no-information refl))

-- the result accepted, and the diagnostic null of the user
abbrev result_octets : List ℕ
result_octets = 0x02 ∷ 1 ∷ 0 ∷ []

abbrev diagnostic_octets : List ℕ
diagnostic_octets = 0xa1 ∷ 3 ∷ 0x02 ∷ 1 ∷ 0 ∷ []

abbrev source_octets : List ℕ
source_octets = 0xa3 ∷ 5 ∷ diagnostic_octets

abbrev pub accepted_octets : List ℕ
accepted_octets = 0xa2 ∷ 3 ∷ 0x02 ∷ 1 ∷ 0 ∷ source_octets

result-found : content_at 0xa2 accepted_octets ≡ Some (result_octets, source_octets)
unfolding tagged element_at after_at head_at tag_at length_at
result-found = refl

result-is : number_at result_octets ≡ Some 0
unfolding number_at only_at one_octet tagged element_at after_at head_at tag_at length_at
result-is = refl

source-found : content_at 0xa3 source_octets ≡ Some (diagnostic_octets, [])
unfolding tagged element_at after_at head_at tag_at length_at
source-found = refl

diagnostic-is : diagnostic_at diagnostic_octets ≡ Some (user 0)
unfolding diagnostic_at one_at alone_at number_at only_at one_octet tagged element_at after_at head_at tag_at length_at
diagnostic-is = refl

pub response-alone : (version1 : Bool) (bytes context rest : List ℕ) → opening_at bytes ≡ Some (opening version1 context rest) → rest ≡ accepted_octets → response_at bytes ≡ Some (aare version1 context true (user 0) [])
unfolding response_at
response-alone version1 bytes context rest o is = rw o (rw is (rw result-found (rw result-is (rw source-found (rw diagnostic-is (rw no-information refl))))))

-- ---- the PDU of a structured dialogue

one-only : (tag : ℕ) (bytes content : List ℕ) → only_at tag bytes ≡ Some content → one_at bytes ≡ Some (tag_and tag content)
one-only tag bytes content is = one_again tag content bytes (only_takes tag bytes content is)

pub structured-request : (bytes content : List ℕ) (r : Opening) → only_at 0x60 bytes ≡ Some content → request_at content ≡ Some r → structured_at bytes ≡ Some (aarq r.0 r.1 r.2)
unfolding structured_at
structured-request bytes content r is reads = rw (one-only 0x60 bytes content is) (rw reads refl)

pub structured-response : (o : Option DialoguePdu) (bytes content : List ℕ) → only_at 0x61 bytes ≡ Some content → IfSome o (λ pdu. response_at content ≡ Some (pdu_value pdu)) → IfSome o (λ pdu. structured_at bytes ≡ Some (pdu_value pdu))
unfolding structured_at
structured-response None bytes content is reads = tt
structured-response (Some pdu) bytes content is reads = rw (one-only 0x61 bytes content is) reads
