-- What is written spells the PDU.
use Rattle.std.proofs.Common.{◌≡◌, ◌≢◌, ℕ, ◌+◌, ◌≤◌, Bool, true, false, eqb, bit_and, List, [], ◌∷◌, length, Some, Ok, refl, subst, arith, append-nil}
use Rattle.ber_core.specs.ObjectIdentifier.{IsObjectIdentifier}
use Rattle.ber_core.specs.Sequence.{Field, IsOnly}
use Rattle.ber_core.specs.Sequence.Field.{must}
use Rattle.ber_core.specs.Written.{written, written_fields, IsShort}
use Rattle.ber_core.specs.WrittenLength.{element_length}
use Rattle.ber_core.proofs.CallerLemmas.{fields_spelled, element_length-least, length-written}
use Rattle.tcap_pdu.specs.DialogueSpelling.{Source, PduValue, structured_syntax, unstructured_syntax, SaysVersion, result_number, abort_source, source_tag, source_number, IsInformation, SpellsRequest, SpellsDiagnostic, SpellsResponse, SpellsAbort, SpellsExternal, SpellsDialogue}
use Rattle.tcap_pdu.specs.DialogueSpelling.Source.{user, provider}
use Rattle.tcap_pdu.specs.DialogueSpelling.PduValue.{aarq, audt, aare, abrt, foreign}
use Rattle.tcap_pdu.specs.DialogueWritten.{version_octets, request_fields, response_fields, abort_fields, written_external, written_dialogue, HasDiagnostic, IsWritable}
use Rattle.tcap_pdu.specs.DialogueDue.{information_length, opening_length, answer_length}
use Rattle.tcap_pdu.specs.DialogueReading.{dialogue_at}
use Rattle.tcap_pdu.proofs.DialogueLength.{information_least, length-held, length-request, length-response, length-abort}
use Rattle.tcap_pdu.proofs.DialogueAgreement.{dialogue_again}

-- a tag that one octet is
abbrev IsPlain : ℕ → Type 0
IsPlain tag = (tag ≢ 0x00) × (eqb (bit_and tag 0x1f) 0x1f ≡ false)

plain-60 : IsPlain 0x60
plain-60 = ((λ e. absurd (omega (arith, e))), refl)

plain-61 : IsPlain 0x61
plain-61 = ((λ e. absurd (omega (arith, e))), refl)

plain-64 : IsPlain 0x64
plain-64 = ((λ e. absurd (omega (arith, e))), refl)

plain-source : (d : Source) → IsPlain (source_tag d)
plain-source (user n) = ((λ e. absurd (omega (arith, e))), refl)
plain-source (provider n) = ((λ e. absurd (omega (arith, e))), refl)

plain-02 : IsPlain 0x02
plain-02 = ((λ e. absurd (omega (arith, e))), refl)

plain-06 : IsPlain 0x06
plain-06 = ((λ e. absurd (omega (arith, e))), refl)

plain-28 : IsPlain 0x28
plain-28 = ((λ e. absurd (omega (arith, e))), refl)

plain-80 : IsPlain 0x80
plain-80 = ((λ e. absurd (omega (arith, e))), refl)

plain-a0 : IsPlain 0xa0
plain-a0 = ((λ e. absurd (omega (arith, e))), refl)

plain-a1 : IsPlain 0xa1
plain-a1 = ((λ e. absurd (omega (arith, e))), refl)

plain-a2 : IsPlain 0xa2
plain-a2 = ((λ e. absurd (omega (arith, e))), refl)

plain-a3 : IsPlain 0xa3
plain-a3 = ((λ e. absurd (omega (arith, e))), refl)

plain-be : IsPlain 0xbe
plain-be = ((λ e. absurd (omega (arith, e))), refl)

short : (tag : ℕ) (c : List ℕ) → IsPlain tag → length c ≤ 65535 → IsShort tag c
short tag c p le = (p.0, p.1, le)

only_written : (tag : ℕ) (c : List ℕ) → IsPlain tag → length c ≤ 65535 → IsOnly tag c (written (tag ∷ []) c)
only_written tag c p le = subst (IsOnly tag c) (append-nil (written (tag ∷ []) c)) (fields_spelled (must tag c ∷ []) (short tag c p le, tt))

says : (v : Bool) → SaysVersion (Some (version_octets v)) v
says true = (omega arith, refl)
says false = (omega arith, refl)

version_short : (v : Bool) → length (version_octets v) ≤ 65535
version_short true = omega arith
version_short false = omega arith

name_short : (c : List ℕ) (n : ℕ) → element_length (element_length (length c)) ≤ n → n ≤ 65535 → length (written (0x06 ∷ []) c) ≤ 65535
name_short c n le most = let l = length-written 0x06 c in let m = element_length-least (element_length (length c)) in omega (arith, l, m, le, most)

context_short : (c : List ℕ) (n : ℕ) → element_length (element_length (length c)) ≤ n → n ≤ 65535 → length c ≤ 65535
context_short c n le most = let l = element_length-least (length c) in let m = element_length-least (element_length (length c)) in omega (arith, l, m, le, most)

info_short : (i : List ℕ) (n : ℕ) → information_length (length i) ≤ n → n ≤ 65535 → length i ≤ 65535
info_short i n le most = let l = information_least (length i) in omega (arith, l, le, most)

request_spelled : (v : Bool) (c i : List ℕ) → IsObjectIdentifier c → IsInformation i → opening_length (length c) + information_length (length i) ≤ 65535 → SpellsRequest v c i (written_fields (request_fields v c i))
request_spelled v c i is_context is_information le = record {
  version = Some (version_octets v);
  name = written (0x06 ∷ []) c;
  in_sequence = fields_spelled (request_fields v c i) (short 0x80 (version_octets v) plain-80 (version_short v), (short 0xa1 (written (0x06 ∷ []) c) plain-a1 (name_short c 65535 (omega arith) (omega arith)), (short 0xbe i plain-be (info_short i 65535 (omega arith) (omega arith)), tt)));
  says_version = says v;
  holds_context = only_written 0x06 c plain-06 (context_short c 65535 (omega arith) (omega arith));
  is_context = is_context;
  is_information = is_information;
}

number_of : (n : ℕ) → length (written (0x02 ∷ []) (n ∷ [])) ≤ 65535
number_of n = omega arith

diagnostic_spelled : (d : Source) → source_number d ≤ 127 → SpellsDiagnostic d (written (source_tag d ∷ []) (written (0x02 ∷ []) (source_number d ∷ [])))
diagnostic_spelled d le = record {
  held = written (0x02 ∷ []) (source_number d ∷ []);
  holds_number = only_written 0x02 (source_number d ∷ []) plain-02 (omega arith);
  is_source = only_written (source_tag d) (written (0x02 ∷ []) (source_number d ∷ [])) (plain-source d) (number_of (source_number d));
  in_range = le;
}

source_short : (d : Source) → length (written (source_tag d ∷ []) (written (0x02 ∷ []) (source_number d ∷ []))) ≤ 65535
source_short d = omega arith

response_spelled : (v : Bool) (c : List ℕ) (a : Bool) (d : Source) (i : List ℕ) → IsObjectIdentifier c → IsInformation i → source_number d ≤ 127 → opening_length (length c) + answer_length + information_length (length i) ≤ 65535 → SpellsResponse v c a d i (written_fields (response_fields v c a d i))
response_spelled v c a d i is_context is_information in_range le = record {
  version = Some (version_octets v);
  name = written (0x06 ∷ []) c;
  result = written (0x02 ∷ []) (result_number a ∷ []);
  source = written (source_tag d ∷ []) (written (0x02 ∷ []) (source_number d ∷ []));
  in_sequence = fields_spelled (response_fields v c a d i) (short 0x80 (version_octets v) plain-80 (version_short v), (short 0xa1 (written (0x06 ∷ []) c) plain-a1 (name_short c 65535 (omega arith) (omega arith)), (short 0xa2 (written (0x02 ∷ []) (result_number a ∷ [])) plain-a2 (number_of (result_number a)), (short 0xa3 (written (source_tag d ∷ []) (written (0x02 ∷ []) (source_number d ∷ []))) plain-a3 (source_short d), (short 0xbe i plain-be (info_short i 65535 (omega arith) (omega arith)), tt)))));
  says_version = says v;
  holds_context = only_written 0x06 c plain-06 (context_short c 65535 (omega arith) (omega arith));
  is_context = is_context;
  holds_result = only_written 0x02 (result_number a ∷ []) plain-02 (omega arith);
  is_diagnostic = diagnostic_spelled d in_range;
  is_information = is_information;
}

abort_spelled : (b : Bool) (i : List ℕ) → IsInformation i → element_length 1 + information_length (length i) ≤ 65535 → SpellsAbort b i (written_fields (abort_fields b i))
abort_spelled b i is_information le = record {
  in_sequence = fields_spelled (abort_fields b i) (short 0x80 (abort_source b ∷ []) plain-80 (omega arith), (short 0xbe i plain-be (info_short i 65535 (omega arith) (omega arith)), tt));
  is_information = is_information;
}

-- a PDU with its EXTERNAL, whose contents have this length and are spelled where they are not too long
external_spelled : (syntax : List ℕ) (tag n : ℕ) (fs : List Field) (Spells : List ℕ → Type 0) → length syntax ≡ 7 → IsPlain tag → length (written_fields fs) ≡ n → length (written_external syntax tag fs) ≤ 65535 → (n ≤ 65535 → Spells (written_fields fs)) → SpellsExternal syntax tag Spells (written_external syntax tag fs)
unfolding written_external
external_spelled syntax tag n fs Spells is plain len le spells =
    let content = written_fields fs in
    let single = written (tag ∷ []) content in
    let external = written_fields (must 0x06 syntax ∷ must 0xa0 single ∷ []) in
    let whole = length-written 0x28 external in
    let outer = element_length-least (length external) in
    let held = length-held syntax tag fs is in
    let inner = length-written tag content in
    let single_least = element_length-least (element_length (length content)) in
    let content_least = element_length-least (length content) in
    record {
      external = external;
      single = single;
      content = content;
      is_external = only_written 0x28 external plain-28 (omega (arith, whole, outer, le));
      in_sequence = fields_spelled (must 0x06 syntax ∷ must 0xa0 single ∷ []) (short 0x06 syntax plain-06 (omega (arith, is)), (short 0xa0 single plain-a0 (omega (arith, whole, outer, le, held, inner, single_least)), tt));
      is_pdu = only_written tag content plain (omega (arith, whole, outer, le, held, single_least, content_least));
      is_content = spells (omega (arith, whole, outer, le, held, single_least, content_least, len));
    }

pub written_spells : (p : PduValue) → IsWritable p → HasDiagnostic p → SpellsDialogue p (written_dialogue p)
unfolding SpellsDialogue written_dialogue
written_spells (aarq v c i) w d = external_spelled structured_syntax 0x60 _ (request_fields v c i) (SpellsRequest v c i) refl plain-60 (length-request v c i) w.is_short (request_spelled v c i w.is_context_good w.is_information_good)
written_spells (audt v c i) w d = external_spelled unstructured_syntax 0x60 _ (request_fields v c i) (SpellsRequest v c i) refl plain-60 (length-request v c i) w.is_short (request_spelled v c i w.is_context_good w.is_information_good)
written_spells (aare v c a s i) w d = external_spelled structured_syntax 0x61 _ (response_fields v c a s i) (SpellsResponse v c a s i) refl plain-61 (length-response v c a s i) w.is_short (response_spelled v c a s i w.is_context_good w.is_information_good d)
written_spells (abrt b i) w d = external_spelled structured_syntax 0x64 _ (abort_fields b i) (SpellsAbort b i) refl plain-64 (length-abort b i) w.is_short (abort_spelled b i w.is_information_good)
written_spells (foreign e) w d = (refl, w.is_information_good)

pub written_read : (p : PduValue) → IsWritable p → HasDiagnostic p → dialogue_at (written_dialogue p) ≡ Ok p
written_read p w d = dialogue_again (written_dialogue p) p (written_spells p w d)
