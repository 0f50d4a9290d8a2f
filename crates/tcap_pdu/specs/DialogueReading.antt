-- The contents of a dialogue portion, read from left to right.
use Rattle.std.specs.Prelude.{ℕ, List, Bool, true, false, Option, Some, None, Result, ◌==◌, ok_or, is_ok, if◌then◌else◌}
use Rattle.std.specs.List.{list_all}
use Rattle.std.specs.Str.{bytes_eq}
use Rattle.ber_core.specs.Options.{◌>>=◌}
use Rattle.ber_core.specs.ListReading.{items_of}
use Rattle.ber_core.specs.ObjectIdentifier.{is_object_identifier}
use Rattle.ber_core.specs.SequenceReading.{content_at, only_at}
use Rattle.tcap_pdu.specs.declared.fault.DialogueFault.{DialogueFault}
use Rattle.tcap_pdu.specs.declared.fault.DialogueFault.TheVariants.{Faulty}
use Rattle.tcap_pdu.specs.DialogueSpelling.{PduValue, structured_syntax, unstructured_syntax}
use Rattle.tcap_pdu.specs.DialogueSpelling.PduValue.{aarq, audt, aare, abrt, foreign}
use Rattle.tcap_pdu.specs.DialoguePartsReading.{one_octet, one_at, information_at, Opening, opening, opening_at, number_at, diagnostic_at}

-- The contents of an AARQ or an AUDT: version, context, information (Q.773, Dialogue portion).
unfoldable pub request_at : List ℕ → Option Opening
request_at bytes = do
  o ← opening_at bytes
  info ← information_at o.2
  Some (opening o.0 o.1 info)

-- Whether a result says accepted: 0 is accepted, 1 is reject permanent
-- (Q.773, Dialogue portion; that there is no other number is own).
abbrev pub accepted_of : ℕ → Option Bool
accepted_of n = if n == 0 then Some true else if n == 1 then Some false else None

-- Whether an abort source is the provider: 0 is the user, 1 is the provider
-- (Q.773, Dialogue portion; that there is no other number is own).
abbrev pub by_provider_of : ℕ → Option Bool
by_provider_of n = if n == 0 then Some false else if n == 1 then Some true else None

-- The contents of an AARE (Q.773, Dialogue portion).
unfoldable pub response_at : List ℕ → Option PduValue
response_at bytes = do
  o ← opening_at bytes
  result ← content_at 0xa2 o.2
  number ← number_at result.0
  accepted ← accepted_of number
  source ← content_at 0xa3 result.1
  diagnostic ← diagnostic_at source.0
  info ← information_at source.1
  Some (aare o.0 o.1 accepted diagnostic info)

-- The contents of an ABRT (Q.773, Dialogue portion).
unfoldable pub abort_at : List ℕ → Option PduValue
abort_at bytes = do
  source ← content_at 0x80 bytes
  number ← one_octet source.0
  by_provider ← by_provider_of number
  info ← information_at source.1
  Some (abrt by_provider info)

-- An AARQ with these contents (Q.773, Dialogue portion).
abbrev pub aarq_of : Opening → Option PduValue
aarq_of r = Some (aarq r.0 r.1 r.2)

-- An AUDT with these contents (Q.773, Dialogue portion).
abbrev pub audt_of : Opening → Option PduValue
audt_of r = Some (audt r.0 r.1 r.2)

-- The PDU of a structured dialogue with this tag and these contents (Q.773, Dialogue portion).
abbrev pub structured_by : ℕ → List ℕ → Option PduValue
structured_by tag content =
    if tag == 0x60 then request_at content >>= aarq_of
    else if tag == 0x61 then response_at content
    else if tag == 0x64 then abort_at content
    else None

-- The PDU of a structured dialogue, alone (Q.773, Dialogue portion).
unfoldable pub structured_at : List ℕ → Option PduValue
structured_at bytes = one_at bytes >>= (λ h. structured_by h.0 h.1)

-- The PDU of an unstructured dialogue, alone (Q.773, Dialogue portion).
unfoldable pub unstructured_at : List ℕ → Option PduValue
unstructured_at bytes = do
  content ← only_at 0x60 bytes
  r ← request_at content
  audt_of r

-- An EXTERNAL of this syntax, which is an object identifier, with a list of elements behind it
-- (Q.773, Dialogue portion).
unfoldable pub foreign_by : List ℕ → List ℕ → List ℕ → Option PduValue
foreign_by bytes syntax rest =
    if is_object_identifier syntax then (if list_all is_ok (items_of rest) then Some (foreign bytes) else None) else None

-- The PDU by the abstract syntax, which stands first in the EXTERNAL (Q.773, Dialogue portion).
unfoldable pub pdu_by : List ℕ → List ℕ → List ℕ → Option PduValue
pdu_by bytes syntax rest =
    if bytes_eq syntax structured_syntax then only_at 0xa0 rest >>= structured_at
    else if bytes_eq syntax unstructured_syntax then only_at 0xa0 rest >>= unstructured_at
    else foreign_by bytes syntax rest

-- The PDU that the contents of a dialogue portion spell, if any (Q.773, Dialogue portion).
unfoldable pub pdu_at : List ℕ → Option PduValue
pdu_at bytes = do
  external ← only_at 0x28 bytes
  s ← content_at 0x06 external
  pdu_by bytes s.0 s.1

-- The dialogue PDU that contents spell, or the fault where they spell none (Q.773, Dialogue portion; the
-- fault is own).
unfoldable pub dialogue_at : List ℕ → Result PduValue DialogueFault
dialogue_at bytes = ok_or (pdu_at bytes) Faulty
