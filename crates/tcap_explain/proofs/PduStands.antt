-- Elements that stand in a table of dialogue PDUs are the contents of a dialogue PDU.
use Rattle.std.proofs.Common.{◌≡◌, ℕ, zero, suc, ◌≤◌, true, false, Bool, leb, List, [], ◌∷◌, ◌++◌, Option, Some, None, refl, ap, subst, ◌∙◌, arith, ◌⊎◌, inl, inr}
use Rattle.std.specs.List.{AllByRecursion}
use Rattle.std.proofs.lemmas.Bool.{eqb-true}
use Rattle.std.proofs.lemmas.Bool.Decides.{nat_tests}
use Rattle.ber_core.specs.Element.{Parts, IsElement}
use Rattle.ber_core.specs.ElementList.{IsList}
use Rattle.ber_core.specs.ObjectIdentifier.{IsObjectIdentifier}
use Rattle.ber_core.specs.Sequence.{SpellsSequence, IsOnly}
use Rattle.ber_core.specs.Sequence.Field.{must, may, filled}
use Rattle.ber_core.proofs.CallerLemmas.{list_from, object_identifier_takes}
use Rattle.tcap_pdu.specs.DialogueSpelling.{Source, SaysVersion, result_number, IsExternal, IsInformation, SpellsRequest, SpellsDiagnostic, SpellsResponse, SpellsAbort}
use Rattle.tcap_pdu.specs.DialogueSpelling.Source.{user, provider}
use Rattle.tcap_explain.specs.declared.contents.Contents.TheVariants as contents
use Rattle.tcap_explain.specs.declared.line.Line.{Line}
use Rattle.tcap_explain.specs.declared.line.Line.TheVariants as line
use Rattle.tcap_explain.specs.declared.line.ListLine.TheVariants as list
use Rattle.tcap_explain.specs.declared.line.PduLine.TheVariants as pdu
use Rattle.tcap_explain.specs.declared.table.Inside.{Inside}
use Rattle.tcap_explain.specs.declared.table.Inside.TheVariants as inside
use Rattle.tcap_explain.specs.Choice.{leads, only}
use Rattle.tcap_explain.specs.Octets.{fits}
use Rattle.tcap_explain.specs.Table.{next, may_end}
use Rattle.tcap_explain.specs.Unmet.{Holds, Stands}
use Rattle.tcap_explain.specs.Unmet.Stands.{ends, begins}
use Rattle.tcap_explain.proofs.ComponentParts.{within-one}
use Rattle.tcap_explain.proofs.StandsLemmas.{octets-fit, elements-stand, either-some, only-takes, only-chooses, without, with_it, no_elements, end-stands}

abbrev nothing_more : Line
nothing_more = line.List list.End

-- ---- the parts

version-bits : (unused : ℕ) → leb unused 7 ≡ true → unused ≤ 7
version-bits unused h = grind (arith, nat_tests)

versioned : (c : List ℕ) → fits contents.ProtocolVersion c ≡ true → (v : Bool) × SaysVersion (Some c) v
versioned [] h = absurd cc
versioned (unused ∷ []) h = (false, (eqb-true unused 0 h, refl))
versioned (unused ∷ bits ∷ rest) h = (leb 0x80 bits, (version-bits unused h, refl))

abbrev Named : List ℕ → Type 0
Named name = (context : List ℕ) × IsOnly 0x06 context name × IsObjectIdentifier context

named : (bytes : List ℕ) → Stands (line.Pdu pdu.ContextName) bytes → Named bytes
unfolding next may_end
named bytes (ends l m) = absurd cc
named bytes (begins l t held e rest i n h s) =
    let k = only-takes 0x06 held (inside.Octets contents.ObjectIdentifier) nothing_more t e rest n h s in
    (e.content, with_it (must 0x06 e.content) [] e rest i (k.0, refl) (end-stands rest k.2), object_identifier_takes e.content (octets-fit contents.ObjectIdentifier e.content k.1))

abbrev Externals : List ℕ → Type 0
Externals bytes = (es : List Parts) × IsList es bytes × AllByRecursion IsExternal es

abbrev externals_line : Line
externals_line = line.Pdu pdu.Externals

externals_from : (l : Line) (bytes : List ℕ) → l ≡ externals_line → Stands l bytes → Externals bytes
unfolding next
externals_from l bytes same (ends k m) = ([], record { each = tt; is_joined = refl }, tt)
externals_from l bytes same (begins k t held e rest i n h s) =
    let here : next externals_line e.tag e.content ≡ Some (leads held t) = subst (λ (k : Line). next k e.tag e.content ≡ Some (leads held t)) same n in
    let c = only-chooses 0x28 e.tag held (inside.Octets contents.Any) externals_line t here in
    let r = externals_from t rest c.1 s in
    (e ∷ r.0, list_from e (e.whole ++ rest) rest r.0 i refl r.1, (c.0, r.2))

abbrev Informed : List ℕ → Type 0
Informed bytes = (info : List ℕ) × SpellsSequence (filled 0xbe info ∷ []) bytes × IsInformation info

informed : (bytes : List ℕ) → Stands (line.Pdu pdu.UserInformation) bytes → Informed bytes
unfolding next may_end
informed bytes (ends l m) = ([], without (filled 0xbe []) [] [] refl no_elements, record { externals = []; is_list = record { each = tt; is_joined = refl }; each = tt })
informed bytes (begins l t held e rest i n h s) =
    let k = only-takes 0xbe held (inside.Elements externals_line) nothing_more t e rest n h s in
    let x = externals_from externals_line e.content refl (elements-stand externals_line e.content k.1) in
    (e.content, with_it (filled 0xbe e.content) [] e rest i (k.0, refl) (end-stands rest k.2), record { externals = x.0; is_list = x.1; each = x.2 })

-- one octet, 0 or 1
zero_or_one : (n : ℕ) → n ≤ 1 → (n ≡ 0) ⊎ (n ≡ 1)
zero_or_one zero h = inl refl
zero_or_one (suc zero) h = inr refl
zero_or_one (suc (suc n)) h = absurd (omega (arith, h))

numbered : (bytes : List ℕ) → Stands (line.Pdu pdu.ResultNumber) bytes → (accepted : Bool) × IsOnly 0x02 (result_number accepted ∷ []) bytes
unfolding next may_end
numbered bytes (ends l m) = absurd cc
numbered bytes (begins l t held e rest i n h s) =
    let k = only-takes 0x02 held (inside.Octets contents.ResultNumber) nothing_more t e rest n h s in
    let c = within-one 1 e.content (octets-fit contents.ResultNumber e.content k.1) in
    elim (zero_or_one c.0 c.2) [
      | inl z ↦ (true, with_it (must 0x02 (0 ∷ [])) [] e rest i (k.0, c.1 ∙ ap (λ (b : ℕ). b ∷ []) z) (end-stands rest k.2))
      | inr o ↦ (false, with_it (must 0x02 (1 ∷ [])) [] e rest i (k.0, c.1 ∙ ap (λ (b : ℕ). b ∷ []) o) (end-stands rest k.2))
    ]

diagnosed : (bytes : List ℕ) → Stands (line.Pdu pdu.DiagnosticNumber) bytes → (n : ℕ) × IsOnly 0x02 (n ∷ []) bytes × (n ≤ 0x7f)
unfolding next may_end
diagnosed bytes (ends l m) = absurd cc
diagnosed bytes (begins l t held e rest i n h s) =
    let k = only-takes 0x02 held (inside.Octets contents.DiagnosticNumber) nothing_more t e rest n h s in
    let c = within-one 0x7f e.content (octets-fit contents.DiagnosticNumber e.content k.1) in
    (c.0, with_it (must 0x02 (c.0 ∷ [])) [] e rest i (k.0, c.1) (end-stands rest k.2), c.2)

sourced : (bytes : List ℕ) → Stands (line.Pdu pdu.DiagnosticSource) bytes → (d : Source) × SpellsDiagnostic d bytes
unfolding next may_end
sourced bytes (ends l m) = absurd cc
sourced bytes (begins l t held e rest i n h s) =
    let number_line = line.Pdu pdu.DiagnosticNumber in
    elim (either-some (only 0xa1 e.tag (inside.Elements number_line) nothing_more) (only 0xa2 e.tag (inside.Elements number_line) nothing_more) (leads held t) n) [
      | inl n ↦
          let k = only-takes 0xa1 held (inside.Elements number_line) nothing_more t e rest n h s in
          let d = diagnosed e.content (elements-stand number_line e.content k.1) in
          (user d.0, record { held = e.content; holds_number = d.1; is_source = with_it (must 0xa1 e.content) [] e rest i (k.0, refl) (end-stands rest k.2); in_range = d.2 })
      | inr n ↦
          let k = only-takes 0xa2 held (inside.Elements number_line) nothing_more t e rest n h s in
          let d = diagnosed e.content (elements-stand number_line e.content k.1) in
          (provider d.0, record { held = e.content; holds_number = d.1; is_source = with_it (must 0xa2 e.content) [] e rest i (k.0, refl) (end-stands rest k.2); in_range = d.2 })
    ]

-- ---- AARQ and AUDT

-- A1 and what follows it
abbrev Requested : List ℕ → Type 0
Requested bytes = (name : List ℕ) × (info : List ℕ) × SpellsSequence (must 0xa1 name ∷ filled 0xbe info ∷ []) bytes × Named name × IsInformation info

abbrev context_inside : Inside
context_inside = inside.Elements (line.Pdu pdu.ContextName)

abbrev information_line : Line
information_line = line.Pdu pdu.UserInformation

request-name : (e : Parts) (rest : List ℕ) → IsElement 32 e → e.tag ≡ 0xa1 ∷ [] → Holds context_inside e.content → Stands information_line rest → Requested (e.whole ++ rest)
request-name e rest i t h s =
    let info = informed rest s in
    (e.content, info.0, with_it (must 0xa1 e.content) (filled 0xbe info.0 ∷ []) e rest i (t, refl) info.1, named e.content (elements-stand (line.Pdu pdu.ContextName) e.content h), info.2)

request-context : (bytes : List ℕ) → Stands (line.Pdu pdu.RequestContext) bytes → Requested bytes
unfolding next may_end
request-context bytes (ends l m) = absurd cc
request-context bytes (begins l t held e rest i n h s) =
    let k = only-takes 0xa1 held context_inside information_line t e rest n h s in
    request-name e rest i k.0 k.1 k.2

abbrev IsRequest : List ℕ → Type 0
IsRequest bytes = (v : Bool) × (context : List ℕ) × (info : List ℕ) × SpellsRequest v context info bytes

pub request : (bytes : List ℕ) → Stands (line.Pdu pdu.RequestVersion) bytes → IsRequest bytes
unfolding next may_end
request bytes (ends l m) = absurd cc
request bytes (begins l t held e rest i n h s) =
    elim (either-some (only 0x80 e.tag (inside.Octets contents.ProtocolVersion) (line.Pdu pdu.RequestContext)) (only 0xa1 e.tag context_inside information_line) (leads held t) n) [
      | inl n ↦
          let k = only-takes 0x80 held (inside.Octets contents.ProtocolVersion) (line.Pdu pdu.RequestContext) t e rest n h s in
          let v = versioned e.content (octets-fit contents.ProtocolVersion e.content k.1) in
          let r = request-context rest k.2 in
          (v.0, r.3.0, r.1, record { version = Some e.content; name = r.0; in_sequence = with_it (may 0x80 (Some e.content)) (must 0xa1 r.0 ∷ filled 0xbe r.1 ∷ []) e rest i (k.0, refl) r.2; says_version = v.1; holds_context = r.3.1; is_context = r.3.2; is_information = r.4 })
      | inr n ↦
          let k = only-takes 0xa1 held context_inside information_line t e rest n h s in
          let r = request-name e rest i k.0 k.1 k.2 in
          (true, r.3.0, r.1, record { version = None; name = r.0; in_sequence = without (may 0x80 None) (must 0xa1 r.0 ∷ filled 0xbe r.1 ∷ []) (e.whole ++ rest) refl r.2; says_version = refl; holds_context = r.3.1; is_context = r.3.2; is_information = r.4 })
    ]

-- ---- AARE

-- A3 and what follows it
abbrev Sourced : List ℕ → Type 0
Sourced bytes = (source : List ℕ) × (info : List ℕ) × SpellsSequence (must 0xa3 source ∷ filled 0xbe info ∷ []) bytes × (d : Source) × SpellsDiagnostic d source × IsInformation info

with_source : (bytes : List ℕ) → Stands (line.Pdu pdu.Diagnostic) bytes → Sourced bytes
unfolding next may_end
with_source bytes (ends l m) = absurd cc
with_source bytes (begins l t held e rest i n h s) =
    let source_line = line.Pdu pdu.DiagnosticSource in
    let k = only-takes 0xa3 held (inside.Elements source_line) information_line t e rest n h s in
    let d = sourced e.content (elements-stand source_line e.content k.1) in
    let info = informed rest k.2 in
    (e.content, info.0, with_it (must 0xa3 e.content) (filled 0xbe info.0 ∷ []) e rest i (k.0, refl) info.1, d.0, d.1, info.2)

-- A2 and what follows it
abbrev Resulting : List ℕ → Type 0
Resulting bytes = (result : List ℕ) × (source : List ℕ) × (info : List ℕ) × SpellsSequence (must 0xa2 result ∷ must 0xa3 source ∷ filled 0xbe info ∷ []) bytes
    × (accepted : Bool) × IsOnly 0x02 (result_number accepted ∷ []) result × (d : Source) × SpellsDiagnostic d source × IsInformation info

resulting : (bytes : List ℕ) → Stands (line.Pdu pdu.AssociateResult) bytes → Resulting bytes
unfolding next may_end
resulting bytes (ends l m) = absurd cc
resulting bytes (begins l t held e rest i n h s) =
    let number_line = line.Pdu pdu.ResultNumber in
    let k = only-takes 0xa2 held (inside.Elements number_line) (line.Pdu pdu.Diagnostic) t e rest n h s in
    let a = numbered e.content (elements-stand number_line e.content k.1) in
    let r = with_source rest k.2 in
    (e.content, r.0, r.1, with_it (must 0xa2 e.content) (must 0xa3 r.0 ∷ filled 0xbe r.1 ∷ []) e rest i (k.0, refl) r.2, a.0, a.1, r.3, r.4, r.5)

-- A1 and what follows it
abbrev Responding : List ℕ → Type 0
Responding bytes = (name : List ℕ) × (result : List ℕ) × (source : List ℕ) × (info : List ℕ) × SpellsSequence (must 0xa1 name ∷ must 0xa2 result ∷ must 0xa3 source ∷ filled 0xbe info ∷ []) bytes
    × Named name × (accepted : Bool) × IsOnly 0x02 (result_number accepted ∷ []) result × (d : Source) × SpellsDiagnostic d source × IsInformation info

abbrev result_line : Line
result_line = line.Pdu pdu.AssociateResult

response-name : (e : Parts) (rest : List ℕ) → IsElement 32 e → e.tag ≡ 0xa1 ∷ [] → Holds context_inside e.content → Stands result_line rest → Responding (e.whole ++ rest)
response-name e rest i t h s =
    let r = resulting rest s in
    (e.content, r.0, r.1, r.2, with_it (must 0xa1 e.content) (must 0xa2 r.0 ∷ must 0xa3 r.1 ∷ filled 0xbe r.2 ∷ []) e rest i (t, refl) r.3, named e.content (elements-stand (line.Pdu pdu.ContextName) e.content h), r.4, r.5, r.6, r.7, r.8)

response-context : (bytes : List ℕ) → Stands (line.Pdu pdu.ResponseContext) bytes → Responding bytes
unfolding next may_end
response-context bytes (ends l m) = absurd cc
response-context bytes (begins l t held e rest i n h s) =
    let k = only-takes 0xa1 held context_inside result_line t e rest n h s in
    response-name e rest i k.0 k.1 k.2

abbrev IsResponse : List ℕ → Type 0
IsResponse bytes = (v : Bool) × (context : List ℕ) × (accepted : Bool) × (d : Source) × (info : List ℕ) × SpellsResponse v context accepted d info bytes

responded : (v : Bool) (version : Option (List ℕ)) (bytes : List ℕ) (name result source info : List ℕ) → SpellsSequence (may 0x80 version ∷ must 0xa1 name ∷ must 0xa2 result ∷ must 0xa3 source ∷ filled 0xbe info ∷ []) bytes → SaysVersion version v → Named name → (accepted : Bool) → IsOnly 0x02 (result_number accepted ∷ []) result → (d : Source) → SpellsDiagnostic d source → IsInformation info → IsResponse bytes
responded v version bytes name result source info seq says named accepted holds d spells informs =
    (v, named.0, accepted, d, info, record { version = version; name = name; result = result; source = source; in_sequence = seq; says_version = says; holds_context = named.1; is_context = named.2; holds_result = holds; is_diagnostic = spells; is_information = informs })

pub response : (bytes : List ℕ) → Stands (line.Pdu pdu.ResponseVersion) bytes → IsResponse bytes
unfolding next may_end
response bytes (ends l m) = absurd cc
response bytes (begins l t held e rest i n h s) =
    elim (either-some (only 0x80 e.tag (inside.Octets contents.ProtocolVersion) (line.Pdu pdu.ResponseContext)) (only 0xa1 e.tag context_inside result_line) (leads held t) n) [
      | inl n ↦
          let k = only-takes 0x80 held (inside.Octets contents.ProtocolVersion) (line.Pdu pdu.ResponseContext) t e rest n h s in
          let v = versioned e.content (octets-fit contents.ProtocolVersion e.content k.1) in
          let r = response-context rest k.2 in
          responded v.0 (Some e.content) (e.whole ++ rest) r.0 r.1 r.2 r.3 (with_it (may 0x80 (Some e.content)) (must 0xa1 r.0 ∷ must 0xa2 r.1 ∷ must 0xa3 r.2 ∷ filled 0xbe r.3 ∷ []) e rest i (k.0, refl) r.4) v.1 r.5 r.6 r.7 r.8 r.9 r.10
      | inr n ↦
          let k = only-takes 0xa1 held context_inside result_line t e rest n h s in
          let r = response-name e rest i k.0 k.1 k.2 in
          responded true None (e.whole ++ rest) r.0 r.1 r.2 r.3 (without (may 0x80 None) (must 0xa1 r.0 ∷ must 0xa2 r.1 ∷ must 0xa3 r.2 ∷ filled 0xbe r.3 ∷ []) (e.whole ++ rest) refl r.4) refl r.5 r.6 r.7 r.8 r.9 r.10
    ]

-- ---- ABRT

abbrev IsAbort : List ℕ → Type 0
IsAbort bytes = (by_provider : Bool) × (info : List ℕ) × SpellsAbort by_provider info bytes

pub aborted : (bytes : List ℕ) → Stands (line.Pdu pdu.AbortSource) bytes → IsAbort bytes
unfolding next may_end
aborted bytes (ends l m) = absurd cc
aborted bytes (begins l t held e rest i n h s) =
    let k = only-takes 0x80 held (inside.Octets contents.AbortSource) information_line t e rest n h s in
    let c = within-one 1 e.content (octets-fit contents.AbortSource e.content k.1) in
    let info = informed rest k.2 in
    elim (zero_or_one c.0 c.2) [
      | inl z ↦ (false, info.0, record { in_sequence = with_it (must 0x80 (0 ∷ [])) (filled 0xbe info.0 ∷ []) e rest i (k.0, c.1 ∙ ap (λ (b : ℕ). b ∷ []) z) info.1; is_information = info.2 })
      | inr o ↦ (true, info.0, record { in_sequence = with_it (must 0x80 (1 ∷ [])) (filled 0xbe info.0 ∷ []) e rest i (k.0, c.1 ∙ ap (λ (b : ℕ). b ∷ []) o) info.1; is_information = info.2 })
    ]
