-- Messages and components that are written of octets are octets.
use Rattle.std.proofs.Common.{◌≡◌, ◌∙◌, ℕ, ℤ, Bool, true, false, List, [], ◌∷◌, nat_lt, Option, Some, None, option_map, refl, sym, subst, arith}
use Rattle.std.specs.Prelude.{FitsSigned}
use Rattle.std.specs.Int.{w32}
use Rattle.std.specs.List.{AllByRecursion}
use Rattle.ber_core.specs.Integer.{IsOctet, integer_octets, octet_of}
use Rattle.ber_core.specs.Sequence.{Field}
use Rattle.ber_core.specs.Sequence.Field.{must, may, filled, any}
use Rattle.ber_core.specs.Written.{written, written_fields}
use Rattle.ber_core.proofs.CallerLemmas.{integer_spelled, octet_of-below}
use Rattle.tcap_pdu.specs.DialogueSpelling.{PduValue, Source, source_number, abort_source, structured_syntax, unstructured_syntax}
use Rattle.tcap_pdu.specs.DialogueWritten.{opening_fields, request_fields, response_fields, abort_fields, result_field, diagnostic_field, written_external, written_dialogue}
use Rattle.tcap_pdu.specs.FrameSpelling.{Message, SpellsFrame, fields, message_tag}
use Rattle.tcap_pdu.specs.FrameWritten.{written_frame}
use Rattle.tcap_component.specs.declared.problem.Kind.{Kind}
use Rattle.tcap_component.specs.declared.problem.Kind.TheVariants as kind
use Rattle.tcap_component.specs.Component.{CodeParts, BodyParts, ComponentParts, IsIdentifier, IsIdentifierIfAny, component_tag, identifier, code_field, rejected_field, body_fields, body_of}
use Rattle.tcap_component.specs.Component.CodeParts.{local, global}
use Rattle.tcap_component.specs.Component as component
use Rattle.tcap_component.specs.Component.ComponentParts.{invoke, result_last, error_back, reject_back, result_more}
use Rattle.tcap_component.specs.Problem.{IsProblem, problem_tag}
use Rattle.tcap_component.specs.Written.{written_body, written_contents, written_component}
use Rattle.tcap_play.proofs.Octets.OctetLists.{Octets, Fine, FieldFine, FieldsFine, fields-fine, octets-one, octets-cons, written-fine, written-octets}
use Rattle.tcap_play.proofs.Octets.ReadOctets.{content-short}

-- ---- dialogue portions

abbrev pub PduFine : PduValue → Type 0
PduFine (PduValue.aarq version1 context info) = Fine context × Fine info
PduFine (PduValue.audt version1 context info) = Fine context × Fine info
PduFine (PduValue.aare version1 context accepted diagnostic info) =
    Fine context × (nat_lt (source_number diagnostic) 0x100 ≡ true) × Fine info
PduFine (PduValue.abrt by_provider info) = Fine info
PduFine (PduValue.foreign external) = Fine external

opening-fine : (version1 : Bool) (context : List ℕ) (fs : List Field) → Fine context → FieldsFine fs
    → FieldsFine (opening_fields version1 context fs)
opening-fine true context fs name all = ((refl, λ short. refl), ((refl, written-fine (0x06 ∷ []) context refl name), all))
opening-fine false context fs name all = ((refl, λ short. refl), ((refl, written-fine (0x06 ∷ []) context refl name), all))

result-fine : (accepted : Bool) → FieldFine (result_field accepted)
result-fine true = (refl, λ short. refl)
result-fine false = (refl, λ short. refl)

diagnostic-fine : (diagnostic : Source) → nat_lt (source_number diagnostic) 0x100 ≡ true → FieldFine (diagnostic_field diagnostic)
diagnostic-fine (Source.user n) low =
    (refl, written-fine (0xa1 ∷ []) (written (0x02 ∷ []) (n ∷ [])) refl (written-fine (0x02 ∷ []) (n ∷ []) refl (λ short. octets-one n low)))
diagnostic-fine (Source.provider n) low =
    (refl, written-fine (0xa2 ∷ []) (written (0x02 ∷ []) (n ∷ [])) refl (written-fine (0x02 ∷ []) (n ∷ []) refl (λ short. octets-one n low)))

source-fine : (by_provider : Bool) → Fine (abort_source by_provider ∷ [])
source-fine true = λ short. refl
source-fine false = λ short. refl

external-fine : (syntax : List ℕ) (tag : ℕ) (fs : List Field) → Octets syntax → nat_lt tag 0x100 ≡ true → FieldsFine fs
    → Fine (written_external syntax tag fs)
unfolding written_external
external-fine syntax tag fs named low all =
    written-fine (0x28 ∷ []) (written_fields (must 0x06 syntax ∷ must 0xa0 (written (tag ∷ []) (written_fields fs)) ∷ [])) refl
    (fields-fine (must 0x06 syntax ∷ must 0xa0 (written (tag ∷ []) (written_fields fs)) ∷ [])
    ((refl, λ short. named), ((refl, written-fine (tag ∷ []) (written_fields fs) (octets-one tag low) (fields-fine fs all)), tt)))

pub dialogue-fine : (p : PduValue) → PduFine p → Fine (written_dialogue p)
unfolding written_dialogue
dialogue-fine (PduValue.aarq version1 context info) fine =
    external-fine structured_syntax 0x60 (request_fields version1 context info) refl refl
    (opening-fine version1 context (filled 0xbe info ∷ []) fine.0 ((refl, fine.1), tt))
dialogue-fine (PduValue.audt version1 context info) fine =
    external-fine unstructured_syntax 0x60 (request_fields version1 context info) refl refl
    (opening-fine version1 context (filled 0xbe info ∷ []) fine.0 ((refl, fine.1), tt))
dialogue-fine (PduValue.aare version1 context accepted diagnostic info) fine =
    external-fine structured_syntax 0x61 (response_fields version1 context accepted diagnostic info) refl refl
    (opening-fine version1 context (result_field accepted ∷ diagnostic_field diagnostic ∷ filled 0xbe info ∷ []) fine.0
    (result-fine accepted, (diagnostic-fine diagnostic fine.1, ((refl, fine.2), tt))))
dialogue-fine (PduValue.abrt by_provider info) fine =
    external-fine structured_syntax 0x64 (abort_fields by_provider info) refl refl
    ((refl, source-fine by_provider), ((refl, fine), tt))
dialogue-fine (PduValue.foreign external) fine = fine

-- ---- messages

message_tag-low : (m : Message) → Octets (message_tag m ∷ [])
message_tag-low (Message.unidirectional portion components) = refl
message_tag-low (Message.begin origin portion components) = refl
message_tag-low (Message.end to portion components) = refl
message_tag-low (Message.go_on origin to portion components) = refl
message_tag-low (Message.abort to reason) = refl

-- a message of octets, that can be read, is octets
pub frame-written : (m read : Message) (bytes : List ℕ) → bytes ≡ written_frame m → SpellsFrame read bytes → FieldsFine (fields m)
    → Octets bytes
frame-written m read bytes is spelled fine =
    let short = content-short spelled.element (message_tag m) (message_tag read) (written_fields (fields m)) spelled.is_element
    spelled.is_frame.is_tag (sym spelled.is_whole ∙ is) in
    subst (λ (w : List ℕ). Octets w) (sym is)
    (written-octets (message_tag m ∷ []) (written_fields (fields m)) (message_tag-low m) short (fields-fine (fields m) fine short))

-- ---- components

octets-again : (xs : List ℕ) → AllByRecursion IsOctet xs → Octets xs
octets-again [] all = refl
octets-again (b ∷ xs) all = octets-cons b xs all.0 (octets-again xs all.1)

integer-fine : (number : ℤ) → FitsSigned w32 number → Fine (integer_octets number)
integer-fine number fits = λ short. octets-again (integer_octets number) (integer_spelled number fits).are_octets

identifier-fine : (id : ℤ) → IsIdentifier id → Fine (identifier id)
identifier-fine id is = λ short. octets-cons (octet_of id) [] (octet_of-below id is) refl

abbrev pub FineIfAny : Option (List ℕ) → Type 0
FineIfAny None = Unit {0}
FineIfAny (Some octets) = Fine octets

abbrev pub CodeFine : CodeParts → Type 0
CodeFine (local number) = FitsSigned w32 number
CodeFine (global octets) = Fine octets

abbrev pub BodyFine : Option BodyParts → Type 0
BodyFine None = Unit {0}
BodyFine (Some body) = CodeFine body.code × FineIfAny body.parameter

abbrev pub ComponentFine : ComponentParts → Type 0
ComponentFine (invoke id linked code parameter) = IsIdentifier id × IsIdentifierIfAny linked × CodeFine code × FineIfAny parameter
ComponentFine (result_last id body) = IsIdentifier id × BodyFine body
ComponentFine (error_back id code parameter) = IsIdentifier id × CodeFine code × FineIfAny parameter
ComponentFine (reject_back id problem) = IsIdentifierIfAny id × IsProblem problem
ComponentFine (result_more id body) = IsIdentifier id × BodyFine body

linked-fine : (linked : Option ℤ) → IsIdentifierIfAny linked → FieldFine (may 0x80 (option_map identifier linked))
linked-fine None is = tt
linked-fine (Some id) is = (refl, identifier-fine id is)

code-fine : (code : CodeParts) → CodeFine code → FieldFine (code_field code)
code-fine (local number) fine = (refl, integer-fine number fine)
code-fine (global octets) fine = (refl, fine)

parameter-fine : (parameter : Option (List ℕ)) → FineIfAny parameter → FieldFine (any parameter)
parameter-fine None fine = tt
parameter-fine (Some octets) fine = fine

body-fine : (body : Option BodyParts) → BodyFine body → FieldFine (may 0x30 (written_body body))
body-fine None fine = tt
body-fine (Some body) fine =
    (refl, fields-fine (body_fields body) (code-fine body.code fine.0, (parameter-fine body.parameter fine.1, tt)))

rejected-fine : (id : Option ℤ) → IsIdentifierIfAny id → FieldFine (rejected_field id)
rejected-fine None is = (refl, λ short. refl)
rejected-fine (Some id) is = (refl, identifier-fine id is)

problem_tag-low : (k : Kind) → nat_lt (problem_tag k) 0x100 ≡ true
problem_tag-low kind.General = refl
problem_tag-low kind.Invoke = refl
problem_tag-low kind.Result = refl
problem_tag-low kind.Error = refl

contents-fine : (c : ComponentParts) → ComponentFine c → FieldsFine (component.fields c (written_body (body_of c)))
contents-fine (invoke id linked code parameter) fine =
    ((refl, identifier-fine id fine.0), (linked-fine linked fine.1, (code-fine code fine.2, (parameter-fine parameter fine.3, tt))))
contents-fine (result_last id body) fine = ((refl, identifier-fine id fine.0), (body-fine body fine.1, tt))
contents-fine (error_back id code parameter) fine =
    ((refl, identifier-fine id fine.0), (code-fine code fine.1, (parameter-fine parameter fine.2, tt)))
contents-fine (reject_back id problem) fine =
    (rejected-fine id fine.0, ((problem_tag-low problem.kind, λ short. octets-cons problem.code [] (omega (arith, fine.1)) refl), tt))
contents-fine (result_more id body) fine = ((refl, identifier-fine id fine.0), (body-fine body fine.1, tt))

component_tag-low : (c : ComponentParts) → Octets (component_tag c ∷ [])
component_tag-low (invoke id linked code parameter) = refl
component_tag-low (result_last id body) = refl
component_tag-low (error_back id code parameter) = refl
component_tag-low (reject_back id problem) = refl
component_tag-low (result_more id body) = refl

pub component-fine : (c : ComponentParts) → ComponentFine c → Fine (written_component c)
component-fine c fine =
    written-fine (component_tag c ∷ []) (written_contents c) (component_tag-low c)
    (fields-fine (component.fields c (written_body (body_of c))) (contents-fine c fine))
