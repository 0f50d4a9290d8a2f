-- What is written spells the component.
use Rattle.std.proofs.Common.{◌≡◌, ◌≢◌, ℕ, ◌≤◌, ℤ, false, eqb, bit_and, List, [], ◌∷◌, ◌++◌, length, Option, Some, None, Ok, refl, sym, ap, ◌∙◌, arith, append-nil, length-append}
use Rattle.std.specs.Option.{option_map}
use Rattle.ber_core.specs.Sequence.Field.{must, may, any}
use Rattle.ber_core.specs.Written.{written, written_fields, CanWrite, CanWriteAll, written_parts}
use Rattle.ber_core.proofs.CallerLemmas.{part_is, fields_spelled, integer_spelled, length-written, element_length-least}
use Rattle.tcap_component.specs.declared.problem.Kind.{Kind}
use Rattle.tcap_component.specs.declared.problem.Kind.TheVariants as kind
use Rattle.tcap_component.specs.Problem.{problem_tag}
use Rattle.tcap_component.specs.Component.{CodeParts, BodyParts, ComponentParts, component_tag, identifier, code_field, rejected_field, body_fields, fields, body_of, HoldsBody, IsCode, IsBody, InRange, SpellsComponent}
use Rattle.tcap_component.specs.Component.CodeParts.{local, global}
use Rattle.tcap_component.specs.Component.ComponentParts.{invoke, result_last, error_back, reject_back, result_more}
use Rattle.tcap_component.specs.ComponentReading.{component_at}
use Rattle.tcap_component.specs.Written.{written_body, written_contents, written_component, CanHold, HasParameter, CanWriteComponent}
use Rattle.tcap_component.proofs.ComponentGrammar.{component_again}

-- a tag of one octet that has no further octets
abbrev IsTagOctet : ℕ → Type 0
IsTagOctet tag = (tag ≢ 0) × (eqb (bit_and tag 31) 31 ≡ false)

code-can : (c : CodeParts) → IsCode c → CanWrite (code_field c)
code-can (local n) h =
    let i = integer_spelled n h in
    ((λ e. absurd (omega (arith, e))), refl, omega (arith, i.is_short))
code-can (global o) h = ((λ e. absurd (omega (arith, e))), refl, omega (arith, h.is_short))

parameter-can : (o : Option (List ℕ)) → CanHold o → CanWrite (any o)
parameter-can None h = tt
parameter-can (Some w) h = (h.0, h.1, sym h.2)

identifier-can : (id : ℤ) → CanWrite (must 0x02 (identifier id))
identifier-can id = ((λ e. absurd (omega (arith, e))), refl, omega arith)

linked-can : (o : Option ℤ) → CanWrite (may 0x80 (option_map identifier o))
linked-can None = tt
linked-can (Some id) = ((λ e. absurd (omega (arith, e))), refl, omega arith)

rejected-can : (o : Option ℤ) → CanWrite (rejected_field o)
rejected-can None = ((λ e. absurd (omega (arith, e))), refl, omega arith)
rejected-can (Some id) = identifier-can id

problem-can : (k : Kind) (n : ℕ) → CanWrite (must (problem_tag k) (n ∷ []))
problem-can kind.General n = ((λ e. absurd (omega (arith, e))), refl, omega arith)
problem-can kind.Invoke n = ((λ e. absurd (omega (arith, e))), refl, omega arith)
problem-can kind.Result n = ((λ e. absurd (omega (arith, e))), refl, omega arith)
problem-can kind.Error n = ((λ e. absurd (omega (arith, e))), refl, omega arith)

-- the parts of a list are no longer than the list
first-short : (tag : ℕ) (c more : List ℕ) → length (written (tag ∷ []) c ++ more) ≤ 65535 → length c ≤ 65535
first-short tag c more h = omega (arith, h, length-append (written (tag ∷ []) c) more, length-written tag c, element_length-least (length c))

body-short : (id : ℤ) (inner : List ℕ) → length (written_fields (must 0x02 (identifier id) ∷ may 0x30 (Some inner) ∷ [])) ≤ 65535 → length inner ≤ 65535
body-short id inner h =
    first-short 0x30 inner [] (omega (arith, length-append (written (0x02 ∷ []) (identifier id)) (written (0x30 ∷ []) inner ++ [])))

result-can : (id : ℤ) (b : Option BodyParts) → length (written_fields (must 0x02 (identifier id) ∷ may 0x30 (written_body b) ∷ [])) ≤ 65535 → CanWriteAll (must 0x02 (identifier id) ∷ may 0x30 (written_body b) ∷ [])
result-can id None h = (identifier-can id, (tt, tt))
result-can id (Some b) h = (identifier-can id, (((λ e. absurd (omega (arith, e))), refl, body-short id (written_fields (body_fields b)) h), tt))

contents-short : (c : ComponentParts) → CanWriteComponent c → length (written_contents c) ≤ 65535
contents-short c h = omega (arith, h.is_short, length-written (component_tag c) (written_contents c), element_length-least (length (written_contents c)))

fields-can : (c : ComponentParts) → InRange c → CanWriteComponent c → CanWriteAll (fields c (written_body (body_of c)))
fields-can (invoke id linked code parameter) r h = (identifier-can id, (linked-can linked, (code-can code r.2, (parameter-can parameter h.has_parameter, tt))))
fields-can (result_last id body) r h = result-can id body (contents-short (result_last id body) h)
fields-can (error_back id code parameter) r h = (identifier-can id, (code-can code r.1, (parameter-can parameter h.has_parameter, tt)))
fields-can (reject_back id problem) r h = (rejected-can id, (problem-can problem.kind problem.code, tt))
fields-can (result_more id body) r h = result-can id body (contents-short (result_more id body) h)

body-spelled : (b : Option BodyParts) → IsBody b → HasParameter b → HoldsBody b (written_body b)
body-spelled None r h = tt
body-spelled (Some b) r h = fields_spelled (body_fields b) (code-can b.code r, (parameter-can b.parameter h, tt))

holds-body : (c : ComponentParts) → InRange c → CanWriteComponent c → HoldsBody (body_of c) (written_body (body_of c))
holds-body (invoke id linked code parameter) r h = tt
holds-body (result_last id body) r h = body-spelled body r.1 h.has_parameter
holds-body (error_back id code parameter) r h = tt
holds-body (reject_back id problem) r h = tt
holds-body (result_more id body) r h = body-spelled body r.1 h.has_parameter

component-short : (c : ComponentParts) → IsTagOctet (component_tag c)
component-short (invoke id linked code parameter) = ((λ e. absurd (omega (arith, e))), refl)
component-short (result_last id body) = ((λ e. absurd (omega (arith, e))), refl)
component-short (error_back id code parameter) = ((λ e. absurd (omega (arith, e))), refl)
component-short (reject_back id problem) = ((λ e. absurd (omega (arith, e))), refl)
component-short (result_more id body) = ((λ e. absurd (omega (arith, e))), refl)

pub component_spelled : (c : ComponentParts) → InRange c → CanWriteComponent c → SpellsComponent c (written_component c)
component_spelled c r h =
    let t = component-short c in record {
      element = written_parts (component_tag c ∷ []) (written_contents c);
      is_element = part_is (component_tag c) (written_contents c) (t.0, t.1, contents-short c h);
      is_whole = refl;
      is_component = record { inner = written_body (body_of c); is_tag = refl; in_sequence = fields_spelled (fields c (written_body (body_of c))) (fields-can c r h); holds_body = holds-body c r h; in_range = r };
    }

pub component_written : (c : ComponentParts) → InRange c → CanWriteComponent c → component_at (written_component c) ≡ Ok (c, [])
component_written c r h = ap component_at (sym (append-nil (written_component c))) ∙ component_again c (written_component c) [] (component_spelled c r h)
