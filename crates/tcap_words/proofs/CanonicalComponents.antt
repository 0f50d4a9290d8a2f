-- Components in the canonical form: each that was read can be written, and reading gives them again.
use Rattle.std.proofs.Common.{◌≡◌, ℕ, ◌+◌, ◌≤◌, List, [], ◌∷◌, ◌++◌, length, Option, Some, None, Result, Ok, refl, sym, ap, subst, ◌∙◌, arith, is_err, length-append}
use Rattle.std.specs.List.{flat_map, position_from, AllByRecursion}
use Rattle.tcap_component.specs.ComponentFault.{FaultParts}
use Rattle.tcap_component.specs.Component.{ComponentParts}
use Rattle.tcap_component.specs.ComponentList.{SpellsComponents, FirstFault, items}
use Rattle.tcap_component.specs.ComponentReading.{components_of}
use Rattle.tcap_component.specs.Written.{written_component, CanWriteComponent}
use Rattle.tcap_component.proofs.CallerLemmas.{component_again, components_of-empty, components_of-next, first_fault_is, spelled_code, spelled_parameter, component_spelled}
use Rattle.tcap_words.specs.Canonical.{canonical_item, canonical_components, IsWritableItem}

abbrev Items : Type 0
Items = List (Result ComponentParts FaultParts)

-- ---- each can be written

items-can : (cs : List ComponentParts) (f : Option FaultParts) (front : List ℕ) → SpellsComponents cs front → AllByRecursion IsWritableItem (items cs f)
items-can [] None front s = tt
items-can [] (Some f) front s = (tt, tt)
items-can (c ∷ cs) f front s = ((spelled_code c s.0 s.2, spelled_parameter c s.0 s.2), items-can cs f s.1 s.4)

pub components-can : (content : List ℕ) → AllByRecursion IsWritableItem (components_of content)
components-can content =
    let o = first_fault_is content in
    let P : Items → Type 0 = λ xs. AllByRecursion IsWritableItem xs in
    subst P (sym o.3) (items-can o.0 o.1 o.2.front o.2.spelled)

-- ---- they are read again

-- no fault among them: they end with the last component
ended : (cs : List ComponentParts) (f : Option FaultParts) (place : ℕ) → position_from is_err place (items cs f) ≡ None → f ≡ None
ended [] None place e = refl
ended [] (Some f) place e = absurd cc
ended (c ∷ cs) f place e = ended cs f (place + 1) e

first-short : (first more : List ℕ) → length (first ++ more) ≤ 65535 → length first ≤ 65535
first-short first more h = omega (arith, h, length-append first more)

more-short : (first more : List ℕ) → length (first ++ more) ≤ 65535 → length more ≤ 65535
more-short first more h = omega (arith, h, length-append first more)

items-again : (cs : List ComponentParts) (front : List ℕ) → SpellsComponents cs front → length (flat_map canonical_item (items cs None)) ≤ 65535 → components_of (flat_map canonical_item (items cs None)) ≡ items cs None
items-again [] front s h = components_of-empty
items-again (c ∷ cs) front s h =
    let rest = flat_map canonical_item (items cs None) in
    let can : CanWriteComponent c = record { has_code = spelled_code c s.0 s.2; has_parameter = spelled_parameter c s.0 s.2; is_short = first-short (written_component c) rest h } in
    components_of-next (written_component c ++ rest) rest c (component_again c (written_component c) rest (component_spelled c s.2.is_component.in_range can))
    ∙ ap (λ (w : Items). Ok c ∷ w) (items-again cs s.1 s.4 (more-short (written_component c) rest h))

again-from : (content : List ℕ) (cs : List ComponentParts) (f : Option FaultParts) → FirstFault cs f content → components_of content ≡ items cs f → f ≡ None → length (canonical_components content) ≤ 65535 → components_of (canonical_components content) ≡ components_of content
again-from content cs (Some f) first is e h = absurd cc
again-from content cs None first is e h =
    let form : canonical_components content ≡ flat_map canonical_item (items cs None) = ap (λ (w : Items). flat_map canonical_item w) is in
    let short : length (flat_map canonical_item (items cs None)) ≤ 65535 = subst (λ (w : List ℕ). length w ≤ 65535) form h in
    ap components_of form ∙ (items-again cs first.front first.spelled short ∙ sym is)

pub components-again : (content : List ℕ) → position_from is_err 0 (components_of content) ≡ None → length (canonical_components content) ≤ 65535 → components_of (canonical_components content) ≡ components_of content
components-again content e h =
    let o = first_fault_is content in
    again-from content o.0 o.1 o.2 o.3 (ended o.0 o.1 0 (ap (λ (w : Items). position_from is_err 0 w) (sym o.3) ∙ e)) h

-- ---- before the first component is written

pub started : (octets content : List ℕ) (left : Items) → octets ≡ [] → left ≡ components_of content → (octets ++ flat_map canonical_item left ≡ canonical_components content) × AllByRecursion IsWritableItem left
started octets content left e is =
    let P : Items → Type 0 = λ xs. AllByRecursion IsWritableItem xs in
    let item : Items → List ℕ = λ xs. flat_map canonical_item xs in
    (ap (λ (w : List ℕ). w ++ flat_map canonical_item left) e ∙ ap item is, subst P (sym is) (components-can content))
