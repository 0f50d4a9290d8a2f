-- The slices of a component have no more octets than were read for it.
use Rattle.std.proofs.Common.{◌≡◌, ℕ, ◌+◌, ◌≤◌, List, length, Option, Some, None, Ok, refl}
use Rattle.std.specs.Prelude.{option_copied}
use Rattle.std.specs.Option.{option_map}
use Rattle.ber_core.specs.Place.{Slice}
use Rattle.tcap_component.specs.declared.component.Body.{Body}
use Rattle.tcap_component.specs.declared.component.Code.{Code}
use Rattle.tcap_component.specs.declared.component.Code.TheVariants as code
use Rattle.tcap_component.specs.declared.component.Component.{Component}
use Rattle.tcap_component.specs.declared.component.Component.TheVariants as component
use Rattle.tcap_component.specs.ComponentReading.{component_at}
use Rattle.tcap_component.specs.Views.{code_parts, body_parts, component_parts}
use Rattle.tcap_primitives.specs.IndicationViews.{optional_octets, code_octets, body_octets, component_octets}
use Rattle.tcap_dialogue.proofs.OctetLemmas.{code-named, option-named, body-named, part-named, component-named}

code-octets : (c : Code) → code_octets c ≡ code-named (code_parts c)
code-octets (code.Local number) = refl
code-octets (code.Global octets) = refl

optional-octets : (o : Option Slice) → optional_octets o ≡ option-named (option_copied o)
optional-octets None = refl
optional-octets (Some octets) = refl

both-octets : (c : Code) (o : Option Slice) → code_octets c + optional_octets o ≡ code-named (code_parts c) + option-named (option_copied o)
both-octets c o = rw (code-octets c, optional-octets o) refl

body-octets : (b : Option Body) → body_octets b ≡ body-named (option_map body_parts b)
body-octets None = refl
body-octets (Some b) = both-octets b.code b.parameter

component-octets : (c : Component) → component_octets c ≡ part-named (component_parts c)
component-octets (component.Invoke id linked c parameter) = both-octets c parameter
component-octets (component.ResultLast id body) = body-octets body
component-octets (component.ResultMore id body) = body-octets body
component-octets (component.ErrorBack id c parameter) = both-octets c parameter
component-octets (component.RejectBack id problem) = refl

pub octets-within : (bytes rest : List ℕ) (c : Component) → component_at bytes ≡ Ok (component_parts c, rest) → component_octets c + length rest ≤ length bytes
octets-within bytes rest c e = rw (component-octets c) (component-named bytes rest (component_parts c) e)
