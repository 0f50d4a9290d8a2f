-- The one spelling of a component in the canonical form, and why there is none.
use Rattle.std.specs.Prelude.{◌≡◌, ℕ, ◌<◌, ◌≤◌, List, [], ◌∷◌, length, Bool, true, Option, Some, None, is_some, nat_lt, if◌then◌else◌}
use Rattle.ber_core.specs.Element.{Parts, IsElement, depth_limit}
use Rattle.ber_core.specs.Length.{length_limit}
use Rattle.ber_core.specs.ObjectIdentifier.{IsObjectIdentifier, is_object_identifier}
use Rattle.ber_core.specs.SequenceReading.{alone_at}
use Rattle.ber_core.specs.Written.{written, written_fields}
use Rattle.tcap_component.specs.declared.fault.WriteFault.{WriteFault}
use Rattle.tcap_component.specs.declared.fault.WriteFault.TheVariants.{OutOfMemory, BadParameter, BadOid, TooLong}
use Rattle.tcap_component.specs.Component.{CodeParts, BodyParts, ComponentParts, component_tag, fields, body_fields, body_of}
use Rattle.tcap_component.specs.Component.CodeParts.{local, global}
use Rattle.tcap_component.specs.Component.ComponentParts.{invoke, result_last, error_back, reject_back, result_more}

-- The contents of the 30 of a result (Q.773, Return Result component; the canonical form is own).
abbrev pub written_body : Option BodyParts → Option (List ℕ)
written_body None = None
written_body (Some body) = Some (written_fields (body_fields body))

-- The contents of a component (Q.773, Component portion; the canonical form is own).
abbrev pub written_contents : ComponentParts → List ℕ
written_contents c = written_fields (fields c (written_body (body_of c)))

-- A component in the shortest definite lengths; parameters are copied
-- (Q.773, Component portion; the canonical form is own).
abbrev pub written_component : ComponentParts → List ℕ
written_component c = written (component_tag c ∷ []) (written_contents c)

-- ---- what can't be written

-- The code and the parameter of a component, none in a Reject and in a result without a body
-- (Q.773, Component portion).
abbrev pub coded_part : ComponentParts → Option BodyParts
coded_part (invoke id linked code parameter) = Some (record { code = code; parameter = parameter })
coded_part (result_last id body) = body
coded_part (error_back id code parameter) = Some (record { code = code; parameter = parameter })
coded_part (reject_back id problem) = None
coded_part (result_more id body) = body

-- A global code is an object identifier (Q.773, Operation Code; Q.773, Error Code).
abbrev pub CanCode : CodeParts → Type 0
CanCode (local number) = Unit {0}
CanCode (global octets) = IsObjectIdentifier octets

-- A parameter is one element and nothing after it (Q.773, Parameter).
abbrev pub CanHold : Option (List ℕ) → Type 0
CanHold None = Unit {0}
CanHold (Some octets) = (e : Parts) × IsElement depth_limit e × (octets ≡ e.whole)

-- The code, if there is one, can be written (own).
abbrev pub HasCode : Option BodyParts → Type 0
HasCode None = Unit {0}
HasCode (Some body) = CanCode body.code

-- The parameter, if there is one, can be written (own).
abbrev pub HasParameter : Option BodyParts → Type 0
HasParameter None = Unit {0}
HasParameter (Some body) = CanHold body.parameter

-- The code and the parameter of a component can be written, whatever its length (own).
abbrev pub HasParts : ComponentParts → Type 0
HasParts c = HasCode (coded_part c) × HasParameter (coded_part c)

-- The component can be written: its code and its parameter are such, and it has at most 65,535
-- bytes (own).
pub record CanWriteComponent (c : ComponentParts) : Type 0 where
  pub has_code : HasCode (coded_part c)
  pub has_parameter : HasParameter (coded_part c)
  pub is_short : length (written_component c) ≤ length_limit

-- Why a component can't be written; an earlier one goes first (own).
pub data IsWriteFault : ComponentParts → WriteFault → Type 0 where
  bad_oid : (c : ComponentParts) → (HasCode (coded_part c) → ⊥) → IsWriteFault c BadOid
  bad_parameter : (c : ComponentParts) → HasCode (coded_part c) → (HasParameter (coded_part c) → ⊥) → IsWriteFault c BadParameter
  too_long : (c : ComponentParts) → HasCode (coded_part c) → HasParameter (coded_part c) → length_limit < length (written_component c) → IsWriteFault c TooLong

-- The number of a fault (own).
abbrev pub fault_number : WriteFault → ℕ
fault_number OutOfMemory = 1
fault_number BadParameter = 2
fault_number BadOid = 3
fault_number TooLong = 4

-- ---- the same, computed

-- Whether a global code is an object identifier (own).
abbrev pub can_code : CodeParts → Bool
can_code (local number) = true
can_code (global octets) = is_object_identifier octets

-- Whether a parameter is one element and nothing after it (own).
abbrev pub can_hold : Option (List ℕ) → Bool
can_hold None = true
can_hold (Some octets) = is_some (alone_at octets)

-- Whether the code, if there is one, can be written (own).
abbrev pub has_code : Option BodyParts → Bool
has_code None = true
has_code (Some body) = can_code body.code

-- Whether the parameter, if there is one, can be written (own).
abbrev pub has_parameter : Option BodyParts → Bool
has_parameter None = true
has_parameter (Some body) = can_hold body.parameter

-- Why a component can't be written, if so (own).
unfoldable pub write_fault : ComponentParts → Option WriteFault
write_fault c =
    if has_code (coded_part c)
    then (if has_parameter (coded_part c) then (if nat_lt length_limit (length (written_component c)) then Some TooLong else None) else Some BadParameter)
    else Some BadOid

-- The length of the written component, if it can be written (own).
abbrev pub length_if_any : List ℕ → Option WriteFault → Option ℕ
length_if_any octets None = Some (length octets)
length_if_any octets (Some f) = None
