-- Components as a contract sees them.
use Rattle.std.specs.Prelude.{◌≡◌, List, Result, Ok, Err, option_copied}
use Rattle.std.specs.Option.{option_map}
use Rattle.tcap_component.specs.declared.component.Code.{Code}
use Rattle.tcap_component.specs.declared.component.Code.TheVariants as code
use Rattle.tcap_component.specs.declared.component.Body.{Body}
use Rattle.tcap_component.specs.declared.component.Component.{Component}
use Rattle.tcap_component.specs.declared.component.Component.TheVariants as component
use Rattle.tcap_component.specs.declared.components.Components.{Components}
use Rattle.tcap_component.specs.declared.fault.ComponentFault.{ComponentFault}
use Rattle.tcap_component.specs.declared.problem.Problem.{Problem}
use Rattle.tcap_component.specs.Problem.{ProblemParts}
use Rattle.tcap_component.specs.ComponentFault.{FaultParts}
use Rattle.tcap_component.specs.Component.{CodeParts, BodyParts, ComponentParts}
use Rattle.tcap_component.specs.Component.CodeParts.{local, global}
use Rattle.tcap_component.specs.Component.ComponentParts.{invoke, result_last, error_back, reject_back, result_more}
use Rattle.tcap_component.specs.ComponentReading.{components_of}

-- a code, by what its slice holds (own)
abbrev pub code_parts : Code → CodeParts
code_parts (code.Local number) = local number
code_parts (code.Global octets) = global octets.now

-- a result's body, by what its slices hold (own)
abbrev pub body_parts : Body → BodyParts
body_parts b = record { code = code_parts b.code; parameter = option_copied b.parameter }

-- a problem's kind and code (own)
abbrev pub problem_parts : Problem → ProblemParts
problem_parts p = record { kind = p.kind; code = p.code }

-- a fault, with its problem's kind and code (own)
abbrev pub fault_parts : ComponentFault → FaultParts
fault_parts f = record { problem = problem_parts f.problem; id = f.id; was_reject = f.was_reject }

-- a component, by what its slices hold (own)
abbrev pub component_parts : Component → ComponentParts
component_parts (component.Invoke id linked c parameter) = invoke id linked (code_parts c) (option_copied parameter)
component_parts (component.ResultLast id body) = result_last id (option_map body_parts body)
component_parts (component.ResultMore id body) = result_more id (option_map body_parts body)
component_parts (component.ErrorBack id c parameter) = error_back id (code_parts c) (option_copied parameter)
component_parts (component.RejectBack id problem) = reject_back id (problem_parts problem)

-- What a function returned, as the views show it, is the value of a definition that computes (own).
abbrev pub Reads : {X Y : Type 0} → (X → Y) → Result X ComponentFault → Result Y FaultParts → Type 0
Reads view (Ok x) read = read ≡ Ok (view x)
Reads view (Err f) read = read ≡ Err (fault_parts f)

-- an item: a component's parts, or a fault (own)
abbrev pub item_view : Result Component ComponentFault → Result ComponentParts FaultParts
item_view (Ok c) = Ok (component_parts c)
item_view (Err f) = Err (fault_parts f)

-- the items that are still to come (own)
abbrev pub components_left : Components → List (Result ComponentParts FaultParts)
components_left s = components_of s.rest.now
