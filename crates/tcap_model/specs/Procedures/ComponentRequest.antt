-- The components that requests ask for.
use Rattle.std.specs.Prelude.{ℕ, ℤ, Option, Some, None}
use Rattle.tcap_component.specs.Component.{ComponentParts}
use Rattle.tcap_model.specs.Words.Request.{Request, ComponentRequest}
use Rattle.tcap_model.specs.Procedures.QueueRules.{Invoking, Queued, queued}

-- The component that a request queues, if it is a component request (Q.774, Component handling).
abbrev pub component_of : Request → Option ComponentParts
component_of (Request.component (ComponentRequest.invoke id class code parameter linked timeout)) =
    Some (ComponentParts.invoke id linked code parameter)
component_of (Request.component (ComponentRequest.result_last id body)) = Some (ComponentParts.result_last id body)
component_of (Request.component (ComponentRequest.result_more id body)) = Some (ComponentParts.result_more id body)
component_of (Request.component (ComponentRequest.error_back id code parameter)) =
    Some (ComponentParts.error_back id code parameter)
component_of (Request.component (ComponentRequest.u_reject id problem)) = Some (ComponentParts.reject_back id problem)
component_of (Request.component (ComponentRequest.u_cancel id)) = None
component_of (Request.dialogue asked) = None

-- What an Invoke asks for: the invocation of this number, with the request's operation class (own).
abbrev pub invoking_of : ℕ → Request → Option Invoking
invoking_of number (Request.component (ComponentRequest.invoke id class code parameter linked timeout)) =
    Some (record { number = number; class = class })
invoking_of number (Request.component (ComponentRequest.result_last id body)) = None
invoking_of number (Request.component (ComponentRequest.result_more id body)) = None
invoking_of number (Request.component (ComponentRequest.error_back id code parameter)) = None
invoking_of number (Request.component (ComponentRequest.u_reject id problem)) = None
invoking_of number (Request.component (ComponentRequest.u_cancel id)) = None
invoking_of number (Request.dialogue asked) = None

-- A component as it is queued for a request (own).
abbrev pub queued_if_any : Option Invoking → Option ComponentParts → Option Queued
queued_if_any invoking None = None
queued_if_any invoking (Some component) = Some (queued invoking component)

-- What a request queues, with the number that its invocation gets (Q.774, Component handling).
abbrev pub queued_for : ℕ → Request → Option Queued
queued_for number request = queued_if_any (invoking_of number request) (component_of request)

-- The invoke identifier that a request asks for or about, if it has one (Q.773, Invoke ID).
abbrev pub identifier_of : Request → Option ℤ
identifier_of (Request.component (ComponentRequest.invoke id class code parameter linked timeout)) = Some id
identifier_of (Request.component (ComponentRequest.result_last id body)) = Some id
identifier_of (Request.component (ComponentRequest.result_more id body)) = Some id
identifier_of (Request.component (ComponentRequest.error_back id code parameter)) = Some id
identifier_of (Request.component (ComponentRequest.u_reject id problem)) = id
identifier_of (Request.component (ComponentRequest.u_cancel id)) = Some id
identifier_of (Request.dialogue asked) = None
