-- The indications that examples expect, as they are told.
use Rattle.std.specs.Prelude.{ℕ, ℤ, List, Option}
use Rattle.tcap_pdu.specs.DialogueSpelling.{PduValue}
use Rattle.tcap_component.specs.Component.{BodyParts, CodeParts}
use Rattle.tcap_component.specs.Problem.{ProblemParts}
use Rattle.tcap_model.specs.Words.Output.{Output, AbortCause, Closing, Rejector, ComponentIndication, DialogueIndication}

-- TC-UNI (Q.771, Dialogue handling).
abbrev pub uni : Option (List ℕ) → List ℕ → Output
uni context info = Output.dialogue (DialogueIndication.uni context info)

-- TC-BEGIN (Q.771, Dialogue handling).
abbrev pub begin : ℕ → Option (List ℕ) → List ℕ → Output
begin dialogue context info = Output.dialogue (DialogueIndication.begin dialogue context info)

-- TC-CONTINUE (Q.771, Dialogue handling).
abbrev pub go_on : ℕ → Option (List ℕ) → List ℕ → Output
go_on dialogue context info = Output.dialogue (DialogueIndication.go_on dialogue context info)

-- TC-END (Q.771, Dialogue handling).
abbrev pub end : ℕ → Option (List ℕ) → List ℕ → Output
end dialogue context info = Output.dialogue (DialogueIndication.end dialogue context info)

-- TC-U-ABORT (Q.771, Dialogue handling).
abbrev pub u_abort : ℕ → Option PduValue → Output
u_abort dialogue pdu = Output.dialogue (DialogueIndication.u_abort dialogue pdu)

-- TC-P-ABORT (Q.771, Dialogue handling).
abbrev pub p_abort : ℕ → AbortCause → Output
p_abort dialogue why = Output.dialogue (DialogueIndication.p_abort dialogue why)

-- TC-INVOKE (Q.771, Component handling).
abbrev pub invoked : Option ℕ → ℤ → Option ℤ → CodeParts → Option (List ℕ) → Output
invoked dialogue id linked code parameter =
    Output.component (ComponentIndication.invoked dialogue id linked code parameter)

-- TC-RESULT-NL (Q.771, Component handling).
abbrev pub result_more : ℕ → ℕ → ℤ → Option BodyParts → Output
result_more dialogue number id body = Output.component (ComponentIndication.result_more dialogue number id body)

-- TC-L-REJECT of a component that was received (Q.771, Component handling).
abbrev pub local_reject : Option ℕ → Option ℤ → ProblemParts → Output
local_reject dialogue id problem = Output.component (ComponentIndication.local_reject dialogue id problem)

-- TC-U-REJECT or TC-R-REJECT that closes no invocation (Q.771, Component handling).
abbrev pub remote_reject : Option ℕ → Option ℤ → ProblemParts → Rejector → Output
remote_reject dialogue id problem by = Output.component (ComponentIndication.remote_reject dialogue id problem by)

-- An invocation is closed (Q.771, Component handling).
abbrev pub closed : ℕ → ℕ → ℤ → Closing → Output
closed dialogue number id closing = Output.component (ComponentIndication.closed dialogue number id closing)
