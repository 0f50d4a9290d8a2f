-- The requests that examples make.
use Rattle.std.specs.Prelude.{ℕ, ℤ, List, Option}
use Rattle.tcap_component.specs.Component.{BodyParts, CodeParts}
use Rattle.tcap_component.specs.Problem.{ProblemParts}
use Rattle.tcap_invocation.specs.declared.class.Class.{Class}
use Rattle.tcap_examples.specs.Values.Peer.{peer_address}
use Rattle.tcap_model.specs.Words.Address.{Address}
use Rattle.tcap_model.specs.Words.Request.{Request, Ending, AbortReason, ComponentRequest, DialogueRequest}

-- TC-INVOKE (Q.771, Component handling).
abbrev pub invoke : ℤ → Class → CodeParts → Option (List ℕ) → Option ℤ → ℕ → Request
invoke id class code parameter linked timeout =
    Request.component (ComponentRequest.invoke id class code parameter linked timeout)

-- TC-RESULT-L (Q.771, Component handling).
abbrev pub result_last : ℤ → Option BodyParts → Request
result_last id body = Request.component (ComponentRequest.result_last id body)

-- TC-RESULT-NL (Q.771, Component handling).
abbrev pub result_more : ℤ → Option BodyParts → Request
result_more id body = Request.component (ComponentRequest.result_more id body)

-- TC-U-ERROR (Q.771, Component handling).
abbrev pub error_back : ℤ → CodeParts → Option (List ℕ) → Request
error_back id code parameter = Request.component (ComponentRequest.error_back id code parameter)

-- TC-U-REJECT (Q.771, Component handling).
abbrev pub u_reject : Option ℤ → ProblemParts → Request
u_reject id problem = Request.component (ComponentRequest.u_reject id problem)

-- TC-U-CANCEL (Q.771, Component handling).
abbrev pub u_cancel : ℤ → Request
u_cancel id = Request.component (ComponentRequest.u_cancel id)

-- TC-UNI to the peer (Q.771, Dialogue handling).
abbrev pub uni : Option (List ℕ) → List ℕ → Request
uni context info = Request.dialogue (DialogueRequest.uni peer_address context info)

-- TC-BEGIN to an address (Q.771, Dialogue handling; the address is own).
abbrev pub begin_to : Address → Option (List ℕ) → List ℕ → Request
begin_to to context info = Request.dialogue (DialogueRequest.begin to context info)

-- TC-BEGIN to the peer (Q.771, Dialogue handling).
abbrev pub begin : Option (List ℕ) → List ℕ → Request
begin context info = begin_to peer_address context info

-- TC-CONTINUE (Q.771, Dialogue handling).
abbrev pub go_on : Option (List ℕ) → List ℕ → Request
go_on context info = Request.dialogue (DialogueRequest.go_on context info)

-- TC-END (Q.771, Dialogue handling).
abbrev pub finish : Ending → Option (List ℕ) → List ℕ → Request
finish ending context info = Request.dialogue (DialogueRequest.finish ending context info)

-- TC-U-ABORT (Q.771, Dialogue handling).
abbrev pub u_abort : AbortReason → List ℕ → Request
u_abort why info = Request.dialogue (DialogueRequest.u_abort why info)
