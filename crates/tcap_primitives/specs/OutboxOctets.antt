-- The octets that an indication names, one after the other, as an outbox keeps them.
use Rattle.std.specs.Prelude.{ℕ, List, [], ◌++◌, Option, Some, None}
use Rattle.ber_core.specs.Place.{Slice}
use Rattle.tcap_component.specs.declared.component.Body.{Body}
use Rattle.tcap_component.specs.declared.component.Code.{Code}
use Rattle.tcap_component.specs.declared.component.Code.TheVariants as code
use Rattle.tcap_pdu.specs.declared.dialogue_pdu.DialoguePdu.{DialoguePdu}
use Rattle.tcap_pdu.specs.declared.dialogue_pdu.DialoguePdu.TheVariants as pdu
use Rattle.tcap_primitives.specs.declared.indication.Indication.{Indication}
use Rattle.tcap_primitives.specs.declared.indication.Indication.TheVariants as told

-- The octets of an optional slice (own).
abbrev pub optional_named : Option Slice → List ℕ
optional_named None = []
optional_named (Some octets) = octets.now

-- Those that a code names (own).
abbrev pub code_named : Code → List ℕ
code_named (code.Local number) = []
code_named (code.Global octets) = octets.now

-- Those that a code and a parameter name (own).
abbrev pub operation_named : Code → Option Slice → List ℕ
operation_named code parameter = code_named code ++ optional_named parameter

-- Those that the body of a result names (own).
abbrev pub body_named : Option Body → List ℕ
body_named None = []
body_named (Some body) = operation_named body.code body.parameter

-- Those that a dialogue portion names (own).
abbrev pub portion_named : Option Slice → Slice → List ℕ
portion_named context info = optional_named context ++ info.now

-- Those that a dialogue PDU names (own).
abbrev pub pdu_named : DialoguePdu → List ℕ
pdu_named (pdu.Aarq version1 context info) = context.now ++ info.now
pdu_named (pdu.Audt version1 context info) = context.now ++ info.now
pdu_named (pdu.Aare version1 context accepted diagnostic info) = context.now ++ info.now
pdu_named (pdu.Abrt by_provider info) = info.now
pdu_named (pdu.Foreign external) = external.now

-- Those that the dialogue PDU of an Abort names, if there is one (own).
abbrev pub abort_named : Option DialoguePdu → List ℕ
abort_named None = []
abort_named (Some pdu) = pdu_named pdu

-- Those that an indication names (own).
abbrev pub indicated_named : Indication → List ℕ
indicated_named (told.Uni context info) = portion_named context info
indicated_named (told.Begin d context info) = portion_named context info
indicated_named (told.Continue d context info) = portion_named context info
indicated_named (told.End d context info) = portion_named context info
indicated_named (told.UAbort d pdu) = abort_named pdu
indicated_named (told.PAbort d why) = []
indicated_named (told.Invoked d id linked code parameter) = operation_named code parameter
indicated_named (told.ResultMore d number id body) = body_named body
indicated_named (told.LocalReject d id problem) = []
indicated_named (told.RemoteReject d id problem by) = []
indicated_named (told.ResultLast d number id body) = body_named body
indicated_named (told.ErrorBack d number id code parameter) = operation_named code parameter
indicated_named (told.Rejected d number id problem by) = []
indicated_named (told.Lapsed d number id) = []
indicated_named (told.Ended d number id) = []
indicated_named (told.Dropped why) = []
