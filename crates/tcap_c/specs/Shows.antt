-- How C sees an output that waits: numbers in a struct, and octets in a room.
use Rattle.std.specs.Prelude.{◌≡◌, ℕ, ℤ, ◌<◌, List, take, Option, Some, None, IsTrue}
use Rattle.tcap_component.specs.Problem.{ProblemParts}
use Rattle.tcap_pdu.specs.DialogueSpelling.{PduValue, Source}
use Rattle.tcap_model.specs.Words.InRange.{is_identifier, is_identifier_if_any}
use Rattle.tcap_model.specs.Words.Output.{Output, AbortCause, Closing, ComponentIndication, DialogueIndication}
use Rattle.tcap_station.specs.WaitingOutput.{WaitingOutput}
use Rattle.tcap_c.specs.Numbers.{numbers_of, with_lengths}
use Rattle.tcap_c.specs.Parts.{parts_of, joined, lengths_of, count_of}
use Rattle.tcap_c.specs.declared.output_numbers.OutputNumbers.{OutputNumbers}

-- ---- the numbers of an output are those that its types hold

-- An invoke identifier is -128 to 127 (Q.773, Invoke ID).
abbrev pub IsId : ℤ → Type 0
IsId id = IsTrue (is_identifier id)

-- The same, where there is one (Q.773, Invoke ID).
abbrev pub IsIdIfAny : Option ℤ → Type 0
IsIdIfAny id = IsTrue (is_identifier_if_any id)

-- The code of a problem is one octet (Q.773, Problem).
abbrev pub IsCoded : ProblemParts → Type 0
IsCoded p = p.code < 256

-- A cause is one octet (Q.773, P-Abort cause).
abbrev pub IsCause : AbortCause → Type 0
IsCause (AbortCause.cause number) = number < 256
IsCause AbortCause.abnormal = Unit {0}
IsCause AbortCause.no_common = Unit {0}
IsCause AbortCause.idle = Unit {0}

-- A diagnostic is one octet (Q.773, Dialogue portion; that it is no greater is own).
abbrev pub IsDiagnostic : Source → Type 0
IsDiagnostic (Source.user number) = number < 256
IsDiagnostic (Source.provider number) = number < 256

-- That of a dialogue PDU, if there is one (Q.773, Dialogue portion).
abbrev pub IsPdu : Option PduValue → Type 0
IsPdu None = Unit {0}
IsPdu (Some (PduValue.aarq version1 context info)) = Unit {0}
IsPdu (Some (PduValue.audt version1 context info)) = Unit {0}
IsPdu (Some (PduValue.aare version1 context accepted diagnostic info)) = IsDiagnostic diagnostic
IsPdu (Some (PduValue.abrt by_provider info)) = Unit {0}
IsPdu (Some (PduValue.foreign external)) = Unit {0}

-- The numbers of an indication of dialogue handling (Q.771, Dialogue handling).
abbrev pub IsDialogueTold : DialogueIndication → Type 0
IsDialogueTold (DialogueIndication.uni context info) = Unit {0}
IsDialogueTold (DialogueIndication.begin d context info) = Unit {0}
IsDialogueTold (DialogueIndication.go_on d context info) = Unit {0}
IsDialogueTold (DialogueIndication.end d context info) = Unit {0}
IsDialogueTold (DialogueIndication.u_abort d pdu) = IsPdu pdu
IsDialogueTold (DialogueIndication.p_abort d why) = IsCause why

-- Those of the closing of an invocation (Q.771, Component handling).
abbrev pub IsClosingTold : Closing → Type 0
IsClosingTold (Closing.result_last body) = Unit {0}
IsClosingTold (Closing.error_back code parameter) = Unit {0}
IsClosingTold (Closing.rejected problem by) = IsCoded problem
IsClosingTold Closing.lapsed = Unit {0}
IsClosingTold Closing.ended = Unit {0}
IsClosingTold Closing.given_up = Unit {0}

-- Those of an indication of component handling (Q.771, Component handling).
abbrev pub IsComponentTold : ComponentIndication → Type 0
IsComponentTold (ComponentIndication.invoked d id linked code parameter) = IsIdIfAny linked
IsComponentTold (ComponentIndication.result_more d number id body) = Unit {0}
IsComponentTold (ComponentIndication.local_reject d id problem) = IsIdIfAny id × IsCoded problem
IsComponentTold (ComponentIndication.remote_reject d id problem by) = IsIdIfAny id × IsCoded problem
IsComponentTold (ComponentIndication.closed d number id closing) = IsClosingTold closing

-- Those of an output (own).
abbrev pub IsTold : Output → Type 0
IsTold (Output.send to bytes) = Unit {0}
IsTold (Output.dialogue told) = IsDialogueTold told
IsTold (Output.component told) = IsComponentTold told
IsTold (Output.dropped why) = Unit {0}

-- ---- the struct and the room

-- An output that waits, as the struct of C has it: its numbers, its event, and where each part stands in the room (own).
abbrev pub told_of : WaitingOutput → OutputNumbers
told_of w = with_lengths (lengths_of (parts_of w.output)) (record (numbers_of w.output) { event = w.event; is_last = w.is_last })

-- A struct and a room show an output that waits: the numbers are its own, and its octets stand at the front of the
-- room, one part after the other (own).
pub record Shows (w : WaitingOutput) (n : OutputNumbers) (room : List ℕ) : Type 0 where
  pub numbers : n ≡ told_of w
  pub octets : take (count_of (lengths_of (parts_of w.output))) room ≡ joined (parts_of w.output)
  pub in_range : IsTold w.output
