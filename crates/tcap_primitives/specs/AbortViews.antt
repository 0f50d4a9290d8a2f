-- The Aborts that the provider sends as a contract sees them.
use Rattle.std.specs.Prelude.{ℕ, ◌≤◌, length}
use Rattle.ber_core.specs.ObjectIdentifier.{IsObjectIdentifier}
use Rattle.tcap_pdu.specs.FrameSpelling.{Message, Reason}
use Rattle.tcap_model.specs.Procedures.AbortRules.{abort_with, abnormal_abort, version_abort, fault_cause, unrecognized_id, resource_limitation}
use Rattle.tcap_primitives.specs.declared.provider_abort.Cause.{Cause}
use Rattle.tcap_primitives.specs.declared.provider_abort.Cause.TheVariants as cause
use Rattle.tcap_primitives.specs.declared.provider_abort.Abort.{Abort}
use Rattle.tcap_primitives.specs.declared.provider_abort.Abort.TheVariants as abort

-- The number of a P-Abort cause (Q.773, P-Abort cause).
abbrev pub cause_number : Cause → ℕ
cause_number (cause.Faulty fault) = fault_cause fault
cause_number cause.UnrecognizedId = unrecognized_id
cause_number cause.ResourceLimitation = resource_limitation

-- What is sent (Q.774, Abort by the provider).
abbrev pub abort_sent : Abort → Message
abort_sent (abort.Cause peer c) = abort_with (cause_number c) peer
abort_sent (abort.Abnormal peer) = abnormal_abort peer
abort_sent (abort.WrongVersion peer context) = version_abort context.now peer

-- The context of an AARQ, where one is named, is an object identifier (Q.773, Dialogue portion).
abbrev pub CanWriteAbort : Abort → Type 0
CanWriteAbort (abort.Cause peer c) = Unit {0}
CanWriteAbort (abort.Abnormal peer) = Unit {0}
CanWriteAbort (abort.WrongVersion peer context) = IsObjectIdentifier context.now

-- A reason so short that its Abort is within the limit of a message (own).
abbrev pub IsShortReason : Reason → Type 0
IsShortReason Reason.nothing = Unit {0}
IsShortReason (Reason.cause number) = Unit {0}
IsShortReason (Reason.portion content) = length content ≤ 1000
