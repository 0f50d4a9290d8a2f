-- A fault as a contract sees it.
use Rattle.tcap_model.specs.Words.Fault as model_fault
use Rattle.tcap_primitives.specs.declared.fault.Fault.{Fault}
use Rattle.tcap_primitives.specs.declared.fault.Fault.TheVariants as fault

-- A fault (own).
abbrev pub fault_view : Fault → model_fault.Fault
fault_view fault.OutOfMemory = model_fault.Fault.out_of_memory
fault_view fault.UnknownDialogue = model_fault.Fault.unknown_dialogue
fault_view fault.WrongState = model_fault.Fault.wrong_state
fault_view fault.InvokeIdInUse = model_fault.Fault.invoke_id_in_use
fault_view fault.NoSuchInvocation = model_fault.Fault.no_such_invocation
fault_view fault.BadTimeout = model_fault.Fault.bad_timeout
fault_view fault.TooLong = model_fault.Fault.too_long
fault_view fault.DialoguesFull = model_fault.Fault.dialogues_full
fault_view fault.DialogueIdsSpent = model_fault.Fault.dialogue_ids_spent
fault_view fault.NumbersSpent = model_fault.Fault.numbers_spent
fault_view fault.BadOid = model_fault.Fault.bad_oid
fault_view fault.BadParameter = model_fault.Fault.bad_parameter
fault_view fault.NotClassFour = model_fault.Fault.not_class_four
fault_view fault.MomentTooLate = model_fault.Fault.moment_too_late
fault_view fault.NoContext = model_fault.Fault.no_context
