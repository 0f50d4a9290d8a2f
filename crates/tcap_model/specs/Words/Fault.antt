-- Why a request is refused.
use Rattle.std.specs.Prelude.{ℕ}

-- The faults of a request (own).
pub data Fault : Type 0 where
  -- memory runs out
  out_of_memory : Fault
  -- no dialogue of this identifier stands
  unknown_dialogue : Fault
  -- the state of the dialogue doesn't have the request
  wrong_state : Fault
  -- the invoke identifier is in use
  invoke_id_in_use : Fault
  -- no invocation of the identifier is Queued or Sent
  no_such_invocation : Fault
  -- the timeout is 0 or above the limit
  bad_timeout : Fault
  -- the queue or the message would pass its limit
  too_long : Fault
  -- as many dialogues stand as may
  dialogues_full : Fault
  -- no dialogue identifier is left
  dialogue_ids_spent : Fault
  -- no invocation number is left
  numbers_spent : Fault
  -- a name is no object identifier
  bad_oid : Fault
  -- a parameter isn't one element, or user information isn't a list of EXTERNALs
  bad_parameter : Fault
  -- a Unidirectional carries Invokes of class 4 and at least one component
  not_class_four : Fault
  -- the moment is above the limit
  moment_too_late : Fault
  -- no message goes out that could carry the context or the user information
  no_context : Fault

-- The number of a fault, which is part of the product (own).
abbrev pub fault_number : Fault → ℕ
fault_number out_of_memory = 1
fault_number unknown_dialogue = 2
fault_number wrong_state = 3
fault_number invoke_id_in_use = 4
fault_number no_such_invocation = 5
fault_number bad_timeout = 6
fault_number too_long = 7
fault_number dialogues_full = 8
fault_number dialogue_ids_spent = 9
fault_number numbers_spent = 10
fault_number bad_oid = 11
fault_number bad_parameter = 12
fault_number not_class_four = 13
fault_number moment_too_late = 14
fault_number no_context = 15
