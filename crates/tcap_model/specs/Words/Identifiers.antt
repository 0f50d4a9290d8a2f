-- The identifiers of dialogues and the numbers of invocations.
use Rattle.std.specs.Prelude.{ℕ, ◌-◌, ◌^◌, ◌==◌, Bool, nat_le, Option, Some, None, if◌then◌else◌}
use Rattle.tcap_model.specs.Words.Fault.{Fault}

-- The greatest dialogue identifier, which is never drawn (own).
abbrev pub last_dialogue : ℕ
last_dialogue = 2 ^ 32 - 1

-- The greatest number of an invocation, which is never drawn (own).
abbrev pub last_number : ℕ
last_number = 2 ^ 64 - 1

-- No dialogue identifier is left: the next one would be the greatest (own).
abbrev pub are_dialogues_spent : ℕ → Bool
are_dialogues_spent next = next == last_dialogue

-- No invocation number is left: the next one would be the greatest (own).
abbrev pub are_numbers_spent : ℕ → Bool
are_numbers_spent next = next == last_number

-- Why no dialogue can be created, the first that holds: as many stand as may, or no identifier is left
-- (own).
abbrev pub birth_fault : ℕ → ℕ → ℕ → Option Fault
birth_fault most standing next =
    if nat_le most standing then Some Fault.dialogues_full
    else if are_dialogues_spent next then Some Fault.dialogue_ids_spent
    else None
