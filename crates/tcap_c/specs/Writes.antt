-- What a call writes to C's variables.
use Rattle.std.specs.Prelude.{◌≡◌, Result, Ok, Err}
use Rattle.tcap_primitives.specs.declared.fault.Fault.{Fault}

-- The number of an answer is written; a refusal writes nothing (own).
abbrev pub Written : {T : Type 0} → T → T → Result T Fault → Type 0
Written old new (Ok x) = new ≡ x
Written old new (Err fault) = new ≡ old

-- Nothing is written (own).
abbrev pub NothingWritten : {T : Type 0} → Result T Fault → Type 0
NothingWritten answer = Unit {0}
