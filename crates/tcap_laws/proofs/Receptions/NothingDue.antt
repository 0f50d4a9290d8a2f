-- What it says that no fault is due.
use Rattle.std.proofs.Common.{◌≡◌, false, Bool, List, [], ◌∷◌, Some, None, inl, inr}
use Rattle.std.proofs.lemmas.Bool.{cases_Bool}
use Rattle.std.specs.List.{AllByRecursion}
use Rattle.tcap_model.specs.Words.Fault.{Fault}
use Rattle.tcap_model.specs.Procedures.Refusals.{first_that}

pub first_that-none : (holds : Fault → Bool) (faults : List Fault) → first_that holds faults ≡ None
    → AllByRecursion (λ f. holds f ≡ false) faults
first_that-none holds [] e = tt
first_that-none holds (f ∷ faults) e = elim (cases_Bool (holds f)) [
  | inl t ↦ let e = e in let s : Some f ≡ None = rw t at e in absurd cc
  | inr n ↦ let e = e in (n, first_that-none holds faults (rw n at e))
]
