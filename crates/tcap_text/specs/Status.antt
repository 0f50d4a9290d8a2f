-- The status of a run that came to a verdict.
use Rattle.std.specs.Prelude.{ℕ, Bool, true, false}

-- By whether it is good (own).
abbrev pub verdict_status : Bool → ℕ
verdict_status true = 0
verdict_status false = 1
