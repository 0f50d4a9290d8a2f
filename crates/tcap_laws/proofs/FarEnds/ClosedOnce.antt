-- An invocation is closed at most once, on each side.
use Rattle.std.proofs.Common.{ℕ, ◌≤◌, length, Option, Some, None, sym, ap, subst, arith}
use Rattle.tcap_model.specs.Invocations.Closings.{Told}
use Rattle.tcap_model.specs.Invocations.Decision.{decision, as_list}
use Rattle.tcap_model.specs.Statements.Net.{Net, IsNet, side}
use Rattle.tcap_model.specs.Statements.TwoEnds.{Once}
use Rattle.tcap_laws.proofs.Decisions.DecidedHistories.{closings_are}

as_list-short : (decided : Option Told) → length (as_list decided) ≤ 1
as_list-short None = omega arith
as_list-short (Some told) = omega arith

pub once : (net : Net) → IsNet net → Once net.trace
once net is engine number =
    subst (λ (n : ℕ). n ≤ 1) (sym (ap length (closings_are (net.start engine) (side engine net.trace) number
    (is.is_legal engine).1))) (as_list-short (decision number (side engine net.trace)))
