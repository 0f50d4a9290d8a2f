use Rattle.std.proofs.Common.{◌≡◌, refl, true, arith}
use Rattle.std.proofs.lemmas.Bool.Decides.{nat_tests}
use Rattle.tcap_model.specs.Words.Identifiers.{are_numbers_spent}
use Rattle.tcap_engine.proofs.engine.requests.ask_one.Goals as goal

pub returns-in-Invoke-clause-answer : goal.returns-in-Invoke-clause-answer
returns-in-Invoke-clause-answer g c =
    let none : are_numbers_spent c.args.number ≡ true = let last = c.if-number-eq18446744073709551615.true in grind (arith, nat_tests, last) in
    rw (c.in-Invoke.is) (refl, c.spent_fault.ensures c.args.clock c.args.number none)
