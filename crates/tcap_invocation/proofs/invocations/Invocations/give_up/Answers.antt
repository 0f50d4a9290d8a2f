use Rattle.std.proofs.Common.{rules, sym, None, ◌≡◌}
use Rattle.tcap_invocation.specs.Closing.{given_up_at}
use Rattle.tcap_invocation.proofs.invocations.Invocations.give_up.Goals as goal

pub returns-in-Waiting-clause-number : goal.returns-in-Waiting-clause-number
returns-in-Waiting-clause-number g c =
    let none : given_up_at c.args.self.now.rows c.args.id ≡ None = search rules in
    sym none
