use Rattle.std.proofs.Common.{rules, true, false, ◌≡◌}
use Rattle.tcap_invocation.proofs.invocations.Invocations.on_result.Goals as goal

pub returns-then-last-clause-list : goal.returns-then-last-clause-list
returns-then-last-clause-list g c =
    let last : c.args.last ≡ true = c.if-last.true in
    search rules

pub returns-else-last-clause-list : goal.returns-else-last-clause-list
returns-else-last-clause-list g c =
    let more : c.args.last ≡ false = c.if-last.false in
    search rules
