use Rattle.std.proofs.Common.{rules, ◌≡◌}
use Rattle.tcap_invocation.specs.Class.{reports_failure}
use Rattle.tcap_invocation.proofs.invocations.Invocations.on_error.Goals as goal

pub returns-then-not-reports_failure-clause-verdict : goal.returns-then-not-reports_failure-clause-verdict
returns-then-not-reports_failure-clause-verdict g c =
    let judged : c.reports_failure.result ≡ reports_failure c.in-Some.entry.class = c.reports_failure.ensures in
    search rules

pub returns-then-not-reports_failure-clause-list : goal.returns-then-not-reports_failure-clause-list
returns-then-not-reports_failure-clause-list g c =
    let judged : c.reports_failure.result ≡ reports_failure c.in-Some.entry.class = c.reports_failure.ensures in
    search rules

pub returns-clause-verdict : goal.returns-clause-verdict
returns-clause-verdict g c =
    let judged : c.reports_failure.result ≡ reports_failure c.in-Some.entry.class = c.reports_failure.ensures in
    search rules

pub returns-clause-list : goal.returns-clause-list
returns-clause-list g c =
    let judged : c.reports_failure.result ≡ reports_failure c.in-Some.entry.class = c.reports_failure.ensures in
    search rules
