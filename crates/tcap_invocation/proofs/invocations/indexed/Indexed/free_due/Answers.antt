use Rattle.std.proofs.Common.{◌≡◌, sym, subst, rules, tests, false}
use Rattle.tcap_invocation.specs.Order.{first_of}
use Rattle.tcap_invocation.specs.TimerList.{has_come}
use Rattle.tcap_invocation.proofs.TimelyLemmas.{held-all}
use Rattle.tcap_invocation.proofs.invocations.indexed.Indexed.free_due.Goals as goal

pub returns-then-not-is_due : goal.returns-then-not-is_due
returns-then-not-is_due g c =
    let late : has_come c.args.clock (first_of c.self.inside.timers.timers) ≡ false = search (rules, tests) in
    let all = held-all c.args.clock c.self.inside.entries.entries (subst (λ ts. has_come c.args.clock (first_of ts) ≡ false) c.self.invariant.1.timers late) in
    rw (← c.self.view_is) (sym all)
