use Rattle.std.proofs.Common.{◌≡◌, subst, rules, tests, filter, false, None, Some}
use Rattle.tcap_invocation.specs.Invocations.{entry_at}
use Rattle.tcap_invocation.specs.Order.{first_of}
use Rattle.tcap_invocation.specs.TimerList.{has_come, is_over}
use Rattle.tcap_invocation.proofs.OverLemmas.{over-entry, held-without, length-without, held-none}
use Rattle.tcap_invocation.proofs.TimelyLemmas.{held-all}
use Rattle.tcap_invocation.proofs.invocations.indexed.Indexed.free_first.Goals as goal

pub returns-then-not-is_due-clause-none : goal.returns-then-not-is_due-clause-none
returns-then-not-is_due-clause-none g c = λ no.
    let late : has_come c.args.clock (first_of c.self.inside.timers.timers) ≡ false = search (rules, tests) in
    let all = held-all c.args.clock c.self.inside.entries.entries (subst (λ ts. has_come c.args.clock (first_of ts) ≡ false) c.self.invariant.1.timers late) in
    rw (← c.self.view_is) all

pub returns-in_default-clause-none : goal.returns-in_default-clause-none
returns-in_default-clause-none g c = λ no.
    let none : first_of (filter (is_over c.args.clock) c.self.inside.timers.timers) ≡ None = search rules in
    let all = held-none c.args.clock c.self.inside.entries.entries (subst (λ ts. first_of (filter (is_over c.args.clock) ts) ≡ None) c.self.invariant.1.timers none) in
    rw (← c.self.view_is) all

pub returns-in_default-copied-clause-none : goal.returns-in_default-copied-clause-none
returns-in_default-copied-clause-none g c = λ no.
    let first : first_of (filter (is_over c.args.clock) c.self.inside.timers.timers) ≡ Some c.in-Some.timer = search rules in
    let entry = over-entry c.args.clock c.self.inside.entries.entries c.in-Some.timer c.self.invariant.0.distinct (subst (λ ts. first_of (filter (is_over c.args.clock) ts) ≡ Some c.in-Some.timer) c.self.invariant.1.timers first) in
    let none : entry_at c.self.inside.entries.entries c.in-Some.timer.id ≡ None = search rules in
    let found = entry.1 in
    absurd cc

pub returns-clause-same : goal.returns-clause-same
returns-clause-same g c =
    let first : first_of (filter (is_over c.args.clock) c.self.inside.timers.timers) ≡ Some c.in-Some.timer = search rules in
    let entry = over-entry c.args.clock c.self.inside.entries.entries c.in-Some.timer c.self.invariant.0.distinct (subst (λ ts. first_of (filter (is_over c.args.clock) ts) ≡ Some c.in-Some.timer) c.self.invariant.1.timers first) in
    let left = held-without c.args.clock c.in-Some.timer.id entry.0 c.self.inside.entries.entries entry.1 entry.2 in
    rw (c.take_out.ensures.rows, ← c.self.view_is) left

pub returns-clause-fewer : goal.returns-clause-fewer
returns-clause-fewer g c = λ yes.
    let first : first_of (filter (is_over c.args.clock) c.self.inside.timers.timers) ≡ Some c.in-Some.timer = search rules in
    let entry = over-entry c.args.clock c.self.inside.entries.entries c.in-Some.timer c.self.invariant.0.distinct (subst (λ ts. first_of (filter (is_over c.args.clock) ts) ≡ Some c.in-Some.timer) c.self.invariant.1.timers first) in
    rw (c.take_out.ensures.rows, ← c.self.view_is) (length-without c.args.clock c.in-Some.timer.id entry.0 c.self.inside.entries.entries entry.1)
