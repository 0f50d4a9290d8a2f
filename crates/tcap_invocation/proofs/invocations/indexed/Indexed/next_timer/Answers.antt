use Rattle.std.proofs.Common.{◌≡◌, ◌∙◌, ap, sym, rules, Some, None}
use Rattle.std.specs.Prelude.{option_copied}
use Rattle.std.specs.Option.{option_map}
use Rattle.tcap_invocation.specs.declared.invocations.timers.Timer.{Timer}
use Rattle.tcap_invocation.specs.Order.{first_of}
use Rattle.tcap_invocation.specs.TimerList.{timers_at}
use Rattle.tcap_invocation.proofs.TimelyLemmas.{next_timer_at-timers}
use Rattle.tcap_invocation.proofs.invocations.indexed.Indexed.next_timer.Goals as goal

pub returns-in_err-first : goal.returns-in_err-first
returns-in_err-first g c =
    let none : option_copied c.first.result ≡ None = search rules in
    let result : c.from_residual.result ≡ None = search rules in
    let next = next_timer_at-timers c.self.inside.entries.entries in
    let first : first_of (timers_at c.self.inside.entries.entries) ≡ None = sym (ap first_of c.self.invariant.1.timers) ∙ sym c.first.ensures ∙ none in
    rw (← c.self.view_is) (result ∙ sym (ap (option_map (λ (t : Timer). t.time)) first) ∙ next)

pub returns : goal.returns
returns g c =
    let some : option_copied c.first.result ≡ Some c.in_ok-first.field-0.now = search rules in
    let next = next_timer_at-timers c.self.inside.entries.entries in
    let first : first_of (timers_at c.self.inside.entries.entries) ≡ Some c.in_ok-first.field-0.now = sym (ap first_of c.self.invariant.1.timers) ∙ sym c.first.ensures ∙ some in
    rw (← c.self.view_is) (sym (ap (option_map (λ (t : Timer). t.time)) first) ∙ next)
