use Rattle.std.proofs.Common.{◌≡◌, refl, rules, to_z, of_z, Some, None}
use Rattle.std.specs.Int.{w8}
use Rattle.tcap_invocation.specs.Closing.{first_ended_at}
use Rattle.tcap_invocation.specs.Invocations.{entry_at}
use Rattle.tcap_invocation.proofs.TellingLemmas.{first_ended-entry}
use Rattle.tcap_invocation.proofs.invocations.Invocations.take_ended.Goals as goal

pub returns-in_err-entry-clause-told : goal.returns-in_err-entry-clause-told
returns-in_err-entry-clause-told g c =
    let first : first_ended_at c.self.inside.rows ≡ Some (c.in_ok-number.number, c.in_ok-number.id) = search rules in
    let none : entry_at c.self.inside.rows c.in_ok-number.id ≡ None = search rules in
    absurd (first_ended-entry c.self.inside.rows (c.in_ok-number.number, c.in_ok-number.id) c.first_ended.ensures.sorted.distinct first none)

pub returns-in_err-entry-clause-list : goal.returns-in_err-entry-clause-list
returns-in_err-entry-clause-list g c =
    let first : first_ended_at c.self.inside.rows ≡ Some (c.in_ok-number.number, c.in_ok-number.id) = search rules in
    let none : entry_at c.self.inside.rows c.in_ok-number.id ≡ None = search rules in
    absurd (first_ended-entry c.self.inside.rows (c.in_ok-number.number, c.in_ok-number.id) c.first_ended.ensures.sorted.distinct first none)

pub returns-clause-told : goal.returns-clause-told
returns-clause-told g c =
    let first : first_ended_at c.self.inside.rows ≡ Some (c.in_ok-number.number, c.in_ok-number.id) = search rules in
    let same : to_z w8 (of_z w8 c.in_ok-number.id) ≡ c.in_ok-number.id = search rules in
    rw (← c.self.view_is, first, same) refl
