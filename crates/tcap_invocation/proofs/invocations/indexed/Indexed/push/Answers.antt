use Rattle.std.proofs.Common.{arith, refl, rules, ◌≡◌, ◌∙◌, ◌+◌, ◌≤◌, [], ◌++◌, ◌∷◌}
use Rattle.std.proofs.lemmas.Int.{to_z-of_z}
use Rattle.std.specs.Ordering.{int_eq}
use Rattle.std.specs.Int.{w8}
use Rattle.indexmap.proofs.CallerLemmas.{insert_entry-new}
use Rattle.tcap_invocation.specs.Rows.{IsNew}
use Rattle.tcap_invocation.proofs.SortedLemmas.{AreSorted-push, untimed}
use Rattle.tcap_invocation.proofs.TiedLemmas.{IsTimed-push}
use Rattle.tcap_invocation.proofs.invocations.indexed.Indexed.push.Goals as goal

pub invariant_of-self-2 : goal.invariant_of-self-2
invariant_of-self-2 g c =
    let fresh : IsNew c.self.inside.entries.entries c.args.id c.args.entry = rw c.self.view_is c.requires in
    let new : c.insert.new.self.entries ≡ c.self.inside.entries.entries ++ (c.args.id, c.args.entry) ∷ [] =
    rw (to_z-of_z w8 c.args.id c.ranges.id) at c.in_ok-insert.ensures.entries ∙ insert_entry-new int_eq c.self.inside.entries c.args.id c.args.entry fresh.free in
    let room : c.len.result + 1 ≤ c.reserve.new.self.room = search rules in
    let long = c.len.ensures.len in (
      rw new (AreSorted-push c.self.inside.entries.entries c.args.id c.args.entry fresh c.self.invariant.0),
      rw new (IsTimed-push c.self.inside.entries.entries c.self.inside.timers c.reserve.new.self c.self.invariant.1 c.reserve.ensures.more (c.args.id, c.args.entry) (untimed c.args.id c.args.entry.number c.args.entry.stage fresh.queued) c.reserve.ensures.kept (omega (arith, room, long))),
    )

pub returns-clause-ok : goal.returns-clause-ok
returns-clause-ok g c =
    let fresh : IsNew c.self.inside.entries.entries c.args.id c.args.entry = rw c.self.view_is c.requires in
    let new : c.insert.new.self.entries ≡ c.self.inside.entries.entries ++ (c.args.id, c.args.entry) ∷ [] =
    rw (to_z-of_z w8 c.args.id c.ranges.id) at c.in_ok-insert.ensures.entries ∙ insert_entry-new int_eq c.self.inside.entries c.args.id c.args.entry fresh.free in
    rw (new, ← c.self.view_is) refl
