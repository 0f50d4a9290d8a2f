use Rattle.std.proofs.Common.{refl, rules, filter, arith, ◌≡◌}
use Rattle.std.proofs.lemmas.Map.Made.{filter_same_pairs}
use Rattle.tcap_invocation.specs.Lapses.{is_held}
use Rattle.tcap_invocation.proofs.SortedLemmas.{AreSorted-filter}
use Rattle.tcap_invocation.proofs.TiedLemmas.{IsTimed-held}
use Rattle.tcap_invocation.proofs.invocations.indexed.Indexed.free_all.Goals as goal

pub invariant_of-self : goal.invariant_of-self
invariant_of-self g c =
    let left : c.retain.new.self.entries ≡ filter (λ r. is_held c.args.clock r.1.stage) c.self.inside.entries.entries = filter_same_pairs _ (λ r. is_held c.args.clock r.1.stage) _ (λ k v b w g t. search rules) _ _ c.retain.ensures.filtered in
    let room = c.end_waits.ensures.room in (
      rw left (AreSorted-filter _ _ c.self.invariant.0),
      rw left (IsTimed-held c.self.inside.entries.entries c.self.inside.timers c.end_waits.new.self c.self.invariant.1 (omega (arith, room)) c.args.clock c.end_waits.ensures.timers),
    )

pub returns : goal.returns
returns g c =
    let left : c.retain.new.self.entries ≡ filter (λ r. is_held c.args.clock r.1.stage) c.self.inside.entries.entries = filter_same_pairs _ (λ r. is_held c.args.clock r.1.stage) _ (λ k v b w g t. search rules) _ _ c.retain.ensures.filtered in
    rw (left, ← c.self.view_is) refl
