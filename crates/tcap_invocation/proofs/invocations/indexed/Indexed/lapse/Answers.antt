use Rattle.std.proofs.Common.{refl, rules, tests, false, filter, ap, sym, arith, subst, ◌≡◌, ◌≢◌, ◌∙◌, ◌<◌, List, [], length}
use Rattle.std.specs.Prelude.{filter_map}
use Rattle.std.proofs.lemmas.Map.Made.{filter_same_pairs}
use Rattle.tcap_invocation.specs.declared.invocations.timers.Timer.{Timer}
use Rattle.tcap_invocation.specs.Invocations.{InvocationList}
use Rattle.tcap_invocation.specs.Lapses.{stays, told_at}
use Rattle.tcap_invocation.specs.Order.{first_of}
use Rattle.tcap_invocation.specs.TimerList.{told_of_timer, has_come}
use Rattle.tcap_invocation.proofs.DueLemmas.{told_at-later, after_lapse-later}
use Rattle.tcap_invocation.proofs.SortedLemmas.{AreSorted-filter}
use Rattle.tcap_invocation.proofs.TimelyLemmas.{told_at-timers, told_at-some}
use Rattle.tcap_invocation.proofs.TiedLemmas.{IsTimed-stays}
use Rattle.tcap_invocation.proofs.ListLemmas.{OnErr-of}
use Rattle.tcap_invocation.proofs.invocations.indexed.Indexed.lapse.Goals as goal

pub invariant_of-self : goal.invariant_of-self
invariant_of-self g c =
    let left : c.retain.new.self.entries ≡ filter (λ r. stays c.args.clock r.1.stage) c.self.inside.entries.entries = filter_same_pairs _ (λ r. stays c.args.clock r.1.stage) _ (λ k v b w g t. search rules) _ _ c.retain.ensures.filtered in
    let room = c.expire.ensures.room in (
      rw left (AreSorted-filter _ _ c.self.invariant.0),
      rw left (IsTimed-stays c.self.inside.entries.entries c.self.inside.timers c.expire.new.self c.self.invariant.1 (omega (arith, room)) c.args.clock c.expire.ensures.timers),
    )

pub returns-clause-rows : goal.returns-clause-rows
returns-clause-rows g c =
    let left : c.retain.new.self.entries ≡ filter (λ r. stays c.args.clock r.1.stage) c.self.inside.entries.entries = filter_same_pairs _ (λ r. stays c.args.clock r.1.stage) _ (λ k v b w g t. search rules) _ _ c.retain.ensures.filtered in
    rw (left, ← c.self.view_is) refl

pub returns-clause-told : goal.returns-clause-told
returns-clause-told g c =
    rw (← c.self.view_is) (c.in_ok-told.ensures.told ∙ ap (filter_map (told_of_timer c.args.clock)) c.self.invariant.1.timers ∙ told_at-timers c.args.clock c.self.inside.entries.entries)

pub returns-in_err-told-clause-memory : goal.returns-in_err-told-clause-memory
returns-in_err-told-clause-memory g c =
    let some = subst (λ (ts : List Timer). 0 < length (filter_map (told_of_timer c.args.clock) ts)) c.self.invariant.1.timers c.in_err-told.ensures.memory in
    OnErr-of c.from_residual.result (told_at c.args.clock c.args.self.now ≢ []) (rw (← c.self.view_is) (told_at-some c.args.clock c.self.inside.entries.entries some))

pub returns-then-not-is_due-clause-told : goal.returns-then-not-is_due-clause-told
returns-then-not-is_due-clause-told g c =
    let late : has_come c.args.clock (first_of c.self.inside.timers.timers) ≡ false = search (rules, tests) in
    rw (← c.self.view_is) (c.new.ensures.items ∙ sym (told_at-later c.args.clock c.self.inside.entries.entries (subst (λ ts. has_come c.args.clock (first_of ts) ≡ false) c.self.invariant.1.timers late)))

pub returns-then-not-is_due-clause-rows : goal.returns-then-not-is_due-clause-rows
returns-then-not-is_due-clause-rows g c =
    let late : has_come c.args.clock (first_of c.self.inside.timers.timers) ≡ false = search (rules, tests) in
    let same = subst (λ (ts : List Timer). has_come c.args.clock (first_of ts) ≡ false) c.self.invariant.1.timers late in
    rw (← c.self.view_is) (sym (ap (λ (l : InvocationList). l.rows) (after_lapse-later c.args.clock (record { reject_ms = 0; rows = c.self.inside.entries.entries }) same)))
