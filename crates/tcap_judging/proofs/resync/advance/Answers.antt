use Rattle.std.proofs.Common.{◌∙◌, false, refl, subst, true}
use Rattle.std.specs.Prelude.{string_bytes}
use Rattle.tcap_judging.proofs.ResyncSteps.{no-steps, steps-then}
use Rattle.tcap_judging.specs.ResyncSteps.{AddsSteps}
use Rattle.tcap_judging.specs.NameViews.{form_view}
use Rattle.tcap_judging.proofs.resync.advance.Goals as goal

pub loop-next-init : goal.loop-next-init
loop-next-init g c = (no-steps _ _ _ _ _, refl)

pub returns-then-next-clause-adds : goal.returns-then-next-clause-adds
returns-then-next-clause-adds g c =
    let next = c.in_ok-next.next in
    let last : AddsSteps (form_view c.args.form) c.args.ends c.loop-next.place c.loop-next.rest.now next.place next.rest.now true (string_bytes c.loop-next.text) (string_bytes c.next_step.new.text) next.good = subst (λ o. AddsSteps (form_view c.args.form) c.args.ends c.loop-next.place c.loop-next.rest.now next.place next.rest.now o (string_bytes c.loop-next.text) (string_bytes c.next_step.new.text) next.good) c.if-next.true c.in_ok-next.ensures.adds in
    steps-then _ _ _ _ _ _ _ _ _ _ _ _ _ _ c.loop-next.invariant.0 last

pub loop-next-preserved : goal.loop-next-preserved
loop-next-preserved g c =
    let next = c.in_ok-next.next in
    let more : AddsSteps (form_view c.args.form) c.args.ends c.loop-next.place c.loop-next.rest.now next.place next.rest.now false (string_bytes c.loop-next.text) (string_bytes c.next_step.new.text) next.good = subst (λ o. AddsSteps (form_view c.args.form) c.args.ends c.loop-next.place c.loop-next.rest.now next.place next.rest.now o (string_bytes c.loop-next.text) (string_bytes c.next_step.new.text) next.good) c.if-next.false c.in_ok-next.ensures.adds in
    (steps-then _ _ _ _ _ _ _ _ _ _ _ _ _ _ c.loop-next.invariant.0 more, c.in_ok-next.ensures.within ∙ c.loop-next.invariant.1)
