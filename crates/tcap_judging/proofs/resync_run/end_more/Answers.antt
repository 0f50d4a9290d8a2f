use Rattle.std.proofs.Common.{subst}
use Rattle.tcap_judging.proofs.ResyncBehind.{ends-behind}
use Rattle.tcap_judging.specs.NameViews.{form_view}
use Rattle.tcap_judging.specs.ResyncSteps.{StandsBehind}
use Rattle.tcap_judging.proofs.resync_run.end_more.Goals as goal

pub returns : goal.returns
returns g c =
    let place = c.args.left.now.place in
    let behind = subst (λ w. StandsBehind place w c.pass_over_end-place.result.0 c.pass_over_end-place.result.1.now) c.as_slice.ensures.value c.pass_over_end-place.ensures.behind in
    ends-behind (form_view c.args.form) place c.args.left.now.kept.items _ _ behind _ _ c.args.good c.end_at.result c.end_at.ensures
