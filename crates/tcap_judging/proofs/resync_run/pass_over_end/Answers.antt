use Rattle.std.proofs.Common.{sym, subst, ◌+◌, ◌-◌, take, drop, length}
use Rattle.tcap_judging.proofs.ResyncBehind.{stands-behind}
use Rattle.tcap_judging.proofs.ResyncCuts.{rest-from}
use Rattle.tcap_judging.specs.ResyncSteps.{StandsBehind}
use Rattle.tcap_judging.specs.declared.place.Place.{Place}
use Rattle.tcap_judging.specs.declared.place.Place.TheVariants.{Within}
use Rattle.tcap_judging.proofs.resync_run.pass_over_end.Goals as goal

pub returns-in-Within-clause-behind : goal.returns-in-Within-clause-behind
returns-in-Within-clause-behind c =
    let passed = c.pass_over-passed in
    let n = passed.result.count in
    let octets = c.args.octets.now in
    let at = c.in-Within in
    subst (λ (place : Place). StandsBehind place octets (Within at.first (at.count + n) (at.left - n)) (take (length octets - n) (drop n octets))) (sym at.is)
    (stands-behind at.first at.count at.left n octets _ passed.ensures.count (rest-from octets n) passed.ensures.within)
