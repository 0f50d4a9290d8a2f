use Rattle.std.proofs.Common.{rules, ◌<◌, ◌≤◌, [], ap, arith, length, subst, sym, take}
use Rattle.std.proofs.lemmas.Result.{err_from_is_err_and}
use Rattle.tcap_judging.proofs.Going.{begun, endless}
use Rattle.tcap_judging.proofs.ResyncGoing.{at-first, resync-ended, resync-goes-on, resync-untaken, tells-with, told}
use Rattle.tcap_judging.specs.Resync.{ResyncTells}
use Rattle.tcap_judging.specs.ResyncSteps.{Leads}
use Rattle.tcap_judging.specs.declared.place.Place.TheVariants.{Reading}
use Rattle.tcap_judging.proofs.resync_run.judge_resynced.Goals as goal

pub loop-init : goal.loop-init
loop-init g c =
    let all = told (Reading 0) [] in
    (begun _ ResyncTells _ _ _ (tells-with [] [] (Reading 0) [] at-first all.0 all.1), subst (λ k. Leads _ (Reading 0) [] [] (Reading 0) k _) (sym c.new.ensures.items) at-first, omega (arith, ap length c.new.ensures.items))

pub returns-then-count-eq0 : goal.returns-then-count-eq0
returns-then-count-eq0 g c =
    let i = c.loop.invariant in
    let roomy : 0 < length c.read.new.buf = omega (arith, c.read.auto.buf) in
    resync-ended _ _ _ _ _ _ _ i.0 _ _ i.1 _ c.in-Ok.count c.read.new.buf c.if-count-eq0.true roomy c.in-Ok.ensures.bytes.0 c.in-Ok.ensures.bytes.1 _ c.end_more.result c.end_more.ensures

pub returns-in_err-good : goal.returns-in_err-good
returns-in_err-good g c =
    let i = c.loop.invariant in
    let got = take c.in-Ok.count c.read.new.buf in
    let some : 0 < length got = omega (arith, c.if-count-eq0.false, c.in-Ok.ensures.bound) in
    let p = err_from_is_err_and c.from_residual.result c.from_residual.ensures.1 in
    rw (p.1, p.2) (resync-untaken _ _ _ _ _ _ _ i.0 _ _ i.1 _ got c.in-Ok.ensures.bytes.0 some _ c.in_err-good.field-0.0 c.in_err-good.ensures.writes)

pub loop-preserved : goal.loop-preserved
loop-preserved g c =
    let i = c.loop.invariant in
    let got = take c.in-Ok.count c.read.new.buf in
    let some : 0 < length got = omega (arith, c.if-count-eq0.false, c.in-Ok.ensures.bound) in
    let few : length got ≤ 4096 = omega (arith, c.in-Ok.ensures.bound, c.read.auto.buf) in
    let more = resync-goes-on _ _ _ _ _ _ _ i.0 _ _ i.1 _ got c.in-Ok.ensures.bytes.0 some _ _ _ _ c.in_ok-good.ensures.writes in
    (more.0, more.1, omega (arith, few, c.in_ok-good.ensures.offset, i.2))

pub returns : goal.returns
returns g c = endless _ ResyncTells _ _ _ _ _ _ c.loop.invariant.0 (search (rules, arith))
