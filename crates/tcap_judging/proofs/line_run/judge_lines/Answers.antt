use Rattle.std.proofs.Common.{rules, ◌<◌, ◌≤◌, length, take, arith, refl}
use Rattle.std.proofs.lemmas.Result.{err_from_is_err_and}
use Rattle.tcap_judging.proofs.Going.{begun, endless}
use Rattle.tcap_judging.proofs.LineGoing.{line-ended, line-goes-on, line-untaken, no_lines}
use Rattle.tcap_judging.specs.Entry.{LinesTell}
use Rattle.tcap_judging.proofs.line_run.judge_lines.Goals as goal

pub loop-init : goal.loop-init
loop-init g c = (begun _ (LinesTell _) _ _ _ (no_lines _), ((c.new.ensures.items, omega arith), refl), refl, omega arith)

pub returns-then-count-eq0 : goal.returns-then-count-eq0
returns-then-count-eq0 g c =
    let going = c.loop.invariant.0 in
    let roomy : 0 < length c.read.new.buf = omega (arith, c.read.auto.buf) in
    line-ended _ _ _ _ _ _ _ _ going _ c.loop.invariant.2 _ c.in-Ok.count c.read.new.buf c.if-count-eq0.true roomy c.in-Ok.ensures.bytes.0 c.in-Ok.ensures.bytes.1 _ c.end_input.result (c.end_input.ensures going.tells.rest c.loop.invariant.1)

pub returns-in_err-good : goal.returns-in_err-good
returns-in_err-good g c =
    let going = c.loop.invariant.0 in
    let got = take c.in-Ok.count c.read.new.buf in
    let some : 0 < length got = omega (arith, c.if-count-eq0.false, c.in-Ok.ensures.bound) in
    let p = err_from_is_err_and c.from_residual.result c.from_residual.ensures.1 in
    rw (p.1, p.2) (line-untaken _ _ _ _ _ _ _ _ going _ c.loop.invariant.2 _ got c.in-Ok.ensures.bytes.0 some _ c.in_err-good.field-0.0 (c.in_err-good.ensures.writes going.tells.rest c.loop.invariant.1))

pub loop-preserved : goal.loop-preserved
loop-preserved g c =
    let going = c.loop.invariant.0 in
    let got = take c.in-Ok.count c.read.new.buf in
    let some : 0 < length got = omega (arith, c.if-count-eq0.false, c.in-Ok.ensures.bound) in
    let few : length got ≤ 4096 = omega (arith, c.in-Ok.ensures.bound, c.read.auto.buf) in
    let later = line-goes-on _ _ _ _ _ _ _ _ going _ c.loop.invariant.2 _ got c.in-Ok.ensures.bytes.0 some _ _ _ _ _ (c.in_ok-good.ensures.writes going.tells.rest c.loop.invariant.1) in
    (later.0, later.1, later.2, omega (arith, few, c.in_ok-good.ensures.number, c.loop.invariant.3))

pub returns : goal.returns
returns g c = endless _ (LinesTell _) _ _ _ _ _ _ c.loop.invariant.0 (search (rules, arith))
