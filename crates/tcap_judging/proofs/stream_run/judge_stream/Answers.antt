use Rattle.std.proofs.Common.{rules, ◌<◌, ◌≤◌, length, take, ap, arith, refl, sym}
use Rattle.std.proofs.lemmas.Result.{err_from_is_err_and}
use Rattle.tcap_judging.proofs.Going.{begun, endless}
use Rattle.tcap_judging.proofs.StreamGoing.{nothing, stream-ended, stream-goes-on, stream-stopped, stream-untaken}
use Rattle.tcap_judging.specs.Entry.{StreamTells}
use Rattle.tcap_judging.proofs.stream_run.judge_stream.Goals as goal

pub loop-init : goal.loop-init
loop-init g c = (begun _ StreamTells _ _ _ nothing, sym c.new.ensures.items, refl, refl, omega (arith, ap length c.new.ensures.items))

pub returns-then-count-eq0 : goal.returns-then-count-eq0
returns-then-count-eq0 g c =
    let i = c.loop.invariant in
    let roomy : 0 < length c.read.new.buf = omega (arith, c.read.auto.buf) in
    stream-ended _ _ _ _ _ _ _ i.0 _ _ i.1 i.2 i.3 _ c.in-Ok.count c.read.new.buf c.if-count-eq0.true roomy c.in-Ok.ensures.bytes.0 c.in-Ok.ensures.bytes.1 _ c.end_stream.result c.end_stream.ensures

pub returns-in_err-good : goal.returns-in_err-good
returns-in_err-good g c =
    let i = c.loop.invariant in
    let got = take c.in-Ok.count c.read.new.buf in
    let some : 0 < length got = omega (arith, c.if-count-eq0.false, c.in-Ok.ensures.bound) in
    let p = err_from_is_err_and c.from_residual.result c.from_residual.ensures.1 in
    rw (p.1, p.2) (stream-untaken _ _ _ _ _ _ _ i.0 _ _ i.1 i.2 i.3 _ got c.in-Ok.ensures.bytes.0 some _ c.in_err-good.field-0.0 c.in_err-good.ensures.writes)

pub returns-then-is_some : goal.returns-then-is_some
returns-then-is_some g c =
    let i = c.loop.invariant in
    let got = take c.in-Ok.count c.read.new.buf in
    let some : 0 < length got = omega (arith, c.if-count-eq0.false, c.in-Ok.ensures.bound) in
    stream-stopped _ _ _ _ _ _ _ i.0 _ _ i.1 i.2 i.3 _ got c.in-Ok.ensures.bytes.0 some _ _ _ _ _ c.in_ok-good.ensures.writes (search rules)

pub loop-preserved : goal.loop-preserved
loop-preserved g c =
    let i = c.loop.invariant in
    let got = take c.in-Ok.count c.read.new.buf in
    let some : 0 < length got = omega (arith, c.if-count-eq0.false, c.in-Ok.ensures.bound) in
    let few : length got ≤ 4096 = omega (arith, c.in-Ok.ensures.bound, c.read.auto.buf) in
    let more = stream-goes-on _ _ _ _ _ _ _ i.0 _ _ i.1 i.2 i.3 _ got c.in-Ok.ensures.bytes.0 some _ _ _ _ _ c.in_ok-good.ensures.writes (search rules) in
    (more.0, more.1, more.2, more.3, omega (arith, few, c.in_ok-good.ensures.offset, i.4))

pub returns : goal.returns
returns g c = endless _ StreamTells _ _ _ _ _ _ c.loop.invariant.0 (search (rules, arith))
