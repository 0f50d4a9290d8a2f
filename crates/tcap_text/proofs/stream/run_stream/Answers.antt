use Rattle.std.proofs.Common.{rules, ◌<◌, ◌≤◌, length, take, arith}
use Rattle.std.proofs.lemmas.Result.{err_from_is_err_and}
use Rattle.tcap_text.proofs.StreamEnds.{ended}
use Rattle.tcap_text.proofs.StreamGoing.{at_end, begun, endless, faulty, goes-on, untaken}
use Rattle.tcap_text.proofs.stream.run_stream.Goals as goal

pub loop-init : goal.loop-init
loop-init g c = begun _ _ _ c.new-feed.ensures

pub returns-then-count-eq0 : goal.returns-then-count-eq0
returns-then-count-eq0 g c =
    let roomy : 0 < length c.read.new.buf = omega (arith, c.read.auto.buf) in
    ended _ _ _ _ _ _ _ c.end_stream.result (at_end _ _ _ _ _ _ _ c.loop.invariant _ c.in-Ok.count c.read.new.buf c.if-count-eq0.true roomy c.in-Ok.ensures.bytes.0 c.in-Ok.ensures.bytes.1) c.end_stream.ensures

pub returns-in_err-good : goal.returns-in_err-good
returns-in_err-good g c =
    let going = c.loop.invariant in
    let got = take c.in-Ok.count c.read.new.buf in
    let some : 0 < length got = omega (arith, c.if-count-eq0.false, c.in-Ok.ensures.bound) in
    let few : length got ≤ 4096 = omega (arith, c.in-Ok.ensures.bound, c.read.auto.buf) in
    let p = err_from_is_err_and c.from_residual.result c.from_residual.ensures.1 in
    rw (p.1, p.2) (untaken _ _ _ _ _ _ _ going _ got c.in-Ok.ensures.bytes.0 some few _ c.in_err-good.field-0.0 (c.in_err-good.ensures going.stream going.stands going.no_fault))

pub returns-then-is_some : goal.returns-then-is_some
returns-then-is_some g c =
    let going = c.loop.invariant in
    let got = take c.in-Ok.count c.read.new.buf in
    let some : 0 < length got = omega (arith, c.if-count-eq0.false, c.in-Ok.ensures.bound) in
    let few : length got ≤ 4096 = omega (arith, c.in-Ok.ensures.bound, c.read.auto.buf) in
    let taken = c.in_ok-good.ensures going.stream going.stands going.no_fault in
    ended _ _ _ _ _ _ _ c.end_stream-then-is_some.result (faulty _ _ _ _ _ _ _ going _ got c.in-Ok.ensures.bytes.0 some few _ _ _ taken (search rules)) c.end_stream-then-is_some.ensures

pub loop-preserved : goal.loop-preserved
loop-preserved g c =
    let going = c.loop.invariant in
    let got = take c.in-Ok.count c.read.new.buf in
    let some : 0 < length got = omega (arith, c.if-count-eq0.false, c.in-Ok.ensures.bound) in
    let few : length got ≤ 4096 = omega (arith, c.in-Ok.ensures.bound, c.read.auto.buf) in
    let taken = c.in_ok-good.ensures going.stream going.stands going.no_fault in
    goes-on _ _ _ _ _ _ _ going _ got c.in-Ok.ensures.bytes.0 some few _ _ _ taken (search rules)

pub returns : goal.returns
returns g c = endless _ _ _ _ _ _ _ c.loop.invariant (search (rules, arith))
