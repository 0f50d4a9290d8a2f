use Rattle.std.proofs.Common.{◌++◌, take, arith, length-append}
use Rattle.std.proofs.KnownBytes.{Consumes-trans}
use Rattle.std.proofs.lemmas.Result.{err_from_is_err_and}
use Rattle.tcap_text.proofs.input.read_script.Goals as goal

pub returns-then-count-len : goal.returns-then-count-len
returns-then-count-len g c =
    let before = c.loop.script.items in
    let got = take c.in-Ok.count c.read.new.buf in
    let bound = c.in-Ok.ensures.bound in
    record {
      octets = before ++ got;
      given = Consumes-trans _ _ _ _ _ c.loop.invariant.0 c.in-Ok.ensures.bytes.0;
      many = omega (arith, c.if-count-len.true, c.len.ensures, bound, length-append before got);
      near = omega (arith, bound, c.loop.invariant.1, c.read.auto.buf, length-append before got);
    }

pub returns-in_err-extend_from_slice : goal.returns-in_err-extend_from_slice
returns-in_err-extend_from_slice g c =
    let before = c.loop.script.items in
    let got = take c.in-Ok.count c.read.new.buf in
    let p = err_from_is_err_and c.from_residual.result c.from_residual.ensures.1 in
    rw (p.1, p.2) (record {
      octets = before ++ got;
      given = Consumes-trans _ _ _ _ _ c.loop.invariant.0 c.in-Ok.ensures.bytes.0;
      fits = omega (arith, c.if-count-len.false, c.len.ensures, c.in-Ok.ensures.bound, c.loop.invariant.1, length-append before got);
    })
