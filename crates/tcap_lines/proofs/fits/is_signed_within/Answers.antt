use Rattle.std.proofs.Common.{rules, ◌∙◌, arith, w32}
use Rattle.std.proofs.lemmas.Int.{to_z-of_z}
use Rattle.std.specs.Int.RustNames.{FitsSigned}
use Rattle.tcap_lines.proofs.FitsLemmas.{signed_none, signed_some}
use Rattle.tcap_lines.proofs.fits.is_signed_within.Goals as goal

pub returns-in-Some : goal.returns-in-Some
returns-in-Some c =
    let least = to_z-of_z w32 c.args.least c.ranges.least in
    let most = to_z-of_z w32 c.args.most c.ranges.most in
    let fits : FitsSigned w32 c.in-Some.n = search rules in
    let n = to_z-of_z w32 c.in-Some.n fits in
    (rw (least, most, n) at c.is_between.ensures) ∙ signed_some c.args.least c.args.most c.in-Some.n c.args.word.now c.in-Some.ensures

pub returns-in-None : goal.returns-in-None
returns-in-None c =
    signed_none c.args.least c.args.most c.args.word.now (grind (arith, c.ranges.least.sfits)) (grind (arith, c.ranges.most.sfits)) c.in-None.ensures
