use Rattle.std.proofs.Common.{rules, ◌≡◌, arith, refl, true}
use Rattle.tcap_judging.proofs.NameLists.{one-more}
use Rattle.tcap_judging.specs.LineParts.{trimmed}
use Rattle.tcap_judging.specs.Names.{is_name_line, line_of}
use Rattle.tcap_judging.proofs.name_list.read_names.Goals as goal

pub loop-line-preserved : goal.loop-line-preserved
loop-line-preserved g c =
    let cut = c.in-Some.ensures.cut in
    let good : is_name_line (line_of (trimmed c.in-Some.line.now)) ≡ true = search rules in
    (one-more _ _ _ _ c.loop-line.invariant.0 c.in-Some.line.now c.in-Some.after.now _ _ cut.0 cut.1 good c.in_ok-take_line.ensures.adds refl, omega (arith, c.loop-line.invariant.1, c.in-Some.ensures.shorter))
