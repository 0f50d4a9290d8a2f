use Rattle.std.proofs.Common.{◌≡◌, ◌∙◌, ◌≤◌, ◌++◌, [], ap, sym, rules, arith, tests, List, Option, None, Some, drop, length}
use Rattle.std.proofs.Math.ListN.{drop_of_length-le}
use Rattle.std.specs.Prelude.{IfSome, slice_get}
use Rattle.std.specs.Option.{option_map}
use Rattle.tcap_model.specs.Words.Output.{Output}
use Rattle.tcap_primitives.specs.KeptViews.{kept_view}
use Rattle.tcap_station.specs.Line.{line_outputs}
use Rattle.tcap_station.specs.Marks.{marks_in}
use Rattle.tcap_station.proofs.MarkLemmas.{first-output}
use Rattle.tcap_station.proofs.line.Line.kept_of_one_event.Goals as goal

-- What is read of one that is there.
view-if-some : {K V : Type 0} (view : K → V) (kept : Option K) (output : Option V) → option_map view kept ≡ output → IfSome kept (λ k. Some (view k) ≡ output)
view-if-some view None output e = tt
view-if-some view (Some k) output e = e

pub returns-clause-output : goal.returns-clause-output
returns-clause-output g c =
    let line = c.args.self.now in
    let taken : length line.front.outputs ≤ line.taken = search (rules, arith, tests) in
    let none : drop line.taken line.front.outputs ≡ [] = drop_of_length-le line.front.outputs taken in
    let behind : slice_get line.back.outputs 0 ≡ slice_get (line_outputs line) 0 = ap (λ (os : List Output). slice_get (os ++ line.back.outputs) 0) (sym none) in
    view-if-some kept_view c.kept.result _ (c.kept.ensures.output ∙ behind ∙ sym (first-output (marks_in line.marks) (line_outputs line) c.requires.marked))
