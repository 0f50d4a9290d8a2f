use Rattle.std.proofs.Common.{sym, ◌∙◌}
use Rattle.tcap_station.specs.Line.{line_outputs}
use Rattle.tcap_station.specs.Marks.{marks_in}
use Rattle.tcap_station.proofs.MarkLemmas.{first-output}
use Rattle.tcap_station.proofs.line.Line.kept_first.Goals as goal

pub returns-clause-output : goal.returns-clause-output
returns-clause-output g c =
    let line = c.args.self.now in
    c.kept_first.ensures.output ∙ sym (first-output (marks_in line.marks) (line_outputs line) c.requires.marked)
