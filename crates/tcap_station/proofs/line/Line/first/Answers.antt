use Rattle.tcap_station.specs.Line.{line_outputs}
use Rattle.tcap_station.proofs.MarkLemmas.{first-waits}
use Rattle.tcap_station.proofs.line.Line.first.Goals as goal

pub returns : goal.returns
returns g c =
    let line = c.args.self.now in
    first-waits line.marks.first line.marks.others.items (line_outputs line) c.in_ok-mark.mark _ c.requires.marked
    c.in_ok-mark.was c.in_ok-output.ensures
