use Rattle.std.proofs.Common.{◌∙◌}
use Rattle.tcap_station.specs.Line.{line_outputs}
use Rattle.tcap_station.proofs.MarkLemmas.{any-waits}
use Rattle.tcap_station.proofs.line.Line.is_any.Goals as goal

pub returns : goal.returns
returns g c =
    let line = c.args.self.now in
    c.is_some.ensures ∙ any-waits line.marks.first line.marks.others.items (line_outputs line) c.requires.marked
