use Rattle.std.proofs.Common.{◌∙◌}
use Rattle.tcap_play.specs.Pieces.{words_of}
use Rattle.tcap_lines.specs.TableViews.{table_view}
use Rattle.tcap_lines.proofs.WalkLemmas.{found-is, only-told, none-good, good_told, none_is}
use Rattle.tcap_lines.proofs.reading.line_fault.Goals as goal

pub returns-clause-found : goal.returns-clause-found
returns-clause-found c = found-is (table_view c.args.table.now) (words_of c.args.line.now) c.first_fault.result c.first_fault.ensures

pub returns-clause-only : goal.returns-clause-only
returns-clause-only c = λ found is. only-told (table_view c.args.table.now) (words_of c.args.line.now) found c.first_fault.result is c.first_fault.ensures

pub returns-clause-none : goal.returns-clause-none
returns-clause-none c = none-good (table_view c.args.table.now) (words_of c.args.line.now) c.first_fault.result c.first_fault.ensures

pub returns-clause-good : goal.returns-clause-good
returns-clause-good c = λ good. none_is c.first_fault.result (c.first_fault.ensures ∙ good_told (table_view c.args.table.now) (words_of c.args.line.now) good)
