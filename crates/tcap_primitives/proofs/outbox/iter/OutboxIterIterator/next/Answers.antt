use Rattle.std.proofs.Common.{sym, arith}
use Rattle.std.proofs.lemmas.Grind.{elements}
use Rattle.tcap_primitives.specs.OutboxViews.{output_ref_view}
use Rattle.tcap_primitives.proofs.OutboxRecords.{next_left}
use Rattle.tcap_primitives.proofs.outbox.iter.OutboxIterIterator.next.Goals as goal

pub returns-clause-steps : goal.returns-clause-steps
returns-clause-steps g c =
    next_left c.args.self.now.outbox.now.outputs c.args.self.now.index (output_ref_view c.in_ok-output.output) (sym c.in_ok-output.ensures)

pub returns-in_err-output-clause-steps : goal.returns-in_err-output-clause-steps
returns-in_err-output-clause-steps g c = grind (arith, elements)
