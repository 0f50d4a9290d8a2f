use Rattle.std.proofs.Common.{Err, map}
use Rattle.tcap_live_cmd.proofs.Options.{refused-words}
use Rattle.tcap_live_cmd.proofs.command.run_command.Goals as goal

pub returns-in-Err-clause-gave : goal.returns-in-Err-clause-gave
returns-in-Err-clause-gave g c =
    (Err c.in-Err.refusal, c.report-in-Err.ensures, refused-words (map (λ w. w.now) c.args.words.now) c.in-Err.refusal (g.R.Read.remaining c.args.reader.now) (g.W.Write.contents c.args.out.now) c.in-Err.ensures)
