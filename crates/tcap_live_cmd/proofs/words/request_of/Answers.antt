use Rattle.std.proofs.Common.{◌∙◌}
use Rattle.clap.specs.Words.{first_of, first_value, found_of, rows_of}
use Rattle.clap.proofs.WalkLemmas.{first_value-rows}
use Rattle.tcap_live_cmd.proofs.Options.{asked-same}
use Rattle.tcap_live_cmd.proofs.words.request_of.Goals as goal

pub returns-clause-request : goal.returns-clause-request
returns-clause-request c =
    let found = found_of c.args.matches.now in
    c.request_by.ensures.request ∙ asked-same (first_value found) (λ name. first_of name (rows_of found)) (first_value-rows found)
