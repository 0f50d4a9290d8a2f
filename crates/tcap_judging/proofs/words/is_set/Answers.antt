use Rattle.std.proofs.Common.{◌≡◌, ◌∙◌, Some, None, ap}
use Rattle.clap.proofs.WalkLemmas.{first_value-rows}
use Rattle.clap.specs.Words.{found_of, rows_of, first_of}
use Rattle.tcap_judging.specs.CommandLine.{is_true_text}
use Rattle.tcap_judging.proofs.words.is_set.Goals as goal

pub returns-in-Some : goal.returns-in-Some
returns-in-Some c =
    let found = found_of c.args.matches.now in
    let first : Some c.in-Some.text.now ≡ first_of c.args.name.now (rows_of found) = c.in-Some.ensures ∙ first_value-rows found c.args.name.now in
    c.eq.ensures ∙ ap is_true_text first

pub returns-in-None : goal.returns-in-None
returns-in-None c =
    let found = found_of c.args.matches.now in
    let first : None ≡ first_of c.args.name.now (rows_of found) = c.in-None.ensures ∙ first_value-rows found c.args.name.now in
    ap is_true_text first
