use Rattle.std.proofs.Common.{◌≡◌, codes, ◌∙◌, Some, None}
use Rattle.clap.specs.Words.{found_of, rows_of, subcommand_rows_of, first_of}
use Rattle.clap.proofs.WalkLemmas.{first_value-rows}
use Rattle.tcap_cmd.proofs.WordRows.{pair_of, shown_by, checked_by, rewritten_by, played_by, streamed_by}
use Rattle.tcap_cmd.proofs.words.request_of.Goals as goal

pub returns-in_err-get_str-in-show : goal.returns-in_err-get_str-in-show
returns-in_err-get_str-in-show c =
    let rows = rows_of (found_of c.in_ok-name.inner.now) in
    let found : subcommand_rows_of c.args.matches.now ≡ Some (c.in_ok-name.name.now, rows) = pair_of _ _ _ c.in_ok-name.name.now rows c.in_ok-name.ensures.name c.in_ok-name.ensures.rows in
    let first : None ≡ first_of (codes "hex") rows = c.in_err-get_str-in-show.ensures ∙ first_value-rows (found_of c.in_ok-name.inner.now) (codes "hex") in
    rw c.from_residual-in_err-get_str-in-show.ensures (shown_by _ c.in_ok-name.name.now rows None found c.in-show.is first)

pub returns-in_ok-get_str-in-show : goal.returns-in_ok-get_str-in-show
returns-in_ok-get_str-in-show c =
    let rows = rows_of (found_of c.in_ok-name.inner.now) in
    let found : subcommand_rows_of c.args.matches.now ≡ Some (c.in_ok-name.name.now, rows) = pair_of _ _ _ c.in_ok-name.name.now rows c.in_ok-name.ensures.name c.in_ok-name.ensures.rows in
    let first : Some c.in_ok-get_str-in-show.field-0.now ≡ first_of (codes "hex") rows = c.in_ok-get_str-in-show.ensures ∙ first_value-rows (found_of c.in_ok-name.inner.now) (codes "hex") in
    shown_by _ c.in_ok-name.name.now rows (Some c.in_ok-get_str-in-show.field-0.now) found c.in-show.is first

pub returns-in_err-get_str-in-check : goal.returns-in_err-get_str-in-check
returns-in_err-get_str-in-check c =
    let rows = rows_of (found_of c.in_ok-name.inner.now) in
    let found : subcommand_rows_of c.args.matches.now ≡ Some (c.in_ok-name.name.now, rows) = pair_of _ _ _ c.in_ok-name.name.now rows c.in_ok-name.ensures.name c.in_ok-name.ensures.rows in
    let first : None ≡ first_of (codes "hex") rows = c.in_err-get_str-in-check.ensures ∙ first_value-rows (found_of c.in_ok-name.inner.now) (codes "hex") in
    rw c.from_residual-in_err-get_str-in-check.ensures (checked_by _ c.in_ok-name.name.now rows None found c.in-check.is first)

pub returns-in_ok-get_str-in-check : goal.returns-in_ok-get_str-in-check
returns-in_ok-get_str-in-check c =
    let rows = rows_of (found_of c.in_ok-name.inner.now) in
    let found : subcommand_rows_of c.args.matches.now ≡ Some (c.in_ok-name.name.now, rows) = pair_of _ _ _ c.in_ok-name.name.now rows c.in_ok-name.ensures.name c.in_ok-name.ensures.rows in
    let first : Some c.in_ok-get_str-in-check.field-0.now ≡ first_of (codes "hex") rows = c.in_ok-get_str-in-check.ensures ∙ first_value-rows (found_of c.in_ok-name.inner.now) (codes "hex") in
    checked_by _ c.in_ok-name.name.now rows (Some c.in_ok-get_str-in-check.field-0.now) found c.in-check.is first

pub returns-in_err-get_str-in-canon : goal.returns-in_err-get_str-in-canon
returns-in_err-get_str-in-canon c =
    let rows = rows_of (found_of c.in_ok-name.inner.now) in
    let found : subcommand_rows_of c.args.matches.now ≡ Some (c.in_ok-name.name.now, rows) = pair_of _ _ _ c.in_ok-name.name.now rows c.in_ok-name.ensures.name c.in_ok-name.ensures.rows in
    let first : None ≡ first_of (codes "hex") rows = c.in_err-get_str-in-canon.ensures ∙ first_value-rows (found_of c.in_ok-name.inner.now) (codes "hex") in
    rw c.from_residual-in_err-get_str-in-canon.ensures (rewritten_by _ c.in_ok-name.name.now rows None found c.in-canon.is first)

pub returns-in_ok-get_str-in-canon : goal.returns-in_ok-get_str-in-canon
returns-in_ok-get_str-in-canon c =
    let rows = rows_of (found_of c.in_ok-name.inner.now) in
    let found : subcommand_rows_of c.args.matches.now ≡ Some (c.in_ok-name.name.now, rows) = pair_of _ _ _ c.in_ok-name.name.now rows c.in_ok-name.ensures.name c.in_ok-name.ensures.rows in
    let first : Some c.in_ok-get_str-in-canon.field-0.now ≡ first_of (codes "hex") rows = c.in_ok-get_str-in-canon.ensures ∙ first_value-rows (found_of c.in_ok-name.inner.now) (codes "hex") in
    rewritten_by _ c.in_ok-name.name.now rows (Some c.in_ok-get_str-in-canon.field-0.now) found c.in-canon.is first

pub returns-in-play : goal.returns-in-play
returns-in-play c =
    let rows = rows_of (found_of c.in_ok-name.inner.now) in
    let found : subcommand_rows_of c.args.matches.now ≡ Some (c.in_ok-name.name.now, rows) = pair_of _ _ _ c.in_ok-name.name.now rows c.in_ok-name.ensures.name c.in_ok-name.ensures.rows in
    played_by _ c.in_ok-name.name.now rows found c.in-play.is

pub returns-in-stream : goal.returns-in-stream
returns-in-stream c =
    let rows = rows_of (found_of c.in_ok-name.inner.now) in
    let found : subcommand_rows_of c.args.matches.now ≡ Some (c.in_ok-name.name.now, rows) = pair_of _ _ _ c.in_ok-name.name.now rows c.in_ok-name.ensures.name c.in_ok-name.ensures.rows in
    streamed_by _ c.in_ok-name.name.now rows found c.in-stream.is
