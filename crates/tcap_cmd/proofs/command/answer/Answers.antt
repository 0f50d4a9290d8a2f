use Rattle.std.proofs.Common.{◌∙◌, ap}
use Rattle.std.proofs.lemmas.Result.{err_from_is_err_and}
use Rattle.tcap_words.specs.Canonical.{canon_text_of, canon_is_good}
use Rattle.tcap_words.specs.Show.{show_text_of, check_text_of, show_is_good}
use Rattle.tcap_cmd.proofs.Answering.{IsText, text_answers, text_cut}
use Rattle.tcap_cmd.proofs.command.answer.Goals.{in-Show+in_ok-bytes_of-in-Show+in_ok-shown-in-Show, in-Check+in_ok-bytes_of-in-Check+in_ok-shown-in-Check, in-Canon+in_ok-bytes_of-in-Canon+in_ok-shown-in-Canon}
use Rattle.tcap_cmd.proofs.command.answer.Goals as goal
use Rattle.tcap_cmd.specs.CommandLine.{asked}

pub returns-in_err-write_text-clause-answered : goal.returns-in_err-write_text-clause-answered
returns-in_err-write_text-clause-answered g c =
    let p = err_from_is_err_and c.from_residual-in_err-write_text.result c.from_residual-in_err-write_text.ensures.1 in
    let had = g.R.Read.remaining c.args.reader.now in
    let shown = c.match-request.shown in
    let is_text : IsText (asked c.args.request) had had shown.text.items shown.good =
    elim c.match-request.branch [
      | in-Show+in_ok-bytes_of-in-Show+in_ok-shown-in-Show w ↦ rw (w.in-Show.is, w.shown-is) (record {
        of_hex = tt;
        bytes = w.in_ok-bytes_of-in-Show.field-0.items;
        is_input = w.in_ok-bytes_of-in-Show.ensures;
        is_text = w.in_ok-shown-in-Show.ensures.text ∙ ap show_text_of w.as_slice.ensures.value;
        verdict = w.in_ok-shown-in-Show.ensures.good ∙ ap show_is_good w.as_slice.ensures.value;
      })
      | in-Check+in_ok-bytes_of-in-Check+in_ok-shown-in-Check w ↦ rw (w.in-Check.is, w.shown-is) (record {
        of_hex = tt;
        bytes = w.in_ok-bytes_of-in-Check.field-0.items;
        is_input = w.in_ok-bytes_of-in-Check.ensures;
        is_text = w.in_ok-shown-in-Check.ensures.text ∙ ap check_text_of w.as_slice-in-Check.ensures.value;
        verdict = w.in_ok-shown-in-Check.ensures.good ∙ ap show_is_good w.as_slice-in-Check.ensures.value;
      })
      | in-Canon+in_ok-bytes_of-in-Canon+in_ok-shown-in-Canon w ↦ rw (w.in-Canon.is, w.shown-is) (record {
        of_hex = tt;
        bytes = w.in_ok-bytes_of-in-Canon.field-0.items;
        is_input = w.in_ok-bytes_of-in-Canon.ensures;
        is_text = w.in_ok-shown-in-Canon.ensures.text ∙ ap canon_text_of w.as_slice-in-Canon.ensures.value;
        verdict = w.in_ok-shown-in-Canon.ensures.good ∙ ap canon_is_good w.as_slice-in-Canon.ensures.value;
      })
    ] in
    rw (p.1, p.2) (text_cut _ _ _ _ _ c.as_slice-2.result.now shown.good (rw c.as_slice-2.ensures.value is_text) c.in_err-write_text.ensures)

pub returns-clause-answered : goal.returns-clause-answered
returns-clause-answered g c =
    let had = g.R.Read.remaining c.args.reader.now in
    let shown = c.match-request.shown in
    let is_text : IsText (asked c.args.request) had had shown.text.items shown.good =
    elim c.match-request.branch [
      | in-Show+in_ok-bytes_of-in-Show+in_ok-shown-in-Show w ↦ rw (w.in-Show.is, w.shown-is) (record {
        of_hex = tt;
        bytes = w.in_ok-bytes_of-in-Show.field-0.items;
        is_input = w.in_ok-bytes_of-in-Show.ensures;
        is_text = w.in_ok-shown-in-Show.ensures.text ∙ ap show_text_of w.as_slice.ensures.value;
        verdict = w.in_ok-shown-in-Show.ensures.good ∙ ap show_is_good w.as_slice.ensures.value;
      })
      | in-Check+in_ok-bytes_of-in-Check+in_ok-shown-in-Check w ↦ rw (w.in-Check.is, w.shown-is) (record {
        of_hex = tt;
        bytes = w.in_ok-bytes_of-in-Check.field-0.items;
        is_input = w.in_ok-bytes_of-in-Check.ensures;
        is_text = w.in_ok-shown-in-Check.ensures.text ∙ ap check_text_of w.as_slice-in-Check.ensures.value;
        verdict = w.in_ok-shown-in-Check.ensures.good ∙ ap show_is_good w.as_slice-in-Check.ensures.value;
      })
      | in-Canon+in_ok-bytes_of-in-Canon+in_ok-shown-in-Canon w ↦ rw (w.in-Canon.is, w.shown-is) (record {
        of_hex = tt;
        bytes = w.in_ok-bytes_of-in-Canon.field-0.items;
        is_input = w.in_ok-bytes_of-in-Canon.ensures;
        is_text = w.in_ok-shown-in-Canon.ensures.text ∙ ap canon_text_of w.as_slice-in-Canon.ensures.value;
        verdict = w.in_ok-shown-in-Canon.ensures.good ∙ ap canon_is_good w.as_slice-in-Canon.ensures.value;
      })
    ] in
    text_answers _ _ _ _ _ c.as_slice-2.result.now shown.good (rw c.as_slice-2.ensures.value is_text) c.in_ok-write_text.ensures
