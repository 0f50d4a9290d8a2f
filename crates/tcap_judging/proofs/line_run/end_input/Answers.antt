use Rattle.std.proofs.Common.{◌≡◌, ◌∙◌, ◌++◌, ◌&&◌, Bool, ap, subst, sym}
use Rattle.std.proofs.lemmas.Result.{err_from_is_err_and}
use Rattle.tcap_judging.proofs.EntryLists.{appends-as, front-as}
use Rattle.tcap_judging.specs.Entry.{line}
use Rattle.tcap_judging.specs.EntryText.{entry_text}
use Rattle.tcap_judging.specs.LineViews.{AreKept}
use Rattle.tcap_judging.specs.NameViews.{form_view}
use Rattle.tcap_judging.proofs.line_run.end_input.Goals as goal

pub returns-in_err-write_text : goal.returns-in_err-write_text
returns-in_err-write_text g c before under_way =
    let p = err_from_is_err_and c.from_residual-in_err-write_text.result c.from_residual-in_err-write_text.ensures.1 in
    let text = entry_text (form_view c.args.form) (line c.args.naming c.args.begun.now.number before) in
    let keeps : AreKept before c.as_slice-kept.result.now c.args.begun.now.is_long = subst (λ kept. AreKept before kept c.args.begun.now.is_long) (sym c.as_slice-kept.ensures.value) under_way.0 in
    let is_text : c.as_bytes.result.now ≡ text = c.as_bytes.ensures.value ∙ c.in_ok-last.ensures.text before keeps ∙ ap (λ t. t ++ text) c.new-text.ensures.bytes in
    rw (p.1, p.2) (front-as is_text c.in_err-write_text.ensures)

pub returns : goal.returns
returns g c before under_way =
    let text = entry_text (form_view c.args.form) (line c.args.naming c.args.begun.now.number before) in
    let keeps : AreKept before c.as_slice-kept.result.now c.args.begun.now.is_long = subst (λ kept. AreKept before kept c.args.begun.now.is_long) (sym c.as_slice-kept.ensures.value) under_way.0 in
    let is_text : c.as_bytes.result.now ≡ text = c.as_bytes.ensures.value ∙ c.in_ok-last.ensures.text before keeps ∙ ap (λ t. t ++ text) c.new-text.ensures.bytes in
    (appends-as (g.W.Write.contents c.args.writer.now) (g.W.Write.contents c.write_text.new.out) is_text c.in_ok-write_text.ensures, ap (λ (b : Bool). c.args.good && b) (c.in_ok-last.ensures.good before keeps))
