use Rattle.std.proofs.Common.{rules, ◌≡◌, ◌∙◌, ◌++◌, ◌&&◌, Bool, ap, false}
use Rattle.std.proofs.lemmas.Result.{err_from_is_err_and}
use Rattle.tcap_judging.proofs.EntryLists.{appends-as, front-as}
use Rattle.tcap_judging.proofs.ResyncGoing.{end-tells, none-told}
use Rattle.tcap_judging.specs.EntryText.{entries_text}
use Rattle.tcap_judging.specs.Resync.{Tells}
use Rattle.tcap_judging.specs.ResyncSteps.{has_more}
use Rattle.tcap_judging.specs.NameViews.{form_view}
use Rattle.tcap_judging.proofs.resync_run.end_at.Goals as goal

pub returns-then-not-has_more : goal.returns-then-not-has_more
returns-then-not-has_more g c =
    let none : has_more c.args.place c.args.octets.now ≡ false = search rules in
    none-told _ _ _ _ _ none

pub returns-in_err-write_text : goal.returns-in_err-write_text
returns-in_err-write_text g c =
    let p = err_from_is_err_and c.from_residual-in_err-write_text.result c.from_residual-in_err-write_text.ensures.1 in
    let adds = c.in_ok-done.ensures.adds in
    let is_text : c.as_bytes.result.now ≡ entries_text (form_view c.args.form) adds.made = c.as_bytes.ensures.value ∙ adds.added ∙ ap (λ t. t ++ entries_text (form_view c.args.form) adds.made) c.new-text.ensures.bytes in
    let tells : Tells _ c.args.place c.args.octets.now adds.made = end-tells _ _ _ _ _ adds.leads in
    rw (p.1, p.2) (record { made = adds.made; tells = tells; written = front-as is_text c.in_err-write_text.ensures })

pub returns : goal.returns
returns g c =
    let adds = c.in_ok-done.ensures.adds in
    let is_text : c.as_bytes.result.now ≡ entries_text (form_view c.args.form) adds.made = c.as_bytes.ensures.value ∙ adds.added ∙ ap (λ t. t ++ entries_text (form_view c.args.form) adds.made) c.new-text.ensures.bytes in
    let tells : Tells _ c.args.place c.args.octets.now adds.made = end-tells _ _ _ _ _ adds.leads in
    record { made = adds.made; tells = tells; written = appends-as (g.W.Write.contents c.args.writer.now) (g.W.Write.contents c.write_text.new.out) is_text c.in_ok-write_text.ensures; verdict = ap (λ (b : Bool). c.args.good && b) adds.verdict }
