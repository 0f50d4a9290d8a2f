use Rattle.std.proofs.Common.{◌≡◌, ◌∙◌, false, sym, true}
use Rattle.tcap_judging.proofs.ResyncCuts.{rest-from}
use Rattle.tcap_judging.proofs.ResyncSteps.{first-doubts, first-reads}
use Rattle.tcap_judging.specs.NameViews.{form_view}
use Rattle.tcap_words.specs.Show.{show_is_good}
use Rattle.tcap_judging.proofs.resync.add_first.Goals as goal

pub returns-then-good-clause-adds : goal.returns-then-good-clause-adds
returns-then-good-clause-adds g c = λ ends.
    let good : true ≡ show_is_good c.args.judged.octets.now = sym c.if-good.true ∙ c.in_ok-good.ensures.good in
    let text = c.in_ok-good.ensures.text in
    first-reads (form_view c.args.form) ends _ _ c.args.judged.octets.now c.requires.is_first c.requires.sizes.0 c.requires.sizes.1 _ _ _ (rest-from c.args.octets.now _) text good

pub returns-clause-adds : goal.returns-clause-adds
returns-clause-adds g c = λ ends.
    let bad : false ≡ show_is_good c.args.judged.octets.now = sym c.if-good.false ∙ c.in_ok-good.ensures.good in
    let text = c.in_ok-good.ensures.text in
    first-doubts (form_view c.args.form) ends _ _ c.args.judged.octets.now c.requires.is_first c.requires.sizes.0 c.requires.sizes.1 _ _ _ (rest-from c.args.octets.now 1) text bad
