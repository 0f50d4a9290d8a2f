use Rattle.std.proofs.Common.{arith, refl, rules, ◌≡◌, ◌++◌, ◌∙◌, ap, length, subst, sym}
use Rattle.std.specs.Prelude.{string_bytes}
use Rattle.ber_core.specs.Stream.{cut_of, with_message}
use Rattle.tcap_judging.proofs.ResyncCuts.{rest-from}
use Rattle.tcap_judging.proofs.StreamCuts.{none-left, one-more, stopped}
use Rattle.tcap_judging.specs.EntryText.{message_text}
use Rattle.tcap_judging.specs.Label.{offset}
use Rattle.tcap_judging.specs.NameViews.{form_view}
use Rattle.tcap_words.specs.Show.{show_is_good}
use Rattle.tcap_judging.proofs.stream_cut.add_messages.Goals as goal

pub returns-clause-adds : goal.returns-clause-adds
returns-clause-adds g c = stopped _ _ _ _ _ _ _ _ c.loop-element.invariant.1 _ (none-left c.loop-element.rest.now (search (rules, arith)))

pub loop-element-preserved : goal.loop-element-preserved
loop-element-preserved g c =
    let cut = c.in-Ok.ensures in
    let rest = c.loop-element.rest.now in
    let m = c.in-Ok.element.whole.now in
    let told = c.in_ok-good.ensures in
    let same = c.judge.ensures in
    let behind = rest-from rest (length m) in
    let text = subst (λ j. string_bytes c.add_message.new.text ≡ string_bytes c.loop-element.text ++ message_text (form_view c.args.form) (offset c.loop-element.place) j) same told.text in
    let good = told.good ∙ ap show_is_good same in
    (omega (arith, c.loop-element.invariant.0, cut.1, ap length behind), one-more _ _ _ _ _ _ _ _ c.loop-element.invariant.1 _ _ _ _ _ (cut.4 ∙ ap (λ w. with_message m (cut_of w)) (sym behind)) refl text good)
