use Rattle.std.proofs.Common.{rules, ◌≡◌, ◌++◌, ◌∙◌, false, length, nat_lt, if◌then◌else◌, subst, sym, true}
use Rattle.std.specs.Prelude.{string_bytes}
use Rattle.tcap_judging.proofs.ResyncCuts.{rest-from}
use Rattle.tcap_judging.proofs.ResyncSteps.{none-faults, none-stays}
use Rattle.tcap_judging.proofs.UnreadVerdicts.{unread_verdict}
use Rattle.tcap_judging.specs.EntryText.{message_text}
use Rattle.tcap_judging.specs.Label.{offset}
use Rattle.tcap_judging.specs.NameViews.{form_view}
use Rattle.tcap_judging.specs.Resync.{is_known, judged_of}
use Rattle.tcap_words.specs.Show.{show_is_good}
use Rattle.tcap_words.specs.Verdict.{message_limit, verdict_of}
use Rattle.tcap_words.specs.declared.verdict.Verdict.{Verdict}
use Rattle.tcap_judging.proofs.resync.add_none.Goals as goal

pub returns-then-not-is_known-clause-adds : goal.returns-then-not-is_known-clause-adds
returns-then-not-is_known-clause-adds g c =
    let none : is_known c.args.ends c.args.octets.now c.args.fault ≡ false = search rules in
    none-stays _ _ _ _ _ c.requires _ none

pub returns-clause-adds : goal.returns-clause-adds
returns-clause-adds g c =
    let octets = c.args.octets.now in
    let known : is_known c.args.ends octets c.args.fault ≡ true = search rules in
    let was = string_bytes c.args.text.now in
    let judged : c.judged_so-judged.result.octets.now ≡ judged_of octets c.args.fault = c.judged_so-judged.ensures ∙ c.judged_of-told.ensures in
    let text : string_bytes c.add_message.new.text ≡ was ++ message_text (form_view c.args.form) (offset c.args.offset) (judged_of octets c.args.fault) = subst (λ j. string_bytes c.add_message.new.text ≡ was ++ message_text (form_view c.args.form) (offset c.args.offset) j) judged c.in_ok-good.ensures.text in
    let good : c.in_ok-good.good ≡ show_is_good (judged_of octets c.args.fault) = subst (λ j. c.in_ok-good.good ≡ show_is_good j) judged c.in_ok-good.ensures.good in
    none-faults _ _ _ octets c.args.fault c.requires _ _ _ _ (rest-from octets 1) known text good

pub judged_so-judged-requires : goal.judged_so-judged-requires
judged_so-judged-requires g c =
    let told = c.judged_of-told.ensures in
    c.unread_verdict.ensures ∙ subst (λ j. (if nat_lt message_limit (length j) then Verdict.TooLong else Verdict.BadlyFormatted) ≡ verdict_of j) (sym told) (unread_verdict c.args.octets.now c.args.fault c.requires)
