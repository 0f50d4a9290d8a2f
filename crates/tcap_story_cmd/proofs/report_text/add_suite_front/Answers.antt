use Rattle.std.proofs.Common.{◌∙◌, ◌++◌, ap, codes}
use Rattle.tcap_story_cmd.specs.Report.{suite_counts}
use Rattle.tcap_words.proofs.CallerLemmas.{all_three}
use Rattle.tcap_story_cmd.proofs.report_text.add_suite_front.Goals as goal

pub returns : goal.returns
returns g c =
    all_three c.args.text.now.items c.extend_from_slice.new.self.items c.extend_from_slice-2.new.self.items c.extend_from_slice-3.new.self.items
    (codes "<testsuite name=\"") c.args.name.now (suite_counts c.args.verdict)
    c.in_ok-extend_from_slice.ensures.items
    c.in_ok-extend_from_slice-2.ensures.items
    (c.in_ok-extend_from_slice-3.ensures.items ∙ ap (λ w. c.extend_from_slice-2.new.self.items ++ w) (c.as_bytes.ensures.value ∙ c.suite_counts.ensures))
