-- Stories one after the other: their texts, what is told of them, and the verdict on all.
use Rattle.std.specs.Prelude.{ℕ, Bool, true, false, ◌==◌, List, [], ◌∷◌, ◌++◌, count_by, Result, Ok, Err, if◌then◌else◌}
use Rattle.tcap_play.specs.Play.{Printed}
use Rattle.tcap_stories.specs.Story.{told_story}
use Rattle.tcap_story_cmd.specs.Report.{end_of, front_of, reported, unread_words}
use Rattle.tcap_story_cmd.specs.declared.report_text.Report.{Report}
use Rattle.tcap_story_cmd.specs.declared.unread.Unread.{Unread}
use Rattle.tcap_story_cmd.specs.declared.verdict.Verdict.{Verdict}
use Rattle.tcap_story_cmd.specs.declared.verdict.Verdict.TheVariants as verdict

-- A story: the name of its input, and its text, or why that was not read (own).
pub record Entry : Type 0 where
  pub name : List ℕ
  pub input : Result (List ℕ) Unread

-- The verdict on a story that was read (own).
abbrev pub verdict_if : Bool → Verdict
verdict_if true = verdict.Passed
verdict_if false = verdict.Failed

-- The report on a story of which that is told (own).
abbrev pub report_on : Report → List ℕ → Printed → List ℕ
report_on report name story = reported report name (verdict_if story.good) story.text

-- The report on a story, by its text or why that was not read (own).
abbrev pub report_by : Report → List ℕ → Result (List ℕ) Unread → List ℕ
report_by report name (Ok script) = report_on report name (told_story script)
report_by report name (Err why) = reported report name verdict.NotRead (unread_words why)

-- The verdict on a story, by its text or why that was not read (own).
abbrev pub verdict_by : Result (List ℕ) Unread → Verdict
verdict_by (Ok script) = verdict_if (told_story script).good
verdict_by (Err why) = verdict.NotRead

-- The reports on stories, in their order (own).
abbrev pub reports : Report → List Entry → List ℕ
reports report [] = []
reports report (e ∷ es) = report_by report e.name e.input ++ reports report es

-- Whether two verdicts are the same (own).
abbrev pub same_verdict : Verdict → Verdict → Bool
same_verdict verdict.Passed verdict.Passed = true
same_verdict verdict.Passed verdict.Failed = false
same_verdict verdict.Passed verdict.NotRead = false
same_verdict verdict.Failed verdict.Passed = false
same_verdict verdict.Failed verdict.Failed = true
same_verdict verdict.Failed verdict.NotRead = false
same_verdict verdict.NotRead verdict.Passed = false
same_verdict verdict.NotRead verdict.Failed = false
same_verdict verdict.NotRead verdict.NotRead = true

-- On how many stories the verdict is this one (own).
abbrev pub many : Verdict → List Entry → ℕ
many v es = count_by (λ e. same_verdict v (verdict_by e.input)) es

-- The verdict on stories of which so many have failed, and so many were not read (own).
abbrev pub overall : ℕ → ℕ → Verdict
overall failed unread =
    if unread == 0 then (if failed == 0 then verdict.Passed else verdict.Failed) else verdict.NotRead

-- The verdict on all: they have passed; or one has failed, and all were read; or one was not read (own).
abbrev pub verdict_on : List Entry → Verdict
verdict_on es = overall (many verdict.Failed es) (many verdict.NotRead es)

-- What is told of stories (own).
abbrev pub told_stories : Report → List Entry → List ℕ
told_stories report es =
    front_of report ++ (reports report es ++ end_of report (many verdict.Passed es) (many verdict.Failed es) (many verdict.NotRead es))
