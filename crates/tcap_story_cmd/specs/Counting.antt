-- How many stories have passed, have failed, and were not read.
use Rattle.std.specs.Prelude.{◌≡◌, ◌+◌, List}
use Rattle.tcap_story_cmd.specs.Stories.{Entry, many}
use Rattle.tcap_story_cmd.specs.declared.tally.Tally.{Tally}
use Rattle.tcap_story_cmd.specs.declared.verdict.Verdict.{Verdict}
use Rattle.tcap_story_cmd.specs.declared.verdict.Verdict.TheVariants as verdict

-- The counts of one story more, with this verdict (own).
abbrev pub counted : Verdict → Tally → Tally
counted verdict.Passed tally = record tally { passed = tally.passed + 1 }
counted verdict.Failed tally = record tally { failed = tally.failed + 1 }
counted verdict.NotRead tally = record tally { not_read = tally.not_read + 1 }

-- These are the counts of stories (own).
pub record AreCounts (tally : Tally) (es : List Entry) : Type 0 where
  pub passed : tally.passed ≡ many verdict.Passed es
  pub failed : tally.failed ≡ many verdict.Failed es
  pub not_read : tally.not_read ≡ many verdict.NotRead es
