-- The report on stories: as lines, or in JUnit's XML.
use Rattle.std.specs.Prelude.{ℕ, nat_le, ◌==◌, ◌&&◌, ◌||◌, List, [], ◌∷◌, ◌++◌, codes, map, if◌then◌else◌}
use Rattle.std.specs.Fmt.{decimal}
use Rattle.tcap_story_cmd.specs.declared.report_text.Report.{Report}
use Rattle.tcap_story_cmd.specs.declared.report_text.Report.TheVariants as report
use Rattle.tcap_story_cmd.specs.declared.unread.Unread.{Unread}
use Rattle.tcap_story_cmd.specs.declared.unread.Unread.TheVariants as unread
use Rattle.tcap_story_cmd.specs.declared.verdict.Verdict.{Verdict}
use Rattle.tcap_story_cmd.specs.declared.verdict.Verdict.TheVariants as verdict

-- What stands before all stories (own; XML 1.0, and JUnit's test suites).
abbrev pub front_of : Report → List ℕ
front_of report.Lines = []
front_of report.JUnit = codes "<?xml version=\"1.0\" encoding=\"UTF-8\"?>\n<testsuites>\n"

-- An octet of a name as it is told: `?` in place of a control character, which could forge a line (own).
abbrev pub plain : ℕ → ℕ
plain octet = if nat_le 32 octet && nat_le octet 126 || nat_le 128 octet then octet else 63

-- A name as it is told (own).
abbrev pub plain_name : List ℕ → List ℕ
plain_name name = map plain name

-- How an octet is written in XML: a line feed and the visible characters of ASCII as they stand but for those that
-- mark up, any other octet as `?` (XML 1.0, character data and markup).
abbrev pub spelled : ℕ → List ℕ
spelled octet =
    if octet == 38 then codes "&amp;"
    else if octet == 60 then codes "&lt;"
    else if octet == 62 then codes "&gt;"
    else if octet == 34 then codes "&quot;"
    else if octet == 10 || (nat_le 32 octet && nat_le octet 126) then octet ∷ []
    else codes "?"

-- Octets as XML writes them (own).
abbrev pub escaped : List ℕ → List ℕ
escaped [] = []
escaped (octet ∷ octets) = spelled octet ++ escaped octets

-- How many tests, failures and errors a test suite of one story has, by its verdict (JUnit's test suites).
abbrev pub suite_counts : Verdict → List ℕ
suite_counts verdict.Passed = codes "\" tests=\"1\" failures=\"0\" errors=\"0\">\n"
suite_counts verdict.Failed = codes "\" tests=\"1\" failures=\"1\" errors=\"0\">\n"
suite_counts verdict.NotRead = codes "\" tests=\"1\" failures=\"0\" errors=\"1\">\n"

-- What stands before the text of a test case: it is output, a failure or an error (JUnit's test cases).
abbrev pub opening_mark : Verdict → List ℕ
opening_mark verdict.Passed = codes "<system-out>"
opening_mark verdict.Failed = codes "<failure message=\"failed\">"
opening_mark verdict.NotRead = codes "<error message=\"not read\">"

-- What stands behind it (JUnit's test cases).
abbrev pub closing_mark : Verdict → List ℕ
closing_mark verdict.Passed = codes "</system-out>\n</testcase>\n</testsuite>\n"
closing_mark verdict.Failed = codes "</failure>\n</testcase>\n</testsuite>\n"
closing_mark verdict.NotRead = codes "</error>\n</testcase>\n</testsuite>\n"

-- The front of a test suite of this name, by the verdict (own; JUnit's test suites).
abbrev pub suite_front : List ℕ → Verdict → List ℕ
suite_front name v = codes "<testsuite name=\"" ++ (name ++ suite_counts v)

-- The front of a test case of this name (own; JUnit's test cases).
abbrev pub case_front : List ℕ → List ℕ
case_front name = codes "<testcase classname=\"tcap_story\" name=\"" ++ (name ++ codes "\">\n")

-- The text of a test case, and the ends of it and of its test suite (own; JUnit's test cases).
abbrev pub case_text : Verdict → List ℕ → List ℕ
case_text v told = opening_mark v ++ (told ++ closing_mark v)

-- A test suite of this name with one test case of this name and text (own; JUnit's test suites).
abbrev pub suite_parts : List ℕ → Verdict → List ℕ → List ℕ
suite_parts name v told = suite_front name v ++ (case_front name ++ case_text v told)

-- A story of this name as a test suite, with this verdict and what is told of it (own; JUnit's test suites).
abbrev pub suite_words : List ℕ → Verdict → List ℕ → List ℕ
suite_words name v told = suite_parts (escaped name) v (escaped told)

-- The words of a verdict, the last of a story's report (own).
abbrev pub verdict_words : Verdict → List ℕ
verdict_words verdict.Passed = codes "passed\n"
verdict_words verdict.Failed = codes "failed\n"
verdict_words verdict.NotRead = codes "not read\n"

-- A story of this name as lines, with this verdict and what is told of it (own).
abbrev pub lines_words : List ℕ → Verdict → List ℕ → List ℕ
lines_words name v told = codes "story " ++ (name ++ (codes "\n" ++ (told ++ verdict_words v)))

-- The report on a story (own).
abbrev pub reported : Report → List ℕ → Verdict → List ℕ → List ℕ
reported report.Lines name v told = lines_words (plain_name name) v told
reported report.JUnit name v told = suite_words (plain_name name) v told

-- Why a story was not read (own).
abbrev pub unread_words : Unread → List ℕ
unread_words unread.NotOpened = codes "can't be opened\n"
unread_words unread.ReadFailed = codes "read failed\n"
unread_words unread.TooLong = codes "input too long\n"

-- A number and words (own).
abbrev pub count_words : ℕ → List ℕ → List ℕ
count_words count words = decimal count ++ words

-- How many stories have passed, how many have failed, and how many were not read (own).
abbrev pub counts_words : ℕ → ℕ → ℕ → List ℕ
counts_words passed failed unread =
    count_words passed (codes " passed, ") ++ (count_words failed (codes " failed, ") ++ count_words unread (codes " not read\n"))

-- What stands behind all stories, of which so many have passed, have failed, and were not read (own).
abbrev pub end_of : Report → ℕ → ℕ → ℕ → List ℕ
end_of report.Lines passed failed unread = counts_words passed failed unread
end_of report.JUnit passed failed unread = codes "</testsuites>\n"
