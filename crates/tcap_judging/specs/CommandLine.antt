-- The words of the command, as `clap` takes them: what they ask for.
use Rattle.std.specs.Prelude.{◌≡◌, ◌≢◌, ◌⊎◌, ◌&&◌, ◌||◌, Bool, true, false, List, [], Option, Some, None, codes, bytes_eq, not, if◌then◌else◌}
use Rattle.clap.specs.Words.{App, Rule, Row, Text, new_app, new_rule, with_rule, fault_of, first_of}
use Rattle.clap.specs.Simple.{matches_of}
use Rattle.clap.specs.declared.builder.ArgAction.TheVariants.{Set, SetTrue}
use Rattle.tcap_judging.specs.declared.form.Layout.{Layout}
use Rattle.tcap_judging.specs.declared.form.Layout.TheVariants as layout
use Rattle.tcap_judging.specs.declared.naming.Naming.{Naming}
use Rattle.tcap_judging.specs.declared.naming.Naming.TheVariants.{Marked, All}
use Rattle.tcap_judging.specs.declared.request.Request.{Request}
use Rattle.tcap_judging.specs.declared.request.Request.TheVariants.{Help, Version, Lines, Stream, Resync}

-- An option without a value: `--` and its name (own).
abbrev pub option_rule : Text → Rule
option_rule name = record (new_rule name) { long = Some name; action = Some SetTrue }

-- The option with the file of names (own).
abbrev pub names_rule : Rule
names_rule = record (new_rule (codes "names")) { long = Some (codes "names"); action = Some Set }

-- The command without options; `--help` is one of its own (own).
abbrev pub bare_app : App
bare_app = record (new_app (codes "tcap_judge")) {
  top = record (new_app (codes "tcap_judge")).top
      { disable_help_flag = true; no_binary_name = true };
}

-- The command with the first of its options (own).
abbrev pub reading_app : App
reading_app = with_rule (with_rule (with_rule bare_app (option_rule (codes "help"))) (option_rule (codes "version")))
    (option_rule (codes "stream"))

-- The command with those that say what is read (own).
abbrev pub line_app : App
line_app = with_rule reading_app (option_rule (codes "named"))

-- The command with its options (own).
unfoldable pub judge_app : App
judge_app = with_rule (with_rule (with_rule (with_rule line_app (option_rule (codes "resync")))
    (option_rule (codes "explain"))) (option_rule (codes "json"))) names_rule

-- Whether the text of an option says that it was given (own).
abbrev pub is_true_text : Option Text → Bool
is_true_text None = false
is_true_text (Some text) = bytes_eq text (codes "true")

-- Whether an option was given (own).
abbrev pub is_set : Text → List Row → Bool
is_set name rows = is_true_text (first_of name rows)

-- How the options that were given ask to print: in JSON, or else with marks (own).
abbrev pub layout_by : List Row → Layout
layout_by rows =
    if is_set (codes "json") rows then layout.Json
    else if is_set (codes "explain") rows then layout.Marked
    else layout.Plain

-- Which first words of lines the options that were given ask to take for names (own).
abbrev pub naming_by : List Row → Naming
naming_by rows = if is_set (codes "named") rows then All else Marked

-- What the options that were given ask for: help goes first, then the version, then a stream that goes on behind its
-- faults (own).
abbrev pub request_by : List Row → Request
request_by rows =
    if is_set (codes "help") rows then Help
    else if is_set (codes "version") rows then Version
    else if is_set (codes "resync") rows then Resync (layout_by rows)
    else if is_set (codes "stream") rows then Stream (layout_by rows)
    else Lines (layout_by rows) (naming_by rows)

-- The options ask for something that is read: neither for help nor for the version (own).
abbrev pub is_reading : List Row → Bool
is_reading rows = not (is_set (codes "help") rows || is_set (codes "version") rows)

-- The file of names that the options tell, where something is read (own).
abbrev pub names_by : List Row → Option Text
names_by rows = if is_reading rows then first_of (codes "names") rows else None

-- The options ask for a stream (own).
abbrev pub is_streamed : List Row → Bool
is_streamed rows = is_set (codes "stream") rows || is_set (codes "resync") rows

-- The options ask for the names of lines in a stream, which has none (own).
abbrev pub is_mixed : List Row → Bool
is_mixed rows = is_reading rows && (is_set (codes "named") rows && is_streamed rows)

-- `clap` refuses nothing in the words, they ask for no lines in a stream, and this is what they ask for (own).
abbrev pub Ask : List Text → Request → Type 0
Ask words request = (fault_of judge_app words ≡ []) × (is_mixed (matches_of judge_app words) ≡ false)
    × (request ≡ request_by (matches_of judge_app words))

-- This is the file of names that the words tell (own).
abbrev pub AskNames : List Text → Option Text → Type 0
AskNames words names = names ≡ names_by (matches_of judge_app words)

-- `clap` refuses something in the words, or they ask for lines in a stream (own).
abbrev pub AskNothing : List Text → Type 0
AskNothing words = (fault_of judge_app words ≢ []) ⊎ (is_mixed (matches_of judge_app words) ≡ true)
