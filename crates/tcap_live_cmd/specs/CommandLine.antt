-- The words of the command, as `clap` takes them: which ask for something, and for what.
use Rattle.std.specs.Prelude.{◌≡◌, ◌⊎◌, ℕ, nat_le, ◌&&◌, Bool, true, false, List, [], Option, Some, None, codes, bytes_eq, option_map, if◌then◌else◌}
use Rattle.clap.specs.Words.{App, Rule, Row, Text, new_app, new_rule, with_rule, fault_of, matches_of, first_of}
use Rattle.clap.specs.declared.builder.ArgAction.TheVariants.{Set, SetTrue}
use Rattle.ber_core.specs.Options.{◌>>=◌}
use Rattle.tcap_engine.specs.Limits.{AreLimits, most_dialogues}
use Rattle.tcap_invocation.specs.Stage.{moment_limit}
use Rattle.tcap_model.specs.Histories.History.{Start}
use Rattle.tcap_living.specs.declared.format.Format.{Format}
use Rattle.tcap_living.specs.declared.format.Format.TheVariants as shape
use Rattle.tcap_play.specs.Numbers.{number_up_to}
use Rattle.tcap_live_cmd.specs.declared.request.Request.{Request}
use Rattle.tcap_live_cmd.specs.declared.request.Request.TheVariants as request
use Rattle.tcap_live_cmd.specs.declared.request.Settings.{Settings}

-- An option with a value: its name behind two dashes (own).
abbrev pub option_rule : Text → Rule
option_rule name = record (new_rule name) { long = Some name; action = Some Set }

-- An option without one (own).
abbrev pub flag_rule : Text → Rule
flag_rule name = record (new_rule name) { long = Some name; action = Some SetTrue }

-- The command without its options: `clap` adds no `--help` of its own (own).
abbrev pub bare_app : App
bare_app = record (new_app (codes "tcap_live")) { top = record (new_app (codes "tcap_live")).top { disable_help_flag = true; no_binary_name = true } }

-- The command with the options that set limits (own).
abbrev pub app_of_limits : App
app_of_limits = with_rule (with_rule (with_rule bare_app (option_rule (codes "dialogues"))) (option_rule (codes "reject"))) (option_rule (codes "idle"))

-- And with those that set where the counters start (own).
abbrev pub app_of_counters : App
app_of_counters = with_rule (with_rule app_of_limits (option_rule (codes "first-dialogue"))) (option_rule (codes "first-number"))

-- And with the one that sets the format of the answers (own).
abbrev pub app_of_format : App
app_of_format = with_rule app_of_counters (flag_rule (codes "json"))

-- The command `tcap_live` (own).
abbrev pub live_app : App
live_app = with_rule (with_rule app_of_format (flag_rule (codes "help"))) (flag_rule (codes "version"))

-- What words ask for (own).
pub data Asked : Type 0 where
  -- an engine that starts so, by the lines on standard input, answered in this format
  run : (format : Format) (start : Start) → Asked
  -- the text of `--help`
  help : Asked
  -- the text of `--version`
  version : Asked

-- A number where it is no less and no more than so much (own).
abbrev pub within : ℕ → ℕ → ℕ → Option ℕ
within least most n = if nat_le least n && nat_le n most then Some n else None

-- The value of an option that has this text, if it has one: a number of a range, decimal and without zeros
-- before it; without the option its default (own).
abbrev pub value_of : ℕ → ℕ → ℕ → Option Text → Option ℕ
value_of least most default None = Some default
value_of least most default (Some word) = number_up_to 18446744073709551615 word >>= within least most

-- The limits and the counters that options set, by the text of each option's value: 16 dialogues, a second and
-- no idle limit, as in a play, and counters from 1, where they set none (own).
abbrev pub start_in : (Text → Option Text) → Option Start
start_in text = do
  max_dialogues ← value_of 1 most_dialogues 16 (text (codes "dialogues"))
  reject_ms ← value_of 0 moment_limit 1000 (text (codes "reject"))
  idle_ms ← value_of 0 moment_limit 0 (text (codes "idle"))
  next_dialogue ← value_of 0 4294967295 1 (text (codes "first-dialogue"))
  next_number ← value_of 0 18446744073709551615 1 (text (codes "first-number"))
  Some (record { max_dialogues = max_dialogues; reject_ms = reject_ms; idle_ms = idle_ms; next_dialogue = next_dialogue; next_number = next_number })

-- Whether an option without a value is there (own).
abbrev pub is_set : Option Text → Bool
is_set None = false
is_set (Some text) = bytes_eq text (codes "true")

-- The format of the answers that options ask for (own).
abbrev pub format_in : (Text → Option Text) → Format
format_in text = if is_set (text (codes "json")) then shape.Json else shape.Words

-- What options ask for: `--help` comes before `--version`, and both before a run (own).
abbrev pub asked_by : (Text → Option Text) → Option Asked
asked_by text =
    if is_set (text (codes "help")) then Some Asked.help
    else if is_set (text (codes "version")) then Some Asked.version
    else option_map (λ start. Asked.run (format_in text) start) (start_in text)

-- What the matches of the words ask for (own).
abbrev pub asked_in : List Row → Option Asked
asked_in rows = asked_by (λ name. first_of name rows)

-- What the words ask for (own).
abbrev pub asked_of : List Text → Option Asked
asked_of words = asked_in (matches_of live_app words)

-- `clap` refuses nothing in the words, and this is what they ask for (own).
abbrev pub Ask : List Text → Asked → Type 0
Ask words asked = (fault_of live_app words ≡ []) × (asked_of words ≡ Some asked)

-- `clap` refuses something in the words, or they ask for nothing (own).
abbrev pub AskNothing : List Text → Type 0
AskNothing words = (fault_of live_app words ≡ [] → ⊥) ⊎ (asked_of words ≡ None)

-- How an engine starts that has these settings (own).
abbrev pub start_of : Settings → Start
start_of settings = record {
  max_dialogues = settings.limits.max_dialogues;
  reject_ms = settings.limits.reject_ms;
  idle_ms = settings.limits.idle_ms;
  next_dialogue = settings.first_dialogue;
  next_number = settings.first_number;
}

-- What a request asks for (own).
abbrev pub asked : Request → Asked
asked (request.Run format settings) = Asked.run format (start_of settings)
asked request.Help = Asked.help
asked request.Version = Asked.version

-- The settings of a request are those that an engine may have (own).
abbrev pub IsStarted : Request → Type 0
IsStarted (request.Run format settings) = AreLimits settings.limits
IsStarted request.Help = Unit {0}
IsStarted request.Version = Unit {0}

-- What is asked for reads standard input (own).
abbrev pub Runs : Asked → Type 0
Runs (Asked.run format start) = Unit {0}
Runs Asked.help = ⊥
Runs Asked.version = ⊥

-- The words ask for something that reads standard input (own).
abbrev pub AskToRun : List Text → Type 0
AskToRun words = (asked : Asked) × Ask words asked × Runs asked
