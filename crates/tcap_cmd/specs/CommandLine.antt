-- The words of the command, as `clap` takes them: which ask for something, and for what.
use Rattle.std.specs.Prelude.{◌≡◌, ℕ, ◌⊎◌, true, List, [], Option, Some, None, codes, option_map, option_and_then, bytes_eq, if◌then◌else◌}
use Rattle.clap.specs.Words.{App, Rule, Row, Text, new_app, new_rule, with_rule, with_subcommand, fault_of, subcommand_of, first_of}
use Rattle.clap.specs.declared.builder.ArgAction.TheVariants.{Set}
use Rattle.tcap_cmd.specs.declared.request.Request.{Request}
use Rattle.tcap_cmd.specs.declared.request.Request.TheVariants as request

-- HEX, which is required (own).
abbrev pub hex_rule : Rule
hex_rule = record (new_rule (codes "hex")) { required = true; action = Some Set }

-- A command without `--help` (own).
abbrev pub without_help : App → App
without_help app = record app { top = record app.top { disable_help_flag = true } }

-- A subcommand with HEX (own).
abbrev pub with_hex : Text → App
with_hex name = with_rule (without_help (new_app name)) hex_rule

-- The command itself: a subcommand is required, and `help` is none (own).
abbrev pub bare_app : App
bare_app = record (new_app (codes "tcap")) { top = record (new_app (codes "tcap")).top { disable_help_flag = true; disable_help_subcommand = true; subcommand_required = true; no_binary_name = true } }

-- The command `tcap` with the subcommands that have HEX (own).
abbrev pub app_of_hex : App
app_of_hex = with_subcommand (with_subcommand (with_subcommand bare_app (with_hex (codes "show")).top) (with_hex (codes "check")).top) (with_hex (codes "canon")).top

-- A subcommand that reads standard input: it has no argument (own).
abbrev pub that_reads : Text → App
that_reads name = without_help (new_app name)

-- The command `tcap` with its subcommands (own).
abbrev pub tcap_app : App
tcap_app = with_subcommand (with_subcommand app_of_hex (that_reads (codes "play")).top) (that_reads (codes "stream")).top

-- What words ask for, by their octets (own).
pub data Asked : Type 0 where
  -- the lines of the message that HEX spells
  show : (hex : List ℕ) → Asked
  -- the verdict on the bytes that HEX spells
  check : (hex : List ℕ) → Asked
  -- the canonical form of the message that HEX spells
  canon : (hex : List ℕ) → Asked
  -- the play of the script on standard input
  play : Asked
  -- the verdicts on the messages of the stream on standard input
  stream : Asked

-- What a subcommand and its arguments ask for (own).
abbrev pub asked_by : Text × List Row → Option Asked
asked_by p =
    if bytes_eq p.0 (codes "show") then option_map (λ hex. show hex) (first_of (codes "hex") p.1)
    else if bytes_eq p.0 (codes "check") then option_map (λ hex. check hex) (first_of (codes "hex") p.1)
    else if bytes_eq p.0 (codes "canon") then option_map (λ hex. canon hex) (first_of (codes "hex") p.1)
    else if bytes_eq p.0 (codes "play") then Some play
    else if bytes_eq p.0 (codes "stream") then Some stream
    else None

-- What the words ask for (own).
abbrev pub asked_of : List Text → Option Asked
asked_of words = option_and_then asked_by (subcommand_of tcap_app words)

-- `clap` refuses nothing in the words, and this is what they ask for (own).
abbrev pub Ask : List Text → Asked → Type 0
Ask words asked = (fault_of tcap_app words ≡ []) × (asked_of words ≡ Some asked)

-- What is asked for is read from standard input (own).
abbrev pub Reads : Asked → Type 0
Reads (show hex) = ⊥
Reads (check hex) = ⊥
Reads (canon hex) = ⊥
Reads play = Unit {0}
Reads stream = Unit {0}

-- The words ask for something that is read from standard input (own).
abbrev pub AskToRead : List Text → Type 0
AskToRead words = (asked : Asked) × Ask words asked × Reads asked

-- `clap` refuses something in the words, or they ask for nothing (own).
abbrev pub AskNothing : List Text → Type 0
AskNothing words = (fault_of tcap_app words ≡ [] → ⊥) ⊎ (asked_of words ≡ None)

-- What a request asks for (own).
abbrev pub asked : Request → Asked
asked (request.Show hex) = show hex.now
asked (request.Check hex) = check hex.now
asked (request.Canon hex) = canon hex.now
asked request.Play = play
asked request.Stream = stream
