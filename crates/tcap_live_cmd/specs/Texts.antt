-- The texts of `--help` and `--version`.
use Rattle.std.specs.Prelude.{ℕ, List, codes}

-- What `--help` prints (own).
abbrev pub help_text : List ℕ
help_text = codes "tcap_live [OPTION VALUE].. answers lines on standard input, each at once, as an engine of TCAP.\n\nOptions, with the values that they may have, and the one without them:\n  --dialogues N       how many dialogues may stand at once: 1 to 65535; 16\n  --reject MS         how long an invoke identifier waits for a Reject: 0 to 4611686018427387904; 1000\n  --idle MS           how long a dialogue in state sent or active may stay idle, 0 for no limit; one in another\n                      state never ends so: 0 to 4611686018427387904; 0\n  --first-dialogue N  the identifier of the first dialogue: 0 to 4294967295, which none gets; 1\n  --first-number N    the number of the first invocation: 0 to 18446744073709551615, which none gets; 1\n  --json              answers in JSON, an object in each line\n  --help, --version   this text; the version\n\nLines: words with one space between them. D is a dialogue, ID an invoke identifier, CODE a local code: no line\ntakes a global one. - is what is absent.\n  new                                             begin D ADDR CONTEXT INFO\n  invoke D ID CLASS CODE TIMEOUT LINKED PARAM     uni D ADDR CONTEXT INFO\n  last D ID CODE PARAM                            continue D CONTEXT INFO\n  more D ID CODE PARAM                            end D CONTEXT INFO\n  error D ID CODE PARAM                           prearranged D\n  reject D ID KIND CODE                           abort D user INFO\n  cancel D ID                                     abort D unsupported INFO\n  receive ADDR HEX                                advance MS\n  timer                                           state D\n\nEach line of an answer begins with the number of the line that it answers. The last one goes on with new,\nnumber, done, givenup, refused, timer, state or bad; those before it are what is sent and told.\nStatus: 0, 1 where a line was bad, 2 where the run came to no end.\n"

-- What `--version` prints (own).
abbrev pub version_text : List ℕ
version_text = codes "tcap_live 0.1.0\n"
