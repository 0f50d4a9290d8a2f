-- What the command says of itself.
use Rattle.std.specs.Prelude.{ℕ, List, codes}

-- The text of `--help` (own).
abbrev pub help_text : List ℕ
help_text = codes "Usage: tcap_judge < LINES\n       tcap_judge --stream < MESSAGES\n\nJudges TCAP messages (ITU-T Q.773) on standard input, and prints a line for\neach: its name, the verdict, and where that is not good the octet at which the\nfault is, counted from 0, and what was expected there.\n\nA line is HEX or NAME HEX. A first word that ends in a colon, or that has other\ncharacters than hexadecimal digits and colons, is the name; else the message is\ncalled by the number of its line. Blanks and colons in HEX are passed over.\nWith --stream the messages stand one after the other as octets, and are called\nby the offset of their first octet.\n\n      --named      takes the first word of each line for its name, whatever it\n                   looks like; not with --stream or --resync\n      --stream     reads messages as octets; at a place where no message can\n                   begin it stops, and a line says so\n      --resync     reads messages as octets; from such a place it goes on at the\n                   next octet at which a good message begins, also where one\n                   begins within a message that is not good\n      --explain    shows the octets about a fault, with marks below it\n      --json       prints an object of JSON in each line\n      --names FILE prints behind each verdict what the message names, by the\n                   list of names in FILE: its context, and the operation or the\n                   error of each component\n      --help       prints this\n      --version    prints the version\n\nThe status is 0 where all messages are good, 1 where one is not or a line is\nneither blank nor a message, 2 where the run came to no end.\n"

-- The text of `--version` (own).
abbrev pub version_text : List ℕ
version_text = codes "tcap_judge 0.1.0\n"
