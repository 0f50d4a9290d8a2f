-- What the program says of itself.
use Rattle.std.specs.Prelude.{ℕ, List, codes}

-- The text of `--help` (own).
abbrev pub help_text : List ℕ
help_text = codes "Usage: tcap_story [--junit] [--] [FILE ..]\n\nTells the stories in the files, or on standard input where none is named; - is\nstandard input too. A story is a script of tcap play, with lines `expect OUTPUT`\nand `expect nothing` behind those that print it. A refusal that no line expects\nfails, and so does a story that plays no line.\n\n      --junit      tells them in JUnit's XML\n      --help       prints this\n      --version    prints the version\n      --           ends the options: what follows are names\n\nThe status is 0 where all have passed, 1 where one has failed, 2 where one was\nnot read or the run came to no end.\n"

-- The text of `--version` (own).
abbrev pub version_text : List ℕ
version_text = codes "tcap_story 0.1.0\n"
