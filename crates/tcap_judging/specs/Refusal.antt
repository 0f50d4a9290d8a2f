-- The words of a refusal.
use Rattle.std.specs.Prelude.{ℕ, List, Option, Some, None, codes}
use Rattle.tcap_judging.specs.declared.fault.JudgingFault.TheVariants as fault
use Rattle.tcap_judging.specs.declared.name_list.NamesFault.{NamesFault}
use Rattle.tcap_judging.specs.declared.name_list.NamesFault.TheVariants as names
use Rattle.tcap_judging.specs.declared.refusal.Refusal.{Refusal}
use Rattle.tcap_judging.specs.declared.refusal.Refusal.TheVariants.{BadCommand, NoNames, BadNames, Fault}

-- The words of the line on standard error (own).
abbrev pub refusal_words : Refusal → List ℕ
refusal_words BadCommand = codes "bad command, --help lists the options"
refusal_words NoNames = codes "the list of names can't be read"
refusal_words (BadNames number) = codes "the list of names has a bad line"
refusal_words (Fault fault.OutOfMemory) = codes "out of memory"
refusal_words (Fault fault.Read) = codes "read failed"
refusal_words (Fault fault.Write) = codes "write failed"
refusal_words (Fault fault.TooLong) = codes "input too long"

-- The number of a line that stands behind these words, if one does (own).
abbrev pub refusal_line : Refusal → Option ℕ
refusal_line BadCommand = None
refusal_line NoNames = None
refusal_line (BadNames number) = Some number
refusal_line (Fault why) = None

-- The refusal of a text that is no list of names (own).
abbrev pub names_refusal : NamesFault → Refusal
names_refusal names.OutOfMemory = Fault fault.OutOfMemory
names_refusal (names.BadLine number) = BadNames number
