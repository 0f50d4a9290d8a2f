use Rattle.tcap_words.proofs.CanonicalTwice.{twice, text_twice}
use Rattle.tcap_words.proofs.PrintedHex.{printed_twice}
use Rattle.tcap_words.proofs.laws.canon_twice.Goals as goal

pub returns-clause-verdict : goal.returns-clause-verdict
returns-clause-verdict c bytes good le = (twice bytes good le).0

pub returns-clause-form : goal.returns-clause-form
returns-clause-form c bytes good le = (twice bytes good le).1

pub returns-clause-text : goal.returns-clause-text
returns-clause-text c = text_twice

pub returns-clause-printed : goal.returns-clause-printed
returns-clause-printed c = printed_twice
