use Rattle.std.proofs.Common.{rules, string_bytes}
use Rattle.std.proofs.lemmas.Str.{IsAscii-take}
use Rattle.tcap_words.proofs.HexSteps.{last_added}
use Rattle.tcap_words.proofs.hexadecimal.push_last.Goals as goal

pub push_digits-requires-clause-ascii : goal.push_digits-requires-clause-ascii
push_digits-requires-clause-ascii g c = IsAscii-take c.digits.result _ c.digits.ensures.ascii

pub returns-clause-bytes : goal.returns-clause-bytes
returns-clause-bytes g c = last_added (string_bytes c.args.text.now) (string_bytes c.push_digits.new.text) c.digits.result c.args.octets.now c.copy_from_slice.new.self _ (search rules) c.digits.ensures.digits c.push_digits.ensures.bytes
