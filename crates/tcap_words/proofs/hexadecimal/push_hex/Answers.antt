use Rattle.std.proofs.Common.{rules, ◌++◌, string_bytes}
use Rattle.hex.specs.Hex.{encode_lower}
use Rattle.tcap_words.proofs.HexSteps.{sixteen_added, nothing_left}
use Rattle.tcap_words.proofs.hexadecimal.push_hex.Goals as goal

pub loop-sixteen-preserved : goal.loop-sixteen-preserved
loop-sixteen-preserved g c = (
  sixteen_added (string_bytes c.loop-sixteen.text) c.digits.result (string_bytes c.push_digits.new.text) c.loop-sixteen.rest.now c.in-Some.sixteen.now c.in-Some.more.now (string_bytes c.args.text.now ++ encode_lower c.args.octets.now)
      c.digits.ensures.digits (search rules) (search rules) (search rules) c.loop-sixteen.invariant.0,
  search rules,
  search rules,
)

pub returns-else-not-is_empty-clause-bytes : goal.returns-else-not-is_empty-clause-bytes
returns-else-not-is_empty-clause-bytes g c =
    nothing_left (string_bytes c.loop-sixteen.text) c.loop-sixteen.rest.now (string_bytes c.args.text.now ++ encode_lower c.args.octets.now) (search rules) c.loop-sixteen.invariant.0
