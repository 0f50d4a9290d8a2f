use Rattle.std.proofs.Common.{rules, arith}
use Rattle.hex.specs.Hex.{IsBytes, encode_lower}
use Rattle.hex.proofs.HexLemmas.{decode_of-encode_lower}
use Rattle.tcap_text.proofs.canon.octets_text.Goals as goal

pub returns-clause-hex : goal.returns-clause-hex
returns-clause-hex g c =
    let fits : IsBytes c.args.octets.now = λ i. let f = c.type_inv.octets i in omega arith in
    record { hex = encode_lower c.args.octets.now; is_text = search rules; spelled = decode_of-encode_lower c.args.octets.now fits }
