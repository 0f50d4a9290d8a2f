use Rattle.std.proofs.Common.{◌≡◌, drop}
use Rattle.tcap_play.proofs.Numerals.{read_on}
use Rattle.tcap_play.proofs.numbers.number.Given as goal

-- what is left goes on with the number so far
abbrev pub invariant-loop-octet : goal.invariant-loop-octet
invariant-loop-octet l = read_on l.n (drop l.octet-index l.word) ≡ read_on 0 l.word
