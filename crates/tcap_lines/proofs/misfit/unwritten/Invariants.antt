use Rattle.std.proofs.Common.{◌≡◌, drop}
use Rattle.tcap_lines.proofs.FitsLemmas.{first_unwritten}
use Rattle.tcap_lines.proofs.misfit.unwritten.Given as goal

-- the first that is no visible character is among those that are left
abbrev pub invariant-loop-octet : goal.invariant-loop-octet
invariant-loop-octet l = first_unwritten (drop l.octet-index l.word) ≡ first_unwritten l.word
