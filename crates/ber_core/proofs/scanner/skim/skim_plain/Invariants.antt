use Rattle.std.proofs.Common.{◌≡◌, ◌≤◌, ◌++◌, List, ℕ, length}
use Rattle.ber_core.specs.Scanning.{at_tag}
use Rattle.ber_core.proofs.scanner.skim.skim_plain.Given as goal

-- reading on from here is reading on from the first octet
abbrev pub invariant-loop-rest : goal.invariant-loop-rest
invariant-loop-rest l = ((more : List ℕ) → at_tag l.nested (l.rest ++ more) ≡ at_tag l.fn.nested (l.fn.bytes ++ more)) × (l.nested ≤ 32) × (length l.rest ≤ length l.fn.bytes)

abbrev pub decreases-loop-rest : goal.decreases-loop-rest
decreases-loop-rest l = length l.rest
