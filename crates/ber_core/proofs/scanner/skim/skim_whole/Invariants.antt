use Rattle.std.proofs.Common.{◌≡◌, ◌≤◌, ◌++◌, List, ℕ, length}
use Rattle.ber_core.specs.Scanning.{at_tag}
use Rattle.ber_core.proofs.scanner.skim.skim_whole.Given as goal

-- reading on from here is reading on from the first octet
abbrev pub invariant-loop-left : goal.invariant-loop-left
invariant-loop-left l = ((more : List ℕ) → at_tag l.nested (l.rest ++ more) ≡ at_tag l.fn.nested (l.fn.bytes ++ more)) × (l.nested ≤ 32) × (length l.rest ≤ length l.fn.bytes)

abbrev pub decreases-loop-left : goal.decreases-loop-left
decreases-loop-left l = length l.rest
