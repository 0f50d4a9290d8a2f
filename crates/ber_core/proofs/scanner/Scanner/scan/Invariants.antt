use Rattle.std.proofs.Common.{◌≡◌, ◌≤◌, ◌++◌, List, ℕ, length}
use Rattle.ber_core.specs.Scanning.{goes_on}
use Rattle.ber_core.proofs.scanner.Scanner.scan.Given as goal

-- reading on from here is reading on from the first octet
abbrev pub invariant-loop-next : goal.invariant-loop-next
invariant-loop-next l = ((more : List ℕ) → goes_on l.scanner (l.rest ++ more) ≡ goes_on l.fn.self (l.fn.bytes ++ more)) × (length l.rest ≤ length l.fn.bytes)

abbrev pub decreases-loop-next : goal.decreases-loop-next
decreases-loop-next l = length l.rest
