use Rattle.std.proofs.Common.{◌≡◌, ◌≤◌, ◌+◌, drop, length}
use Rattle.tcap_judging.specs.Resync.{passed_in}
use Rattle.tcap_judging.proofs.search.pass_over.Given as goal

-- what was passed over so far
abbrev pub invariant-loop-count : goal.invariant-loop-count
invariant-loop-count l =
    (passed_in l.fn.ends l.fn.octets ≡ l.count + passed_in l.fn.ends (drop l.count l.fn.octets))
    × (l.count ≤ length l.fn.octets)
