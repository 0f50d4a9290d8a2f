-- Checksums of lists that follow one another.
use Rattle.std.proofs.Common.{◌≡◌, ℕ, List, [], ◌∷◌, ◌++◌, refl}
use Rattle.tcap_bench.specs.Checksum.{added, checksum}

pub checksum_append : (total : ℕ) (first more : List ℕ) → checksum total (first ++ more) ≡ checksum (checksum total first) more
checksum_append total [] more = refl
checksum_append total (n ∷ first) more = checksum_append (added total n) first more
