use Rattle.std.proofs.Common.{◌≡◌, ◌<◌, ◌≤◌, ◌-◌, ℕ, true, false, length, take}
use Rattle.tcap_explain.specs.EncodingPlace.{is_open}
use Rattle.tcap_explain.proofs.encoding.told_place.Given as goal

-- the front of `low` octets is open, and none of more than `high` is
abbrev pub invariant-loop-low : goal.invariant-loop-low
invariant-loop-low l =
    (l.low ≤ l.high) × (l.high ≤ length l.bytes) × (is_open (take l.low l.bytes) ≡ true)
    × ((m : ℕ) → l.high < m → m ≤ length l.bytes → is_open (take m l.bytes) ≡ false)

abbrev pub decreases-loop-low : goal.decreases-loop-low
decreases-loop-low l = l.high - l.low
