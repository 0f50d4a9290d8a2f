use Rattle.std.proofs.Common.{◌≡◌, ◌<◌, ◌≤◌, false, length, take, sym, arith, rules}
use Rattle.tcap_explain.specs.EncodingPlace.{is_open, told_at}
use Rattle.tcap_explain.proofs.EncodingLemmas.{nothing-open, closed-longer, open_by-is}
use Rattle.tcap_explain.proofs.encoding.told_place.Goals as goal

pub loop-low-init : goal.loop-low-init
loop-low-init c = (omega arith, omega arith, nothing-open c.args.bytes.now, λ m lt le. absurd (omega (arith, lt, le)))

pub loop-low-preserved : goal.loop-low-preserved
loop-low-preserved c =
    let low = c.loop-low.low in
    let high = c.loop-low.high in
    let lt : low < high = search rules in
    let middle = c.next_front-middle.result in
    let below : low < middle = c.next_front-middle.ensures.0 in
    let closed : is_open (take middle c.args.bytes.now) ≡ false = search rules in
    (omega (arith, below), omega (arith, c.next_front-middle.ensures.1, c.loop-low.invariant.1), c.loop-low.invariant.2, λ m above le. closed-longer c.args.bytes.now middle m (omega (arith, above)) closed)

pub returns-clause-place : goal.returns-clause-place
unfolding told_at
returns-clause-place c =
    let met : c.loop-low.high ≤ c.loop-low.low = search rules in
    sym (open_by-is (length c.args.bytes.now) c.loop-low.low c.args.bytes.now (omega (arith, c.loop-low.invariant.0, c.loop-low.invariant.1)) c.loop-low.invariant.2
    (λ m lt le. c.loop-low.invariant.3 m (omega (arith, met, lt)) le))
