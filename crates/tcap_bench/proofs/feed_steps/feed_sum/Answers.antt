use Rattle.std.proofs.Common.{rules, ◌≡◌, ◌++◌}
use Rattle.tcap_bench.proofs.Fed.{nothing-fed, piece-fed}
use Rattle.tcap_bench.proofs.feed_steps.feed_sum.Goals as goal

pub loop-rest-init : goal.loop-rest-init
loop-rest-init c = nothing-fed _ _ c.new-feed.ensures

pub loop-rest-preserved : goal.loop-rest-preserved
loop-rest-preserved c =
    let fed = c.loop-rest.invariant in
    let split : c.loop-rest.rest.now ≡ c.split_at.result.0.now ++ c.split_at.result.1.now = search rules in
    piece-fed _ _ _ _ _ _ _ _ fed split (c.in_ok-sum.ensures fed.stream fed.stands)
