use Rattle.std.proofs.Common.{arith}
use Rattle.tcap_record.proofs.ReplayLemmas.{count-within, one-replayed, one-shorter}
use Rattle.tcap_record.proofs.replaying.replay_each.Goals as goal

pub overflow_add-done : goal.overflow_add-done
overflow_add-done g c =
    let loop = c.loop-rest in
    let within = count-within c.args.log.now loop.done loop.rest.now c.args.engine.now loop.engine loop.invariant.replayed in
    let shorter = one-shorter loop.rest.now c.in-Ok.after.now loop.engine c.replay_first.new.engine c.in-Ok.ensures.ok in
    record { fits = omega (arith, within, shorter, loop.invariant.fits) }

pub loop-rest-preserved : goal.loop-rest-preserved
loop-rest-preserved g c =
    let loop = c.loop-rest in
    record {
      replayed = one-replayed c.args.log.now loop.done loop.rest.now c.in-Ok.after.now c.args.engine.now loop.engine
          c.replay_first.new.engine loop.invariant.replayed c.in-Ok.ensures.ok;
      total = loop.invariant.total;
      fits = loop.invariant.fits;
    }
