use Rattle.std.proofs.Common.{◌∙◌, sym}
use Rattle.ber_core.proofs.ItemSteps.{shorter, all_next}
use Rattle.ber_core.proofs.elements.are_elements.Goals as goal

pub loop-rest-smaller : goal.loop-rest-smaller
loop-rest-smaller c = shorter c.loop-rest.rest.now c.in-Ok.after.now c.in-Ok.ensures.ok.0 c.in-Ok.ensures.ok.1

pub loop-rest-preserved : goal.loop-rest-preserved
loop-rest-preserved c = sym (all_next c.loop-rest.rest.now c.in-Ok.after.now c.in-Ok.ensures.ok.0 c.in-Ok.ensures.ok.1) ∙ c.loop-rest.invariant
