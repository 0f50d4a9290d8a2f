use Rattle.std.proofs.Common.{rules}
use Rattle.std.proofs.lemmas.Fn.{filter_same}
use Rattle.tcap_primitives.proofs.CancelLemmas.{stays}
use Rattle.tcap_primitives.proofs.queue.cancel.remove_parts.Goals as goal

pub returns : goal.returns
returns g c = filter_same _ (stays c.args.number) _ (λ x b f k. search rules) _ _ c.retain.ensures.filtered
