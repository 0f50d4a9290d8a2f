use Rattle.std.proofs.Common.{rules}
use Rattle.std.proofs.lemmas.Fn.{filter_same}
use Rattle.tcap_invocation.specs.Invocations.{Row}
use Rattle.tcap_invocation.specs.Lapses.{is_held}
use Rattle.tcap_invocation.proofs.invocations.few.free_due.Goals as goal

pub returns : goal.returns
returns g c = filter_same _ (λ (r : Row). is_held c.args.clock r.1.stage) _ (λ x b f k. search rules) _ _ c.retain.ensures.filtered
