use Rattle.std.proofs.Common.{Option, subst}
use Rattle.std.specs.Option.{IfSome, IsSomeAnd}
use Rattle.tcap_model.specs.Words.Output.{Output}
use Rattle.tcap_c.specs.Reading.{IsToldBare}
use Rattle.tcap_c.proofs.reading.bare_front.Goals as goal

pub returns : goal.returns
returns c =
    subst (λ (o : Option Output). IfSome c.bare_numbers.result (λ told. IsSomeAnd o (IsToldBare told)))
    c.in_ok-kept.ensures.output (c.bare_numbers.ensures c.in_ok-kept.kept.octets.now)
