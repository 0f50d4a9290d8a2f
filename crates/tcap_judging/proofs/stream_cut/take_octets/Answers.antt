use Rattle.std.proofs.Common.{◌∙◌, ◌++◌, ap}
use Rattle.tcap_judging.proofs.StreamCuts.{adds-octets}
use Rattle.tcap_judging.proofs.stream_cut.take_octets.Goals as goal

pub returns-clause-adds : goal.returns-clause-adds
returns-clause-adds g c =
    adds-octets _ _ _ _ _ _ _ _ _ _ _ _ _ c.in_ok-cut.ensures.adds (c.as_slice.ensures.value ∙ c.in_ok-extend_from_slice.ensures.items) (c.in_ok-extend_from_slice-2.ensures.items ∙ ap (λ k. k ++ c.in_ok-cut.cut.rest.now) c.new-kept.ensures.items) c.in_ok-good.ensures.text c.in_ok-good.ensures.good
