use Rattle.std.proofs.Common.{◌≡◌, Some, slice_get, subst}
use Rattle.std.specs.Option.{IfSome, option_map}
use Rattle.tcap_primitives.specs.KeptViews.{kept_view}
use Rattle.tcap_station.specs.Station.{StationState}
use Rattle.tcap_station.specs.WaitingViews.{output_of}
use Rattle.tcap_station.proofs.station.Station.kept_of_one_event.Goals as goal

pub returns-clause-output : goal.returns-clause-output
returns-clause-output g c =
    subst (λ (s : StationState). IfSome c.kept_of_one_event.result (λ kept. Some (kept_view kept) ≡ option_map output_of (slice_get s.waiting 0)))
    c.self.view_is c.kept_of_one_event.ensures.output
