use Rattle.tcap_station.proofs.RunLemmas.{each_is_taken_after, each_is_taken_once}
use Rattle.tcap_station.proofs.laws.once_and_in_order.Goals as goal

pub returns-clause-run : goal.returns-clause-run
returns-clause-run c = each_is_taken_once

pub returns-clause-history : goal.returns-clause-history
returns-clause-history c = each_is_taken_after
