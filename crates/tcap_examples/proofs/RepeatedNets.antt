-- Both engines of a repeated Begin do as they should, and what one receives the other sent before.
use Rattle.std.specs.Prelude.{refl, zero, suc}
use Rattle.tcap_examples.proofs.TwoEngines.{above_one, legal-above, from_a, from_b, two-apart}
use Rattle.tcap_examples.proofs.LegalHistories.{legal}
use Rattle.tcap_examples.specs.Computing.{computing}
use Rattle.tcap_examples.specs.Nets.Play.{repeated_begin_played}
use Rattle.tcap_examples.specs.Nets.PlayedNets.{repeated_begin}
use Rattle.tcap_model.specs.Replies.Legal.{IsLegal}
use Rattle.tcap_model.specs.Statements.Net.{Engine, IsCarried, IsNet, history_in}
use Rattle.tcap_examples.specs.Nets.Engines.{engine_a, engine_b, two_places}

carried : IsCarried two_places repeated_begin_played.trace
unfolding computing
carried =
    (tt, (tt, (from_b refl, (from_b refl, (tt, (tt, (tt, (tt, (from_a refl, (from_a refl, (tt, (tt, (tt, tt)))))))))))))

played-legal : (engine : Engine) → IsLegal (history_in repeated_begin_played engine repeated_begin_played.trace)
unfolding computing
played-legal zero =
    legal (history_in repeated_begin_played engine_a repeated_begin_played.trace) refl refl refl refl
played-legal (suc zero) =
    legal (history_in repeated_begin_played engine_b repeated_begin_played.trace) refl refl refl refl
played-legal (suc (suc number)) =
    legal-above (repeated_begin_played.start (suc (suc number))) 1 (suc (suc number)) repeated_begin_played.trace (above_one number) refl refl

pub played-net : IsNet repeated_begin_played
played-net = record { is_legal = played-legal; are_apart = two-apart; is_carried = carried }

begun-legal : (engine : Engine) → IsLegal (history_in repeated_begin engine repeated_begin.trace)
unfolding computing
begun-legal zero = legal (history_in repeated_begin engine_a repeated_begin.trace) refl refl refl refl
begun-legal (suc zero) = legal (history_in repeated_begin engine_b repeated_begin.trace) refl refl refl refl
begun-legal (suc (suc number)) = legal-above (repeated_begin.start (suc (suc number))) 1 (suc (suc number)) repeated_begin.trace (above_one number) refl refl

pub begun-net : IsNet repeated_begin
begun-net = record { is_legal = begun-legal; are_apart = two-apart; is_carried = carried }

-- What the tests state.
pub ruleset repeated_nets = (played-net, begun-net)
