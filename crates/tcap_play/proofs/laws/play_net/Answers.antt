use Rattle.tcap_play.proofs.Nets.PlayShown.{plays-shown}
use Rattle.tcap_play.proofs.Nets.SoundPlays.{plays-meet, plays-two-ended}
use Rattle.tcap_play.proofs.laws.play_net.Goals as goal

pub returns-clause-net : goal.returns-clause-net
returns-clause-net c = plays-meet

pub returns-clause-two_ends : goal.returns-clause-two_ends
returns-clause-two_ends c = plays-two-ended

pub returns-clause-shown : goal.returns-clause-shown
returns-clause-shown c = plays-shown
