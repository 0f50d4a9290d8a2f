-- The histories in which a message goes elsewhere than it should aren't legal.
use Rattle.std.specs.Prelude.{refl}
use Rattle.tcap_examples.proofs.LegalHistories.{goes_wrong}
use Rattle.tcap_examples.specs.Computing.{computing}
use Rattle.tcap_examples.specs.Wrong.WrongHistories.{GoesWrong}
use Rattle.tcap_examples.specs.Wrong.WrongAddresses as addresses

pub moving_address : GoesWrong addresses.moving_address
unfolding computing
moving_address = goes_wrong addresses.moving_address refl refl refl refl refl

pub address_never_learned : GoesWrong addresses.address_never_learned
unfolding computing
address_never_learned = goes_wrong addresses.address_never_learned refl refl refl refl refl

pub cause_one_to_a_kept_address : GoesWrong addresses.cause_one_to_a_kept_address
unfolding computing
cause_one_to_a_kept_address = goes_wrong addresses.cause_one_to_a_kept_address refl refl refl refl refl

pub fault_answered_to_the_kept_address : GoesWrong addresses.fault_answered_to_the_kept_address
unfolding computing
fault_answered_to_the_kept_address = goes_wrong addresses.fault_answered_to_the_kept_address refl refl refl refl refl

-- All of them.
pub ruleset wrong_addresses_given = (
  moving_address,
  address_never_learned,
  cause_one_to_a_kept_address,
  fault_answered_to_the_kept_address,
)
