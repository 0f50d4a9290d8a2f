-- Histories in which an engine sends a message elsewhere than it should.
use Rattle.std.specs.Prelude.{[], ◌∷◌, ◌++◌}
use Rattle.tcap_model.specs.Words.Output.{Output, AbortCause}
use Rattle.tcap_examples.specs.Histories.Addresses.{at_0a, at_0b, at_0c, at_0d, first_heard, heard_from, learned_once_pairs, own_continue, plain_continue, sent_to}
use Rattle.tcap_examples.specs.Values.Hex.{hex}
use Rattle.tcap_examples.specs.Values.HistoryWords.{request_pair, continue_request, continued, usual_start}
use Rattle.tcap_examples.specs.Values.Told as told
use Rattle.tcap_examples.specs.Wrong.WrongHistories.{Wrong, wrong}

-- A later Continue's address is kept (own).
abbrev pub moving_address : Wrong
moving_address = wrong usual_start (
    first_heard
    ++ request_pair 1 continue_request (sent_to at_0b own_continue)
    ∷ heard_from at_0c plain_continue (continued 1 ∷ [])
    ∷ [])
    (request_pair 1 continue_request (sent_to at_0c own_continue))

-- The first Continue's address isn't kept (own).
abbrev pub address_never_learned : Wrong
address_never_learned = wrong usual_start first_heard
    (request_pair 1 continue_request (sent_to at_0a own_continue))

-- A Continue to no dialogue is answered to the address that some dialogue keeps (own).
abbrev pub cause_one_to_a_kept_address : Wrong
cause_one_to_a_kept_address = wrong usual_start learned_once_pairs
    (heard_from at_0d (hex 14 0x650C_480400000009_4904000000FF)
    (Output.send at_0b (hex 11 0x6709_490400000009_4A0101) ∷ []))

-- A faulty Continue is answered to the address that its dialogue keeps (own).
abbrev pub fault_answered_to_the_kept_address : Wrong
fault_answered_to_the_kept_address = wrong usual_start first_heard
    (heard_from at_0c (hex 15 0x650D_480400000006_490400000001_6C)
    (Output.send at_0b (hex 11 0x6709_490400000006_4A0102) ∷ told.p_abort 1 (AbortCause.cause 2) ∷ []))
