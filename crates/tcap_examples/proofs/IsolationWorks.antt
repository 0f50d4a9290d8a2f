-- Isolation on a worked history of two dialogues.
use Rattle.std.specs.Prelude.{◌≢◌, refl}
use Rattle.tcap_examples.proofs.LegalHistories.{legal}
use Rattle.tcap_examples.proofs.Apart.{apart, answer_number}
use Rattle.tcap_model.specs.Words.Answer.{Answer}
use Rattle.tcap_examples.specs.Computing.{computing}
use Rattle.tcap_model.specs.Words.Fault.{Fault}
use Rattle.tcap_model.specs.Statements.Isolation.{IsAlone}
use Rattle.tcap_model.specs.Replies.Legal.{IsLegal}
use Rattle.tcap_model.specs.Replies.Reply.{reply}
use Rattle.tcap_examples.specs.Nets.PlayedNets.{play_start}
use Rattle.tcap_examples.specs.Statements.IsolationExamples.{two_left, of_one_begin, with_one_peer, IsAloneThroughout, two_dialogues, before_the_lapse, before_the_invoke, first_invokes, invokes_again, first_cancels, first_hears, both_lapse}

pub two-legal : IsLegal two_dialogues
unfolding computing
two-legal = legal two_dialogues refl refl refl refl

pub invoke-left : reply before_the_invoke first_invokes ≢ Answer.refused Fault.numbers_spent
unfolding computing
invoke-left same = apart answer_number same refl

pub cancel-left : reply before_the_lapse first_cancels ≢ Answer.refused Fault.numbers_spent
unfolding computing
cancel-left same = apart answer_number same refl

pub bytes-left : reply before_the_lapse first_hears ≢ Answer.refused Fault.numbers_spent
unfolding computing
bytes-left same = apart answer_number same refl

pub moment-left : reply before_the_lapse both_lapse ≢ Answer.refused Fault.numbers_spent
unfolding computing
moment-left same = apart answer_number same refl

pub spent-seen : IsAlone two_dialogues 1 invokes_again → ⊥
unfolding computing
spent-seen same = apart answer_number same refl

pub first-throughout : IsAloneThroughout 1 two_left two_dialogues.pairs
unfolding computing
first-throughout = (refl, (refl, (tt, (refl, (tt, (tt, (tt, (refl, tt))))))))

pub second-throughout : IsAloneThroughout 2 two_left two_dialogues.pairs
unfolding computing
second-throughout = (refl, (tt, (refl, (tt, (refl, (tt, (tt, (refl, tt))))))))

pub first-of_one_begin : IsAloneThroughout 1 play_start of_one_begin
unfolding computing
first-of_one_begin = (refl, (tt, (tt, (refl, (refl, (tt, (tt, tt)))))))

pub second-of_one_begin : IsAloneThroughout 2 play_start of_one_begin
unfolding computing
second-of_one_begin = (refl, (refl, (refl, (tt, (tt, (tt, (tt, tt)))))))

pub first-with_one_peer : IsAloneThroughout 1 play_start with_one_peer
unfolding computing
first-with_one_peer = (refl, (refl, (refl, (tt, (tt, (refl, (tt, (tt, tt))))))))

pub second-with_one_peer : IsAloneThroughout 2 play_start with_one_peer
unfolding computing
second-with_one_peer = (tt, (tt, (tt, (refl, (refl, (tt, (tt, (tt, tt))))))))

-- What the tests state.
pub ruleset isolation_works = (two-legal, invoke-left, cancel-left, bytes-left, moment-left, spent-seen, first-throughout, second-throughout, first-of_one_begin, second-of_one_begin, first-with_one_peer, second-with_one_peer)
