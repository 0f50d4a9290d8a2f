use Rattle.tcap_words.proofs.CallerLemmas.{after_one, after_two}
use Rattle.tcap_text.proofs.show.add_message.Goals as goal

pub returns-in_ok-add_line-in-Uni-clause-text : goal.returns-in_ok-add_line-in-Uni-clause-text
returns-in_ok-add_line-in-Uni-clause-text g c = rw c.in-Uni.is (after_one c.add_portions.result _ _ _ _ _ c.in_ok-add_line-in-Uni.ensures.ok c.add_portions.ensures.text)

pub returns-in_ok-add_origin-in-Begin-clause-text : goal.returns-in_ok-add_origin-in-Begin-clause-text
returns-in_ok-add_origin-in-Begin-clause-text g c = rw c.in-Begin.is (after_two c.add_portions-in-Begin.result _ _ _ _ _ _ _ c.in_ok-add_line-in-Begin.ensures.ok c.in_ok-add_origin-in-Begin.ensures.ok c.add_portions-in-Begin.ensures.text)

pub returns-in_ok-add_destination-in-End-clause-text : goal.returns-in_ok-add_destination-in-End-clause-text
returns-in_ok-add_destination-in-End-clause-text g c = rw c.in-End.is (after_two c.add_portions-in-End.result _ _ _ _ _ _ _ c.in_ok-add_line-in-End.ensures.ok c.in_ok-add_destination-in-End.ensures.ok c.add_portions-in-End.ensures.text)
