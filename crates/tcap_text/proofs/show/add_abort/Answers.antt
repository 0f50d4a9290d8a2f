use Rattle.tcap_words.proofs.CallerLemmas.{all_three}
use Rattle.tcap_text.proofs.show.add_abort.Goals as goal

pub returns-clause-text : goal.returns-clause-text
returns-clause-text g c = all_three _ _ _ _ _ _ _ c.in_ok-add_line.ensures.ok c.in_ok-add_destination.ensures.ok c.in_ok-add_reason.ensures
