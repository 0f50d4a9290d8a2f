use Rattle.tcap_dialogue.proofs.dialogue.Dialogue.abort_provider.Goals as goal

pub returns-clause-place : goal.returns-clause-place
returns-clause-place g c portion components before = c.over_with.ensures.place portion components tt before
