use Rattle.tcap_engine.proofs.runs.run.Goals as goal

pub returns-clause-headline : goal.returns-clause-headline
returns-clause-headline g c = λ h at. (c.run_each.ensures.stands h at).headline
