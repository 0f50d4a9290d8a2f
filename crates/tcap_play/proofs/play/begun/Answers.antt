use Rattle.tcap_play.proofs.play.begun.Goals as goal

pub returns-clause-stands : goal.returns-clause-stands
returns-clause-stands g c = λ which. c.new.ensures.stands
