use Rattle.tcap_callers.proofs.two_engines.hand_on.Goals as goal

pub returns-in-Some : goal.returns-in-Some
returns-in-Some g c = λ net sender engine is_other is_from is_to sent.
    c.answered.ensures net engine (
      record {
        sender = sender;
        is_other = is_other;
        is_from = is_from;
        is_sent = sent c.in-Some.message.now (c.in-Some.ensures net.places engine is_to);
      },
      tt,
    )

pub returns-in-None : goal.returns-in-None
returns-in-None g c = λ net sender engine is_other is_from is_to sent. c.answered-in-None.ensures net engine tt
