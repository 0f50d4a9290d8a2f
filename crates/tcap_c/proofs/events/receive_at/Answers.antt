use Rattle.std.proofs.Common.{refl}
use Rattle.tcap_c.proofs.events.receive_at.Goals as goal

pub returns-then-advanced-ne0 : goal.returns-then-advanced-ne0
returns-then-advanced-ne0 c = record {
  between = c.advance.new.self;
  moment = c.of_request-advanced.result;
  advanced = record {
    answer = c.advance.result;
    number = c.of_request-advanced.ensures;
    moves = c.advance.ensures.moves;
    stands = c.advance.ensures.stands;
  };
  refused = λ some. (refl, refl);
  taken = λ none. absurd (c.if-advanced-ne0.true none);
}

pub returns : goal.returns
returns c = record {
  between = c.advance.new.self;
  moment = c.of_request-advanced.result;
  advanced = record {
    answer = c.advance.result;
    number = c.of_request-advanced.ensures;
    moves = c.advance.ensures.moves;
    stands = c.advance.ensures.stands;
  };
  refused = λ some. absurd (some c.if-advanced-ne0.false);
  taken = λ none. record {
    answer = c.receive_from.result;
    number = c.of_reception.ensures;
    moves = c.receive_from.ensures.moves;
    stands = c.receive_from.ensures.stands;
  };
}
