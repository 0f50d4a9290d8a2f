use Rattle.std.proofs.Common.{refl, Ok, Err}
use Rattle.tcap_primitives.specs.OutputViews.{all_shown}
use Rattle.tcap_register.proofs.register.conclude_dialogue.Goals as goal

pub returns-in-Ok : goal.returns-in-Ok
returns-in-Ok g c = record {
  result = Ok (all_shown c.in-Ok.outputs.items);
  middle = c.send_queue.new.engine;
  asks = c.in-Ok.ensures;
  concluded = (refl, refl, refl);
}

pub returns-in-Err : goal.returns-in-Err
returns-in-Err g c = record {
  result = Err c.in-Err.fault;
  middle = c.send_queue.new.engine;
  asks = c.in-Err.ensures;
  concluded = (c.refused.ensures, c.leave.ensures);
}
