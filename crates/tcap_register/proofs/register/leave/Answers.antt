use Rattle.std.proofs.Common.{refl, ap, Ok, Err}
use Rattle.tcap_primitives.specs.OutputViews.{all_shown}
use Rattle.tcap_register.proofs.register.leave.Goals as goal

pub returns-in-Ok : goal.returns-in-Ok
returns-in-Ok g c = record { result = Ok (all_shown c.in-Ok.outputs.items); asks = c.in-Ok.ensures.moves; is_sent = refl }

pub returns-in-Err : goal.returns-in-Err
returns-in-Err g c =
    record { result = Err c.in-Err.field-0; asks = c.in-Err.ensures.moves; is_sent = ap all_shown c.new.ensures.items }
