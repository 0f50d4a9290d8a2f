use Rattle.std.proofs.Common.{rules, true, ◌≡◌}
use Rattle.tcap_pdu.specs.Front.{front_at}
use Rattle.tcap_pdu.proofs.frame.front.split_front.Goals as goal

pub returns : goal.returns
unfolding front_at
returns c =
    let constructed : c.in-Ok.head.constructed ≡ true = search rules in
    search (rules, constructed)
