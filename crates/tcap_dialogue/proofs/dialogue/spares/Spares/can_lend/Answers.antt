use Rattle.std.proofs.Common.{rules, arith, tests, ◌≤◌, ◌*◌, inr, vec_capacity}
use Rattle.tcap_dialogue.proofs.dialogue.spares.Spares.can_lend.Goals as goal

pub returns-then-saturating_mul-capacity : goal.returns-then-saturating_mul-capacity
returns-then-saturating_mul-capacity g c fits =
    let octets : 8 * c.args.count ≤ vec_capacity c.in-Some.last.now.octets =
    grind (arith, tests, c.saturating_mul.ensures, c.if-saturating_mul-capacity.true, c.capacity.ensures, c.in-Some.last.now.octets.small) in
    inr (record {
      left = c.in-Some.last.now;
      is_last = search rules;
      octets = octets;
      parts = search (rules, fits);
      is_bare = search rules;
    })
