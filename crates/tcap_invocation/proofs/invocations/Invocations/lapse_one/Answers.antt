use Rattle.std.proofs.Common.{◌≡◌}
use Rattle.std.proofs.lemmas.Int.{to_z-of_z}
use Rattle.std.specs.Int.{w8}
use Rattle.tcap_invocation.specs.Lapses.{after_lapse_one}
use Rattle.tcap_invocation.proofs.TellingLemmas.{told_at-first}
use Rattle.tcap_invocation.proofs.invocations.Invocations.lapse_one.Goals as goal

pub returns-clause-first : goal.returns-clause-first
returns-clause-first g c =
    let list : c.take_due.new.self ≡ after_lapse_one c.args.self.now c.args.id c.args.clock = rw (to_z-of_z w8 c.args.id c.ranges.id) at c.take_due.ensures.list in
    rw list (told_at-first c.args.self.now c.args.id c.args.clock c.take_due.ensures.sound)
