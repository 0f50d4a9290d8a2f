use Rattle.std.proofs.Common.{◌≡◌, ◌∙◌, rules, to_z, of_z}
use Rattle.std.specs.Int.{w8}
use Rattle.std.specs.Ordering.{int_eq}
use Rattle.indexmap.proofs.CallerLemmas.{insert_entry-new}
use Rattle.tcap_invocation.proofs.invocations.indexed.timed.take_in.Goals as goal

pub returns-clause-rows : goal.returns-clause-rows
returns-clause-rows g c =
    let same : to_z w8 (of_z w8 c.args.id.now) ≡ c.args.id.now = search rules in
    rw same at c.in_ok-insert.ensures.entries ∙ insert_entry-new int_eq c.args.entries.now c.args.id.now c.args.entry.now c.requires.free
