use Rattle.std.proofs.Common.{rules, ◌<◌, length}
use Rattle.tcap_play.proofs.MessagePlaces.{marked}
use Rattle.tcap_play.proofs.message.set_fate.Goals as goal

pub returns-in-Some : goal.returns-in-Some
returns-in-Some g c before message is =
    let sent = c.args.sent.now.items in
    let within : c.in-Some.place < length sent = search rules in
    marked before c.args.number sent c.in-Some.place c.index_mut.result.now c.args.fate message c.in-Some.ensures.0 within c.index_mut.ensures.value is
