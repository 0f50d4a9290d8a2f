use Rattle.std.proofs.Common.{◌∙◌, sym}
use Rattle.tcap_play.proofs.MessagePlaces.{message_elsewhere}
use Rattle.tcap_play.proofs.message.place_of.Goals as goal

pub returns-else-is_in : goal.returns-else-is_in
returns-else-is_in g c =
    let there = c.in_ok-place.ensures in
    message_elsewhere _ c.args.number c.args.sent.now c.in_ok-place.place c.index-sent-place.result there.0 there.1 (sym c.is_in.ensures ∙ c.if-is_in.false)
