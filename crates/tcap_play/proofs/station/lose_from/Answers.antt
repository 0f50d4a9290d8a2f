use Rattle.std.proofs.Common.{rules, ◌≡◌, ◌∙◌, ap, false, is_none}
use Rattle.std.specs.Option.{option_map}
use Rattle.tcap_play.specs.Play as play
use Rattle.tcap_play.specs.Play.{message_in}
use Rattle.tcap_play.specs.PlayViews.{message_view, messages_view}
use Rattle.tcap_play.proofs.MessagePlaces.{lost}
use Rattle.tcap_play.proofs.station.lose_from.Goals as goal

pub returns-clause-lost : goal.returns-clause-lost
returns-clause-lost g c =
    let sent = c.args.from.now.sent.items in
    let read : option_map (λ m. message_view m.now) c.message_if.result ≡ message_in play.Fate.waiting c.args.number (messages_view sent) = c.message_if.ensures ∙ ap (λ xs. message_in play.Fate.waiting c.args.number (messages_view xs)) c.deref.ensures.value in
    let some : is_none c.message_if.result ≡ false = search rules in
    lost c.args.number sent c.set_fate.new.sent.items c.message_if.result read some c.set_fate.ensures
