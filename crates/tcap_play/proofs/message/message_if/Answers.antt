use Rattle.std.proofs.Common.{◌∙◌, sym, ap, Option, Some}
use Rattle.tcap_play.specs.Play as play
use Rattle.tcap_play.specs.PlayViews.{message_view}
use Rattle.tcap_play.proofs.MessagePlaces.{message_there}
use Rattle.tcap_play.proofs.message.message_if.Goals as goal

abbrev some : play.Message → Option play.Message
some message = Some message

pub returns : goal.returns
returns g c =
    ap (λ m. some (message_view m)) c.index-sent-place.is
    ∙ sym (message_there _ c.args.number c.args.sent.now c.in_ok-place.place c.in_ok-place.ensures c.index-sent-place.result)
