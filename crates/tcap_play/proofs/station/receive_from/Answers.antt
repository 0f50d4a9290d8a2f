use Rattle.std.proofs.Common.{rules, ◌≡◌, ◌∙◌, ap, refl, subst, true, Some, string_bytes}
use Rattle.std.specs.Prelude.{bytes_eq}
use Rattle.tcap_model.specs.Words.Event.{Event}
use Rattle.tcap_play.specs.Play.{message_in}
use Rattle.tcap_play.specs.PlayViews.{Hands, fate_view, message_view, messages_view}
use Rattle.tcap_play.specs.SideView.{side_view}
use Rattle.tcap_play.specs.Sides.{address_of, far}
use Rattle.tcap_play.proofs.MessagePlaces.{received}
use Rattle.tcap_play.proofs.station.receive_from.Goals as goal

pub returns-clause-done : goal.returns-clause-done
returns-clause-done g c =
    let sent = c.args.from.now.sent.items in
    let side = side_view c.args.side in
    let message = message_view c.in-Some.message.now in
    let read : Some message ≡ message_in (fate_view c.args.fate) c.args.number (messages_view sent) = c.in-Some.ensures ∙ ap (λ xs. message_in (fate_view c.args.fate) c.args.number (messages_view xs)) c.deref.ensures.value in
    let there : bytes_eq message.to (address_of side) ≡ true = search rules in
    let event : Event.received c.beyond.result.now c.deref-2.result.now ≡ Event.received (address_of (far side)) message.octets = rw (c.beyond.ensures, c.deref-2.ensures.value) refl in
    received _ c.args.number side sent c.set_fate.new.sent.items c.args.to.now c.hand.new.station (string_bytes c.args.text.now) (string_bytes c.hand.new.text) message read there c.set_fate.ensures
    (λ h stands. subst (λ (e : Event). Hands h side e c.args.to.now c.hand.new.station (string_bytes c.args.text.now) (string_bytes c.hand.new.text)) event (c.in_ok-hand.ensures h stands))
