-- Messages by their numbers, and what becomes of them.
use Rattle.std.proofs.Common.{◌≡◌, ◌==◌, ◌<◌, ◌+◌, ◌-◌, ◌⊎◌, ℕ, Bool, true, false, List, Option, Some, None, refl, sym, ap, ◌∙◌, length, arith, slice_index_or, slice_set, inl, inr, if◌then◌else◌, Bor, is_none}
use Rattle.std.specs.Prelude.{bytes_eq, slice_get}
use Rattle.std.specs.Option.{option_map, option_and_then}
use Rattle.std.proofs.lemmas.List.{map-set}
use Rattle.std.proofs.lemmas.Option.{slice_get_past, slice_get-get_or, slice_get-map}
use Rattle.tcap_play.specs.Play as play
use Rattle.tcap_play.specs.Sides.{Engine, address_of, far}
use Rattle.tcap_play.specs.Play.{has_fate, message_at, message_if, message_in, message_to, with_fate}
use Rattle.tcap_play.specs.PlayViews.{Hands, IsThere, Loses, Receives, fate_view, message_view, messages_view}
use Rattle.tcap_play.specs.declared.message.Message.{Message}
use Rattle.tcap_play.specs.declared.station.Station.{Station}
use Rattle.tcap_text.specs.declared.fate.Fate.{Fate}
use Rattle.tcap_text.specs.declared.fate.Fate.TheVariants.{Waiting, Delivered, Lost}
use Rattle.tcap_text.specs.Fates.{is_same}
use Rattle.tcap_model.specs.Histories.History.{History}
use Rattle.tcap_model.specs.Table.World.{StandsAt}
use Rattle.tcap_model.specs.Words.Event.{Event}

-- being in a state, as the code asks and as a play says
pub is_same-view : (fate own : Fate) → is_same fate own ≡ has_fate (fate_view fate) (fate_view own)
is_same-view Waiting Waiting = refl
is_same-view Waiting Delivered = refl
is_same-view Waiting Lost = refl
is_same-view Delivered Waiting = refl
is_same-view Delivered Delivered = refl
is_same-view Delivered Lost = refl
is_same-view Lost Waiting = refl
is_same-view Lost Delivered = refl
is_same-view Lost Lost = refl

-- the message with a number stands at the place before it
at_place : (messages : List play.Message) (number place : ℕ) → number ≡ place + 1 → message_at number messages ≡ slice_get messages place
at_place messages number place e =
    let first : (number == 0) ≡ false = grind (arith, e) in
    let before : number - 1 ≡ place = omega (arith, e) in
    rw (first, before) refl

-- there is none with a number that is 0 or above their count
pub beyond : (fate : play.Fate) (number : ℕ) (messages : List play.Message) → (number ≡ 0) ⊎ (length messages < number) → message_in fate number messages ≡ None
beyond fate number messages (inl none) = rw none refl
beyond fate number messages (inr above) =
    let first : (number == 0) ≡ false = grind (arith, above) in
    rw (first, slice_get_past messages (number - 1) (omega (arith, above))) refl

-- a message that was found is the one at its place
message_is : (before : play.Fate) (message other : play.Message) → message_if before message ≡ Some other → message ≡ other
message_is before message other is = go (has_fate before message.fate) is where
  go : (b : Bool) → (if b then Some message else None) ≡ Some other → message ≡ other
  go true e = cc
  go false e = absurd cc

abbrev some_message : play.Message → Option play.Message
some_message m = Some m

module _ {A : Type 0} where
  -- the message with a number, where it is within
  found : (messages : List (Message A)) (number place : ℕ) (d : Message A) → number ≡ place + 1 → place < length messages
      → message_at number (messages_view messages) ≡ Some (message_view (slice_index_or messages place d))
  found messages number place d e within =
      at_place (messages_view messages) number place e
      ∙ slice_get-map message_view messages place
      ∙ ap (option_map message_view) (slice_get-get_or messages place d within)

  -- it is found, where it is in the state
  pub message_there : (fate : play.Fate) (number : ℕ) (messages : List (Message A)) (place : ℕ) → IsThere fate number messages place → (d : Message A)
      → message_in fate number (messages_view messages) ≡ Some (message_view (slice_index_or messages place d))
  message_there fate number messages place there d = rw (found messages number place d there.is_number there.within, there.is_fate d) refl

  -- none, where it is in another
  pub message_elsewhere : (fate : play.Fate) (number : ℕ) (messages : List (Message A)) (place : ℕ) (d : Message A) → number ≡ place + 1 → place < length messages
      → has_fate fate (fate_view (slice_index_or messages place d).fate) ≡ false → message_in fate number (messages_view messages) ≡ None
  message_elsewhere fate number messages place d e within other = rw (found messages number place d e within, other) refl

  -- the messages with one that was found in another state
  pub marked : (before : play.Fate) (number : ℕ) (messages : List (Message A)) (place : ℕ) (m : Message A) (fate : Fate) (message : play.Message) → number ≡ place + 1 → place < length messages
      → m ≡ slice_index_or messages place m → message_in before number (messages_view messages) ≡ Some message
      → messages_view (slice_set messages place (record m { fate = fate })) ≡ with_fate (fate_view fate) number message (messages_view messages)
  marked before number messages place m fate message e within here is =
      let at : message_at number (messages_view messages) ≡ Some (message_view m) = found messages number place m e within ∙ ap (λ (x : Message A). some_message (message_view x)) (sym here) in
      let same : message_view m ≡ message = message_is before (message_view m) message (sym (ap (option_and_then (message_if before)) at) ∙ is) in
      let low : number - 1 ≡ place = omega (arith, e) in
      rw (low, sym same) (map-set message_view messages place (record m { fate = fate }))

  -- a message that was found is lost
  pub lost : (number : ℕ) (sent sent_now : List (Message A)) (read : Option (Bor (Message A))) → option_map (λ (m : Bor (Message A)). message_view m.now) read ≡ message_in play.Fate.waiting number (messages_view sent) → is_none read ≡ false
      → ((before : play.Fate) (message : play.Message) → message_in before number (messages_view sent) ≡ Some message → messages_view sent_now ≡ with_fate play.Fate.lost number message (messages_view sent))
      → Loses (message_in play.Fate.waiting number (messages_view sent)) number true sent sent_now
  lost number sent sent_now None is some marks = absurd cc
  lost number sent sent_now (Some message) is some marks = rw (sym is) (refl, marks play.Fate.waiting (message_view message.now) (sym is))

  -- a message that was found, and goes to the other side, is received
  pub received : (fate : play.Fate) (number : ℕ) (engine : Engine) (sent sent_now : List (Message A)) (old new : Station A) (before after : List ℕ) (message : play.Message)
      → Some message ≡ message_in fate number (messages_view sent) → bytes_eq message.to (address_of engine) ≡ true
      → ((was : play.Fate) (m : play.Message) → message_in was number (messages_view sent) ≡ Some m → messages_view sent_now ≡ with_fate play.Fate.delivered number m (messages_view sent))
      → ((h : History) → StandsAt h old.engine → Hands h engine (Event.received (address_of (far engine)) message.octets) old new before after)
      → Receives (option_and_then (message_to (address_of engine)) (message_in fate number (messages_view sent))) number engine true sent sent_now old new before after
  received fate number engine sent sent_now old new before after message is there marks hands =
      rw (sym is, there) (refl, marks fate message (sym is), hands)

  -- one that goes elsewhere isn't
  pub strange : (fate : play.Fate) (number : ℕ) (engine : Engine) (sent sent_now : List (Message A)) (old new : Station A) (text : List ℕ) (message : play.Message)
      → Some message ≡ message_in fate number (messages_view sent) → bytes_eq message.to (address_of engine) ≡ false
      → Receives (option_and_then (message_to (address_of engine)) (message_in fate number (messages_view sent))) number engine false sent sent_now old new text text
  strange fate number engine sent sent_now old new text message is elsewhere = rw (sym is, elsewhere) (refl, refl)
