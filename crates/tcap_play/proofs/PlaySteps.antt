-- Steps of a play.
use Rattle.std.proofs.Common.{◌≡◌, ◌++◌, ◌∙◌, ℕ, Bool, List, length, Option, Some, None, sym, ap}
use Rattle.std.specs.Option.{option_map, option_and_then}
use Rattle.std.proofs.lemmas.List.{append_assoc, length-map}
use Rattle.tcap_model.specs.Replies.Reply.{reply}
use Rattle.tcap_model.specs.Words.Event.{Event}
use Rattle.tcap_play.specs.AnswerText.{answer_lines}
use Rattle.tcap_play.specs.Sides.{Engine, address_of}
use Rattle.tcap_play.specs.Play.{Fate, Message as Sent, Played, Stepped, carried, followed, history_of, message_in, message_to, messages_in, received_from}
use Rattle.tcap_play.specs.PlayViews.{Does, HasStepped, IsAt, Receives, messages_view}
use Rattle.tcap_play.specs.declared.message.Message.{Message}
use Rattle.tcap_play.specs.declared.station.Station.{Station}

module _ {A : Type 0} where
  -- one step and another after it
  pub after_both : (first : Stepped) (next : Played → Stepped) (a b a' b' : Station A) (old mid new : List ℕ) → HasStepped first a b old mid → ((q : Played) → IsAt q a b → HasStepped (next q) a' b' mid new) → HasStepped (followed first next) a' b' old new
  after_both first next a b a' b' old mid new one later =
      let two = later first.after one.is_at in
      record { is_at = two.is_at; is_text = two.is_text ∙ ap (λ t. t ++ (next first.after).text) one.is_text ∙ append_assoc old first.text (next first.after).text }

  -- as many messages are seen as there are
  as_many : (messages : List (Message A)) (seen : List _) → seen ≡ messages_view messages → length messages ≡ length seen
  as_many messages seen is = sym (ap length is ∙ length-map _ _)

  -- a message of A was received by B
  pub received_by_b : (p : Played) (number : ℕ) (fate : Fate) (a a' b b' : Station A) (done : Bool) (before after : List ℕ) → IsAt p a b → a'.engine ≡ a.engine
      → Receives (option_and_then (message_to (address_of Engine.b)) (message_in fate number (messages_view a.sent.items))) number Engine.b done a.sent.items a'.sent.items b b' before after
      → Does (option_map (received_from (record { engine = Engine.a; number = number }) Fate.delivered p) (carried (record { engine = Engine.a; number = number }) fate p)) done a' b' before after
  received_by_b p number fate a a' b b' done before after at kept does =
      go (carried (record { engine = Engine.a; number = number }) fate p) (rw at.a_sent does) where
        go : (found : Option Sent) → Receives found number Engine.b done a.sent.items a'.sent.items b b' before after
            → Does (option_map (received_from (record { engine = Engine.a; number = number }) Fate.delivered p) found) done a' b' before after
        go None does = does
        go (Some message) does =
            let hands = does.2 (history_of Engine.b p) at.b_stands in (
              does.0,
              record {
                is_at = record {
                  a_stands = rw kept at.a_stands;
                  b_stands = hands.stands;
                  a_sent = rw at.a_sent (sym does.1);
                  b_sent = ap (λ xs. xs ++ messages_in (reply (history_of Engine.b p) (Event.received (address_of Engine.a) message.octets))) at.b_sent ∙ sym hands.keeps;
                };
                is_text = hands.prints ∙ ap (λ n. before ++ answer_lines Engine.b n (reply (history_of Engine.b p) (Event.received (address_of Engine.a) message.octets))) (as_many b.sent.items p.from_b at.b_sent);
              },
            )

  -- a message of B was received by A
  pub received_by_a : (p : Played) (number : ℕ) (fate : Fate) (a a' b b' : Station A) (done : Bool) (before after : List ℕ) → IsAt p a b → b'.engine ≡ b.engine
      → Receives (option_and_then (message_to (address_of Engine.a)) (message_in fate number (messages_view b.sent.items))) number Engine.a done b.sent.items b'.sent.items a a' before after
      → Does (option_map (received_from (record { engine = Engine.b; number = number }) Fate.delivered p) (carried (record { engine = Engine.b; number = number }) fate p)) done a' b' before after
  received_by_a p number fate a a' b b' done before after at kept does =
      go (carried (record { engine = Engine.b; number = number }) fate p) (rw at.b_sent does) where
        go : (found : Option Sent) → Receives found number Engine.a done b.sent.items b'.sent.items a a' before after
            → Does (option_map (received_from (record { engine = Engine.b; number = number }) Fate.delivered p) found) done a' b' before after
        go None does = does
        go (Some message) does =
            let hands = does.2 (history_of Engine.a p) at.a_stands in (
              does.0,
              record {
                is_at = record {
                  a_stands = hands.stands;
                  b_stands = rw kept at.b_stands;
                  a_sent = ap (λ xs. xs ++ messages_in (reply (history_of Engine.a p) (Event.received (address_of Engine.b) message.octets))) at.a_sent ∙ sym hands.keeps;
                  b_sent = rw at.b_sent (sym does.1);
                };
                is_text = hands.prints ∙ ap (λ n. before ++ answer_lines Engine.a n (reply (history_of Engine.a p) (Event.received (address_of Engine.b) message.octets))) (as_many a.sent.items p.from_a at.a_sent);
              },
            )
