-- Messages and a play as a contract sees them.
use Rattle.std.specs.Prelude.{◌≡◌, ◌++◌, ◌∷◌, ℕ, Bool, true, false, List, map, Option, Some, None, length, slice_index_or, ◌+◌, ◌<◌}
use Rattle.std.specs.Option.{option_map, option_and_then}
use Rattle.tcap_model.specs.Table.World.{StandsAt}
use Rattle.tcap_model.specs.Histories.History.{History}
use Rattle.tcap_model.specs.Replies.Reply.{reply}
use Rattle.tcap_model.specs.Statements.EngineMoves.{with_pair}
use Rattle.tcap_model.specs.Words.Event.{Event}
use Rattle.tcap_model.specs.Words.Output.{Output}
use Rattle.tcap_play.specs.AnswerText.{answer_lines}
use Rattle.tcap_play.specs.LineViews.{name_view}
use Rattle.tcap_play.specs.Pieces.{pieces_left}
use Rattle.tcap_play.specs.Play as play
use Rattle.tcap_play.specs.Play.{Played, Stepped, behind, carried, followed, handed, has_fate, history_of, lost_from, message_in, message_to, messages_in, messages_of, printed_from, received_from, sent_by, step, with_fate}
use Rattle.tcap_play.specs.ScriptLine.{ScriptLine}
use Rattle.tcap_play.specs.SideView.{side_view}
use Rattle.tcap_play.specs.Sides.{Engine, address_of, far}
use Rattle.tcap_play.specs.declared.message.Message.{Message}
use Rattle.tcap_play.specs.declared.opening.Opening.{Opening}
use Rattle.tcap_play.specs.declared.script.values.Name.{Name}
use Rattle.tcap_play.specs.declared.side.Side.{Side}
use Rattle.tcap_play.specs.declared.station.Station.{Station}
use Rattle.tcap_text.specs.declared.fate.Fate.{Fate}
use Rattle.tcap_text.specs.declared.fate.Fate.TheVariants as fate

-- What became of a message (own).
abbrev pub fate_view : Fate → play.Fate
fate_view fate.Waiting = play.Fate.waiting
fate_view fate.Delivered = play.Fate.delivered
fate_view fate.Lost = play.Fate.lost

-- A message (own).
abbrev pub message_view : {A : Type 0} → Message A → play.Message
message_view message = record { to = message.to; octets = message.octets.items; fate = fate_view message.fate }

-- Messages (own).
abbrev pub messages_view : {A : Type 0} → List (Message A) → List play.Message
messages_view messages = map message_view messages

-- An engine at a history was handed an event: it stands at the history with the event's pair, what its
-- answer sends is kept, and the answer is printed (own).
pub record Hands {A : Type 0} (h : History) (engine : Engine) (event : Event) (old new : Station A) (before after : List ℕ) : Type 0 where
  pub stands : StandsAt (with_pair h event) new.engine
  pub keeps : messages_view new.sent.items ≡ messages_view old.sent.items ++ messages_in (reply h event)
  pub prints : after ≡ before ++ answer_lines engine (length old.sent.items) (reply h event)

-- These two sides stand at a play: each engine at its history, with the messages that it sent (own).
pub record IsAt {A : Type 0} (p : Played) (a b : Station A) : Type 0 where
  pub a_stands : StandsAt (history_of Engine.a p) a.engine
  pub b_stands : StandsAt (history_of Engine.b p) b.engine
  pub a_sent : p.from_a ≡ messages_view a.sent.items
  pub b_sent : p.from_b ≡ messages_view b.sent.items

-- After a step: its text was added, and the two sides stand at the play after it (own).
pub record HasStepped {A : Type 0} (stepped : Stepped) (a b : Station A) (before after : List ℕ) : Type 0 where
  pub is_at : IsAt stepped.after a b
  pub is_text : after ≡ before ++ stepped.text

-- The message with this number stands at this place among messages, and is in this state (own).
pub record IsThere {A : Type 0} (fate : play.Fate) (number : ℕ) (messages : List (Message A)) (place : ℕ) : Type 0 where
  pub is_number : number ≡ place + 1
  pub within : place < length messages
  pub is_fate : (d : Message A) → has_fate fate (fate_view (slice_index_or messages place d).fate) ≡ true

-- A message that was received: its octets were handed to the engine of the other side, and it is in its
-- new state; or there is none with this number in the state that was asked for, or it goes elsewhere (own).
abbrev pub Receives : {A : Type 0} → Option play.Message → ℕ → Engine → Bool → (sent sent_now : List (Message A)) → (old new : Station A) → (before after : List ℕ) → Type 0
Receives None number engine done sent sent_now old new before after = (done ≡ false) × (after ≡ before)
Receives (Some message) number engine done sent sent_now old new before after =
    (done ≡ true) × (messages_view sent_now ≡ with_fate play.Fate.delivered number message (messages_view sent))
    × ((h : History) → StandsAt h old.engine →
    Hands h engine (Event.received (address_of (far engine)) message.octets) old new before after)

-- A message that is lost, or there is none with this number that waits (own).
abbrev pub Loses : {A : Type 0} → Option play.Message → ℕ → Bool → (sent sent_now : List (Message A)) → Type 0
Loses None number done sent sent_now = done ≡ false
Loses (Some message) number done sent sent_now =
    (done ≡ true) × (messages_view sent_now ≡ with_fate play.Fate.lost number message (messages_view sent))

-- Whether there was a step: where there is none nothing was printed (own).
abbrev pub Does : {A : Type 0} → Option Stepped → Bool → Station A → Station A → List ℕ → List ℕ → Type 0
Does None done a b before after = (done ≡ false) × (after ≡ before)
Does (Some stepped) done a b before after = (done ≡ true) × HasStepped stepped a b before after

-- After the line of this number: where the play goes on, what is printed from this line on is what was
-- added here and then what is printed from the next on; where it doesn't, it is what was added, and
-- isn't good (own).
abbrev pub GoesOn : {A : Type 0} → ℕ → List ℕ → Played → Bool → Station A → Station A → List ℕ → List ℕ → Type 0
GoesOn number line p true a b before after = (q : Played) × IsAt q a b
    × ((lines : List (List ℕ)) → behind before (printed_from number p (line ∷ lines)) ≡ behind after (printed_from (number + 1) q lines))
GoesOn number line p false a b before after =
    (lines : List (List ℕ)) → behind before (printed_from number p (line ∷ lines)) ≡ record { text = after; good = false }

-- ---- what the calls of a play do

-- The message with this number among those that a side sent, where it is in this state and goes to the other
-- side, which is this one (own).
abbrev pub message_for : {A : Type 0} → Side → Fate → ℕ → List (Message A) → Option play.Message
message_for side fate number sent =
    option_and_then (message_to (address_of (side_view side))) (message_in (fate_view fate) number (messages_view sent))

-- The message with this number of one station was received by the station of this side, or there was none
-- that could be (own).
abbrev pub ReceivesFrom : {A : Type 0} → Side → Fate → ℕ → Bool → (from from_now to to_now : Station A) → (before after : List ℕ) → Type 0
ReceivesFrom side fate number done from from_now to to_now before after =
    Receives (message_for side fate number from.sent.items) number (side_view side) done from.sent.items from_now.sent.items to to_now before after

-- What the play does when the message of a name, in this state, is received on the other side (own).
abbrev pub received_by : Name → Fate → Played → Option Stepped
received_by name fate p =
    option_map (received_from (name_view name) play.Fate.delivered p) (carried (name_view name) (fate_view fate) p)

-- What the play does when the message of a name, which waits, is lost (own).
abbrev pub lost_by : Name → Played → Option Stepped
lost_by name p =
    option_map (lost_from (name_view name) p) (message_in play.Fate.waiting name.number (sent_by (side_view name.side) p))

-- What the play does when both engines are at a moment, A first (own).
abbrev pub advanced_to : ℕ → Played → Stepped
advanced_to now p = followed (handed Engine.a (Event.moment now) p) (handed Engine.b (Event.moment now))

-- At each play at which these two sides stand there is this step (own).
abbrev pub StepsBy : {A : Type 0} → (Played → Stepped) → (a b a_now b_now : Station A) → (before after : List ℕ) → Type 0
StepsBy says a b a_now b_now before after = (p : Played) → IsAt p a b → HasStepped (says p) a_now b_now before after

-- At each play at which these two sides stand there is this step, or none, and it was told which (own).
abbrev pub ActsBy : {A : Type 0} → (Played → Option Stepped) → Bool → (a b a_now b_now : Station A) → (before after : List ℕ) → Type 0
ActsBy says done a b a_now b_now before after = (p : Played) → IsAt p a b → Does (says p) done a_now b_now before after

-- At each play at which these two sides stand there is the step that a line asks for, if it is one, or
-- none, and it was told which (own).
abbrev pub ActsOn : {A : Type 0} → Option ScriptLine → Bool → (a b a_now b_now : Station A) → (before after : List ℕ) → Type 0
ActsOn line done a b a_now b_now before after =
    ActsBy (λ p. option_and_then (step p) line) done a b a_now b_now before after

-- At each play at which these two sides stand it goes on behind this line, or ends with it (own).
abbrev pub GoesOnAt : {A : Type 0} → ℕ → List ℕ → Bool → (a b a_now b_now : Station A) → (before after : List ℕ) → Type 0
GoesOnAt number line going a b a_now b_now before after =
    (p : Played) → IsAt p a b → GoesOn number line p going a_now b_now before after

-- What the play prints from its first line on, at each play at which these two sides stand, was added (own).
abbrev pub PrintsAll : {A : Type 0} → Opening → Bool → (a b : Station A) → (before after : List ℕ) → Type 0
PrintsAll opening good a b before after =
    (p : Played) → IsAt p a b → behind before (printed_from (opening.passed + 1) p (pieces_left 10 opening.rest)) ≡ record { text = after; good = good }

-- Any message with this number, in whatever state it was, is in this one (own).
abbrev pub SetsFate : {A : Type 0} → Fate → ℕ → (sent sent_now : List (Message A)) → Type 0
SetsFate fate number sent sent_now =
    (before : play.Fate) (message : play.Message) → message_in before number (messages_view sent) ≡ Some message
    → messages_view sent_now ≡ with_fate (fate_view fate) number message (messages_view sent)

-- The message that an output sends, if it sends one, is kept behind those that were sent (own).
abbrev pub KeepsOutput : {A : Type 0} → Output → (sent sent_now : List (Message A)) → Type 0
KeepsOutput output sent sent_now =
    (later : List Output) → messages_view sent ++ messages_of (output ∷ later) ≡ messages_view sent_now ++ messages_of later

-- At each history at which the engine of a side stands it was handed this event (own).
abbrev pub HandsAt : {A : Type 0} → Side → Event → (old new : Station A) → (before after : List ℕ) → Type 0
HandsAt side event old new before after =
    (h : History) → StandsAt h old.engine → Hands h (side_view side) event old new before after
