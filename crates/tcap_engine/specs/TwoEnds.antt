-- Engines that hear one another and nobody else, for whoever runs them.
use Rattle.std.specs.Prelude.{◌≡◌, ◌≢◌, ℕ, List, [], ◌∷◌, ◌++◌, take, IsTrue}
use Rattle.std.specs.List.{list_any}
use Rattle.tcap_engine.specs.HistoryForm.{StandsOn}
use Rattle.tcap_engine.specs.Running.{StandsThrough, new_answers}
use Rattle.tcap_model.specs.Histories.History.{History, Start}
use Rattle.tcap_model.specs.Replies.Legal.{is_start}
use Rattle.tcap_model.specs.Statements.FarAnswer.{Happens}
use Rattle.tcap_model.specs.Statements.Net.{Marked, Engine, Trace, Places, AreApart, Net, side, answer_sends, was_sent, IsCarriedTo, IsCarried, IsNet, history_in}
use Rattle.tcap_model.specs.Statements.TwoEnds.{TwoEnds}
use Rattle.tcap_model.specs.Table.World.{World, StandsAt, first_world}
use Rattle.tcap_model.specs.Words.Answer.{Answer}
use Rattle.tcap_model.specs.Words.Event.{Event}

-- ---- what happened

-- An event that came to one of the engines, which has this idle limit, and its answer (own).
abbrev pub marked_pair : ℕ → Engine → Event → Answer → Marked
marked_pair idle_ms engine event answer =
    record { engine = engine; pair = record { event = event; answer = answer; idle_ms = idle_ms } }

-- What happened to all engines, where some events came to one of them, which has this idle limit, and were
-- answered so, in order of time, after what happened before (own).
abbrev pub happened : ℕ → Engine → List Event → List Answer → Trace → Trace
happened idle_ms engine [] answers trace = trace
happened idle_ms engine (event ∷ events) [] trace = trace
happened idle_ms engine (event ∷ events) (answer ∷ answers) trace =
    happened idle_ms engine events answers (marked_pair idle_ms engine event answer ∷ trace)

-- The net after these events and answers of an engine: what the engines started with and where they are
-- stays (own).
abbrev pub net_after : Engine → List Event → List Answer → Net → Net
net_after engine events answers net = record net {
  trace = happened (net.start engine).idle_ms engine events answers net.trace;
}

-- What one engine receives among some events comes from another, which sent it in an earlier answer (own).
abbrev pub AreCarried : Places → Engine → List Event → Trace → Type 0
AreCarried places engine [] trace = Unit {0}
AreCarried places engine (event ∷ events) trace =
    IsCarriedTo places engine event trace × AreCarried places engine events trace

-- ---- all engines

-- Any number of engines hear one another and nobody else: in one list of their pairs in time, each stands at
-- the history of its own pairs, and what one received is a Send of another to it in an earlier answer; no
-- address is that of two (own).
pub record HearOneAnother (net : Net) (engines : Engine → World) : Type 0 where
  pub stands : (engine : Engine) → StandsAt (history_in net engine net.trace) (engines engine)
  pub are_apart : AreApart net.places
  pub is_carried : IsCarried net.places net.trace

-- All engines but this one stay as they are (own).
abbrev pub OthersStay : Engine → (Engine → World) → (Engine → World) → Type 0
OthersStay engine old new = (other : Engine) → other ≢ engine → new other ≡ old other

-- ---- what follows

-- Engines to which nothing has come yet do, wherever they are (own).
abbrev pub NewOnesHear : Type 0
NewOnesHear =
    (start : Engine → Start) (places : Places) (engines : Engine → World) →
    ((engine : Engine) → IsTrue (is_start (start engine))) →
    ((engine : Engine) → engines engine ≡ first_world (start engine)) → AreApart places →
    HearOneAnother (record { start = start; places = places; trace = [] }) engines

-- Where they do, an event comes to one of them, and the others stay as they are, they do then (own).
abbrev pub EachCallIsHeard : Type 0
EachCallIsHeard =
    (net : Net) (old new : Engine → World) (engine : Engine) (event : Event) (answer : Answer) →
    HearOneAnother net old → IsCarriedTo net.places engine event net.trace →
    StandsOn (history_in net engine net.trace) event answer (new engine) → OthersStay engine old new →
    HearOneAnother (net_after engine (event ∷ []) (answer ∷ []) net) new

-- Engines that receive from one another alone still do after a run over events, of which so many were done
-- (own).
abbrev pub EachRunIsHeard : Type 0
EachRunIsHeard =
    (net : Net) (old new : Engine → World) (engine : Engine) (events : List Event) (count : ℕ)
    (before after : List Answer) → HearOneAnother net old → AreCarried net.places engine events net.trace →
    StandsThrough (history_in net engine net.trace) (take count events) (new engine) before after →
    OthersStay engine old new →
    HearOneAnother (net_after engine (take count events) (new_answers before after) net) new

-- Each Send in an answer that a run adds was sent by then, and may be received by the engine at whose
-- addresses its destination is, from any address of the one that sent it (own).
abbrev pub EachSendIsSent : Type 0
EachSendIsSent =
    (h : History) (trace : Trace) (places : Places) (engine receiver : Engine) (events : List Event) (world : World)
    (before after : List Answer) (bytes : List ℕ) → StandsThrough h events world before after →
    IsTrue (list_any (answer_sends places receiver bytes) (new_answers before after)) →
    IsTrue (was_sent places receiver bytes
    (side engine (happened h.start.idle_ms engine events (new_answers before after) trace)))

-- What was sent before may be received after a run of any engine too (own).
abbrev pub EachSendStays : Type 0
EachSendStays =
    (trace : Trace) (idle_ms : ℕ) (places : Places) (engine receiver other : Engine) (events : List Event)
    (answers : List Answer) (bytes : List ℕ) → IsTrue (was_sent places receiver bytes (side engine trace)) →
    IsTrue (was_sent places receiver bytes (side engine (happened idle_ms other events answers trace)))

-- An engine gave an answer: it is that of a pair in the list of what happened to all (own).
pub record IsGiven (engine : Engine) (answer : Answer) (trace : Trace) : Type 0 where
  pub event : Event
  pub idle_ms : ℕ
  pub before : Trace
  pub happens : Happens engine (record { event = event; answer = answer; idle_ms = idle_ms }) before trace

-- Each answer that a run adds is (own).
abbrev pub EachAnswerIsGiven : Type 0
EachAnswerIsGiven =
    (h : History) (trace : Trace) (engine : Engine) (events : List Event) (world : World)
    (before after earlier later : List Answer) (answer : Answer) → StandsThrough h events world before after →
    new_answers before after ≡ earlier ++ answer ∷ later →
    IsGiven engine answer (happened h.start.idle_ms engine events (new_answers before after) trace)

-- What happened to engines that hear one another meets Net, and of their answers the users at both ends may
-- rely on the origin of each answer, that it names its invocation and comes after the Invoke, that one closes
-- at most, and on the operations (own).
pub record RelyOnAll (net : Net) : Type 0 where
  pub is_net : IsNet net
  pub two_ends : TwoEnds net.places net.trace

-- It holds of any engines that hear one another (own).
abbrev pub EachMayRely : Type 0
EachMayRely = (net : Net) (engines : Engine → World) → HearOneAnother net engines → RelyOnAll net
