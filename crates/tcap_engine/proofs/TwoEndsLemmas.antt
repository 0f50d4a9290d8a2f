-- Engines that hear one another, followed from run to run.
use Rattle.std.proofs.Common.{◌≡◌, ◌≢◌, ◌+◌, refl, sym, ap, subst, ◌∙◌, ℕ, zero, suc, List, [], ◌∷◌, ◌++◌, take, append_assoc, nat_eq, true, IsTrue, inl, inr}
use Rattle.std.proofs.Math.Nat.{add-zero}
use Rattle.std.specs.List.{list_any}
use Rattle.std.proofs.lemmas.Bool.{cases_Bool, eq-eqb, eqb-true, or_cases, or_right, true≢false}
use Rattle.tcap_engine.proofs.AloneLemmas.{added}
use Rattle.tcap_engine.specs.Running.{after_events, replies}
use Rattle.tcap_engine.specs.TwoEnds.{marked_pair, happened, net_after, AreCarried, HearOneAnother, NewOnesHear, IsGiven, EachAnswerIsGiven, EachCallIsHeard, EachRunIsHeard, EachSendIsSent, EachSendStays, EachMayRely, OthersStay}
use Rattle.tcap_laws.proofs.CallerLemmas.{two_ends}
use Rattle.tcap_model.specs.Histories.History.{History, Start}
use Rattle.tcap_model.specs.Histories.Pair.{Pair, Past}
use Rattle.tcap_model.specs.Replies.Reply.{reply}
use Rattle.tcap_model.specs.Statements.EngineMoves.{with_pair}
use Rattle.tcap_model.specs.Statements.Net.{Engine, Marked, Trace, Places, ComesFromOther, Net, side, answer_sends, was_sent, IsCarried, IsNet, history_in}
use Rattle.tcap_model.specs.Table.World.{World, StandsAt, world_of, first_world}
use Rattle.tcap_model.specs.Words.Address.{Address}
use Rattle.tcap_model.specs.Words.Answer.{Answer}
use Rattle.tcap_model.specs.Words.Event.{Event}

-- ---- the histories of all

-- The history of one of the engines, at a list of what happened to all.
abbrev at : Start → Engine → Trace → History
at start engine trace = record { start = start; pairs = side engine trace }

-- A pair of an engine stands in its own history, and in that of no other.
side-own : (engine : Engine) (pair : Pair) (trace : Trace)
    → side engine (record { engine = engine; pair = pair } ∷ trace) ≡ pair ∷ side engine trace
side-own engine pair trace = rw (eq-eqb engine engine refl) refl

side-other : (engine other : Engine) (pair : Pair) (trace : Trace) → other ≢ engine
    → side other (record { engine = engine; pair = pair } ∷ trace) ≡ side other trace
side-other engine other pair trace differs = elim (cases_Bool (nat_eq other engine)) [
  | inl same ↦ absurd (differs (eqb-true other engine same))
  | inr not ↦ rw not refl
]

-- An event that came to one of them, with the reply that is due to it.
abbrev replied : Engine → Event → History → Trace → Trace
replied engine event h trace = marked_pair h.start.idle_ms engine event (reply h event) ∷ trace

-- The engine's own history has the event, with the reply.
own-step : (start : Start) (engine : Engine) (event : Event) (trace : Trace) (h : History) → at start engine trace ≡ h
    → at start engine (replied engine event h trace) ≡ with_pair h event
own-step start engine event trace h is =
    subst (λ (x : History). at start engine (replied engine event x trace) ≡ with_pair x event) is
    (ap (λ (past : Past). record { start = start; pairs = past }) (side-own engine _ trace))

-- And so the events of a run.
own : (start : Start) (engine : Engine) (events : List Event) (trace : Trace) (h : History) → at start engine trace ≡ h
    → at start engine (happened h.start.idle_ms engine events (replies h events) trace) ≡ after_events h events
own start engine [] trace h is = is
own start engine (event ∷ events) trace h is =
    own start engine events (replied engine event h trace) (with_pair h event)
    (own-step start engine event trace h is)

-- Those of the other engines stay.
others : (idle_ms : ℕ) (engine other : Engine) (events : List Event) (answers : List Answer) (trace : Trace)
    → other ≢ engine → side other (happened idle_ms engine events answers trace) ≡ side other trace
others idle_ms engine other [] answers trace differs = refl
others idle_ms engine other (event ∷ events) [] trace differs = refl
others idle_ms engine other (event ∷ events) (answer ∷ answers) trace differs =
    others idle_ms engine other events answers (_ ∷ trace) differs ∙ side-other engine other _ trace differs

-- ---- what was sent

-- One pair more of any engine takes nothing away.
stays-once : (places : Places) (receiver : Engine) (bytes : List ℕ) (engine other : Engine) (pair : Pair) (trace : Trace)
    → was_sent places receiver bytes (side engine trace) ≡ true
    → was_sent places receiver bytes (side engine (record { engine = other; pair = pair } ∷ trace)) ≡ true
stays-once places receiver bytes engine other pair trace e = elim (cases_Bool (nat_eq engine other)) [
  | inl same ↦ rw same (or_right (answer_sends places receiver bytes pair.answer) _ e)
  | inr not ↦ rw not e
]

stays : (idle_ms : ℕ) (places : Places) (receiver : Engine) (bytes : List ℕ) (engine other : Engine) (events : List Event)
    (answers : List Answer) (trace : Trace) → was_sent places receiver bytes (side engine trace) ≡ true
    → was_sent places receiver bytes (side engine (happened idle_ms other events answers trace)) ≡ true
stays idle_ms places receiver bytes engine other [] answers trace e = e
stays idle_ms places receiver bytes engine other (event ∷ events) [] trace e = e
stays idle_ms places receiver bytes engine other (event ∷ events) (answer ∷ answers) trace e =
    stays idle_ms places receiver bytes engine other events answers (_ ∷ trace)
    (stays-once places receiver bytes engine other _ trace e)

-- A Send in the answer of the newest pair was sent.
sent-now : (places : Places) (receiver : Engine) (bytes : List ℕ) (engine : Engine) (pair : Pair) (trace : Trace)
    → answer_sends places receiver bytes pair.answer ≡ true
    → was_sent places receiver bytes (side engine (record { engine = engine; pair = pair } ∷ trace)) ≡ true
sent-now places receiver bytes engine pair trace e =
    ap (was_sent places receiver bytes) (side-own engine pair trace) ∙ rw e refl

sent-among : (places : Places) (receiver : Engine) (bytes : List ℕ) (h : History) (engine : Engine) (events : List Event)
    (trace : Trace) → list_any (answer_sends places receiver bytes) (replies h events) ≡ true
    → was_sent places receiver bytes (side engine (happened h.start.idle_ms engine events (replies h events) trace))
    ≡ true
sent-among places receiver bytes h engine [] trace e = absurd cc
sent-among places receiver bytes h engine (event ∷ events) trace e =
    elim (or_cases (answer_sends places receiver bytes (reply h event)) _ e) [
      | inl here ↦
          stays h.start.idle_ms places receiver bytes engine engine events (replies (with_pair h event) events)
          (_ ∷ trace) (sent-now places receiver bytes engine
          (record { event = event; answer = reply h event; idle_ms = h.start.idle_ms }) trace here)
      | inr later ↦ sent-among places receiver bytes (with_pair h event) engine events (_ ∷ trace) later
    ]

pub send-sent : EachSendIsSent
send-sent h trace places engine receiver events world before after bytes s sends =
    let is = added h events world before after s in
    rw is (sent-among places receiver bytes h engine events trace
    (subst (λ (xs : List Answer). IsTrue (list_any (answer_sends places receiver bytes) xs)) is sends))

pub send-stays : EachSendStays
send-stays trace idle_ms places engine receiver other events answers bytes sent =
    stays idle_ms places receiver bytes engine other events answers trace sent

-- ---- what is received

-- What comes from another engine does so after one pair more of any.
comes-later : (places : Places) (engine : Engine) (from : Address) (bytes : List ℕ) (m : Marked) (trace : Trace)
    → ComesFromOther places engine from bytes trace → ComesFromOther places engine from bytes (m ∷ trace)
comes-later places engine from bytes m trace comes = record {
  sender = comes.sender;
  is_other = comes.is_other;
  is_from = comes.is_from;
  is_sent = stays-once places engine bytes comes.sender m.engine m.pair trace comes.is_sent;
}

carried-later : (places : Places) (engine : Engine) (events : List Event) (m : Marked) (trace : Trace)
    → AreCarried places engine events trace → AreCarried places engine events (m ∷ trace)
carried-later places engine [] m trace c = tt
carried-later places engine (Event.new_dialogue ∷ events) m trace c =
    (tt, carried-later places engine events m trace c.1)
carried-later places engine (Event.on_dialogue dialogue request ∷ events) m trace c =
    (tt, carried-later places engine events m trace c.1)
carried-later places engine (Event.received from bytes ∷ events) m trace c =
    (comes-later places engine from bytes m trace c.0, carried-later places engine events m trace c.1)
carried-later places engine (Event.moment now ∷ events) m trace c =
    (tt, carried-later places engine events m trace c.1)

carried : (places : Places) (idle_ms : ℕ) (engine : Engine) (events : List Event) (answers : List Answer) (trace : Trace)
    → AreCarried places engine events trace → IsCarried places trace
    → IsCarried places (happened idle_ms engine events answers trace)
carried places idle_ms engine [] answers trace c all = all
carried places idle_ms engine (event ∷ events) [] trace c all = all
carried places idle_ms engine (event ∷ events) (answer ∷ answers) trace c all =
    carried places idle_ms engine events answers (_ ∷ trace) (carried-later places engine events _ trace c.1)
    (c.0, all)

-- ---- all engines

-- Engines at what happened to all.
abbrev AllAt : (Engine → Start) → Trace → (Engine → World) → Type 0
AllAt start trace engines = (engine : Engine) → StandsAt (at (start engine) engine trace) (engines engine)

-- A run of one of them, whose history is this one now, and that leaves the others.
all-at : (start : Engine → Start) (trace later : Trace) (old new : Engine → World) (engine : Engine)
    → AllAt start trace old → StandsAt (at (start engine) engine later) (new engine)
    → ((other : Engine) → other ≢ engine → side other later ≡ side other trace) → OthersStay engine old new
    → AllAt start later new
all-at start trace later old new engine stood stands same still other = elim (cases_Bool (nat_eq other engine)) [
  | inl here ↦ subst (λ (e : Engine). StandsAt (at (start e) e later) (new e)) (sym (eqb-true other engine here)) stands
  | inr not ↦
      let differs : other ≢ engine = λ is. absurd (true≢false (sym (eq-eqb other engine is) ∙ not)) in
      subst (StandsAt (at (start other) other later)) (sym (still other differs))
      (subst (λ (past : Past). StandsAt (record { start = start other; pairs = past }) (old other))
      (sym (same other differs)) (stood other))
]

-- The net after a run whose answers are the replies.
heard : (net : Net) (old new : Engine → World) (engine : Engine) (events : List Event)
    → HearOneAnother net old → AreCarried net.places engine events net.trace
    → StandsAt (after_events (history_in net engine net.trace) events) (new engine) → OthersStay engine old new
    → HearOneAnother (net_after engine events (replies (history_in net engine net.trace) events) net) new
heard net old new engine events hear c stands still =
    let h : History = history_in net engine net.trace in
    let answers : List Answer = replies h events in
    let idle_ms : ℕ = (net.start engine).idle_ms in
    record {
      stands =
          all-at net.start net.trace (happened idle_ms engine events answers net.trace) old new engine hear.stands
          (subst (λ (x : History). StandsAt x (new engine))
          (sym (own (net.start engine) engine events net.trace h refl)) stands)
          (λ other differs. others idle_ms engine other events answers net.trace differs) still;
      are_apart = hear.are_apart;
      is_carried = carried net.places idle_ms engine events answers net.trace c hear.is_carried;
    }

-- An engine with these counters, and nothing else but its limits.
abbrev with_counters : Start → ℕ → ℕ → World
with_counters start dialogue number = record (first_world start) { next_dialogue = dialogue; next_number = number }

new-world : (start : Start) → first_world start ≡ world_of (record { start = start; pairs = [] })
new-world start =
    ap (λ (n : ℕ). with_counters start n start.next_number) (sym (add-zero start.next_dialogue))
    ∙ ap (λ (n : ℕ). with_counters start (start.next_dialogue + 0) n) (sym (add-zero start.next_number))

pub new-hear : NewOnesHear
new-hear start places engines starts new apart = record {
  stands = λ engine. record { is_legal = (starts engine, tt); is_world = new engine ∙ new-world (start engine) };
  are_apart = apart;
  is_carried = tt;
}

-- What the first of some events bring was sent too.
carried-front : (places : Places) (engine : Engine) (count : ℕ) (events : List Event) (trace : Trace)
    → AreCarried places engine events trace → AreCarried places engine (take count events) trace
carried-front places engine zero events trace c = tt
carried-front places engine (suc count) [] trace c = tt
carried-front places engine (suc count) (event ∷ events) trace c =
    (c.0, carried-front places engine count events trace c.1)

pub run-heard : EachRunIsHeard
run-heard net old new engine events count before after hear c s still =
    let front = take count events in
    rw (added (history_in net engine net.trace) front (new engine) before after s)
    (heard net old new engine front hear (carried-front net.places engine count events net.trace c) s.stands still)

pub call-heard : EachCallIsHeard
call-heard net old new engine event answer hear c s still =
    rw s.is_reply (heard net old new engine (event ∷ []) hear (c, tt) s.stands still)

pub may-rely : EachMayRely
may-rely net engines hear =
    let is : IsNet net = record {
      is_legal = λ engine. (hear.stands engine).is_legal;
      are_apart = hear.are_apart;
      is_carried = hear.is_carried;
    } in
    record { is_net = is; two_ends = two_ends net is }

-- ---- what was answered

-- What happened before stays.
adds : (idle_ms : ℕ) (engine : Engine) (events : List Event) (answers : List Answer) (trace : Trace)
    → (later : Trace) × (happened idle_ms engine events answers trace ≡ later ++ trace)
adds idle_ms engine [] answers trace = ([], refl)
adds idle_ms engine (event ∷ events) [] trace = ([], refl)
adds idle_ms engine (event ∷ events) (answer ∷ answers) trace =
    let here : Trace = marked_pair idle_ms engine event answer ∷ [] in
    let more = adds idle_ms engine events answers (here ++ trace) in
    (more.0 ++ here, more.1 ∙ sym (append_assoc more.0 here trace))

given : (h : History) (engine : Engine) (events : List Event) (earlier later : List Answer) (answer : Answer) (trace : Trace)
    → replies h events ≡ earlier ++ answer ∷ later
    → IsGiven engine answer (happened h.start.idle_ms engine events (replies h events) trace)
given h engine [] [] later answer trace e = absurd cc
given h engine [] (other ∷ earlier) later answer trace e = absurd cc
given h engine (event ∷ events) [] later answer trace e =
    let is : reply h event ≡ answer = cc in
    let first : Marked = marked_pair h.start.idle_ms engine event (reply h event) in
    let more = adds h.start.idle_ms engine events (replies (with_pair h event) events) (first ∷ trace) in
    subst (λ (x : Answer). IsGiven engine x (happened h.start.idle_ms engine (event ∷ events) (replies h (event ∷ events)) trace)) is
    (record { event = event; idle_ms = h.start.idle_ms; before = trace; happens = record { later = more.0; is_trace = more.1 } })
given h engine (event ∷ events) (other ∷ earlier) later answer trace e =
    given (with_pair h event) engine events earlier later answer (_ ∷ trace) cc

pub answer-given : EachAnswerIsGiven
answer-given h trace engine events world before after earlier later answer s e =
    let is = added h events world before after s in
    rw is (given h engine events earlier later answer trace (sym is ∙ e))
