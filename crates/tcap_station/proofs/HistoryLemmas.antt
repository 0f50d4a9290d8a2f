-- What a call of a station says of the history at which its engine stands.
use Rattle.std.proofs.Common.{◌≡◌, ℕ, List, ◌++◌, Result, Ok, Err, sym, ap, ◌∙◌, subst}
use Rattle.ber_core.specs.declared.fault.OutOfMemory.{OutOfMemory}
use Rattle.tcap_engine.specs.HistoryForm.{Stands, StandsOn, StandsReceived}
use Rattle.tcap_engine.specs.Running.{outputs_in}
use Rattle.tcap_engine.specs.StepForm.{EngineAnswers, EngineReceives, since_answer}
use Rattle.tcap_model.specs.Histories.History.{History}
use Rattle.tcap_model.specs.Replies.Reply.{reply}
use Rattle.tcap_model.specs.Table.EngineMove.{EngineMoved, engine_move}
use Rattle.tcap_model.specs.Table.World.{World, StandsAt}
use Rattle.tcap_model.specs.Words.Answer.{Answer}
use Rattle.tcap_model.specs.Words.Event.{Event}
use Rattle.tcap_model.specs.Words.Output.{Output}
use Rattle.tcap_primitives.specs.declared.fault.Fault.{Fault}
use Rattle.tcap_station.specs.HistoryForm.{StandsTaken, StandsTold, TakenOn}
use Rattle.tcap_station.specs.Station.{StationState, with_event}
use Rattle.tcap_station.specs.StepForm.{Takes, TakesReceived, TakesWithin, outputs_of}
use Rattle.tcap_station.specs.WaitingOutput.{numbered_outputs}

module _ (h : History) (event : Event) (m : EngineMoved) (old new : StationState) where
  -- An event is accepted: what is given is the reply, and waits behind what waited.
  taken-on : (given answer : Answer) → given ≡ m.answer → answer ≡ m.answer → StandsOn h event given new.engine → new ≡ with_event m old
      → TakenOn h event answer old new
  taken-on given answer moves is stands with =
      let reply-is : m.answer ≡ reply h event = sym moves ∙ stands.is_reply in
      record {
        is_reply = is ∙ reply-is;
        waits =
            ap (λ (s : StationState). s.waiting) with
            ∙ ap (λ (n : ℕ). old.waiting ++ numbered_outputs n (outputs_in m.answer)) (sym (ap (λ (s : StationState). s.events) with))
            ∙ ap (λ (a : Answer). old.waiting ++ numbered_outputs new.events (outputs_in a)) reply-is;
        stands = stands.stands;
        headline = stands.headline;
      }

  -- The same, where it is answered with what is sent and told.
  told-on : (given : Answer) → given ≡ m.answer → Answer.outputs (outputs_in m.answer) ≡ m.answer → StandsOn h event given new.engine → new ≡ with_event m old
      → TakenOn h event (Answer.outputs (outputs_in (reply h event))) old new
  told-on given moves is stands with =
      subst (λ (a : Answer). TakenOn h event (Answer.outputs (outputs_in a)) old new) (sym moves ∙ stands.is_reply)
      (taken-on given (Answer.outputs (outputs_in m.answer)) moves is stands with)

-- Where nothing has changed, the engine stands at the history still.
same-stands : (h : History) (old new : StationState) → new ≡ old → StandsAt h old.engine → StandsAt h new.engine
same-stands h old new same at = subst (λ (s : StationState). StandsAt h s.engine) (sym same) at

-- A call whose answer is a value.
pub stands-taken : {T : Type 0} → (view : T → Answer) (answer result : Result T Fault) (event : Event) (m : EngineMoved) (engine : World) (old new : StationState)
    → engine ≡ old.engine → result ≡ answer → Takes view result m old new → Stands view answer event engine new.engine
    → StandsTaken view result event old new
stands-taken {T} view (Ok x) result event m engine old new same is takes stands =
    let t = subst (λ (r : Result T Fault). Takes view r m old new) is takes in
    rw is (λ h at. taken-on h event m old new (view x) (view x) t.0 t.0 (stands h (subst (StandsAt h) (sym same) at)) t.1)
stands-taken {T} view (Err f) result event m engine old new same is takes stands =
    let t = subst (λ (r : Result T Fault). Takes view r m old new) is takes in
    rw is (λ h at. same-stands h old new t.0 at)

-- An event was accepted that tells, or nothing has changed.
abbrev pub IsTold : {E : Type 0} → Result (Unit {0}) E → EngineMoved → StationState → StationState → Type 0
IsTold (Ok x) m old new = (outputs_of m x ≡ m.answer) × (new ≡ with_event m old)
IsTold (Err refused) m old new = new ≡ old

pub takes-told : (result : Result (Unit {0}) Fault) (m : EngineMoved) (old new : StationState) → Takes (outputs_of m) result m old new → IsTold result m old new
takes-told (Ok x) m old new takes = takes
takes-told (Err f) m old new takes = takes.0

pub within-told : (result : Result (Unit {0}) Fault) (m : EngineMoved) (old new : StationState) → TakesWithin result m old new → IsTold result m old new
within-told (Ok x) m old new takes = (takes.1, takes.2)
within-told (Err f) m old new takes = takes.0

pub received-told : (result : Result (Unit {0}) OutOfMemory) (m : EngineMoved) (old new : StationState) → TakesReceived result m old new → IsTold result m old new
received-told (Ok x) m old new takes = takes
received-told (Err refused) m old new takes = takes

-- A call that tells.
pub stands-told : (answer result : Result (Unit {0}) Fault) (event : Event) (engine : World) (before after : List Output) (old new : StationState)
    → engine ≡ old.engine → result ≡ answer → EngineAnswers (since_answer before after) answer (engine_move engine event) engine new.engine
    → IsTold result (engine_move old.engine event) old new → Stands (since_answer before after) answer event engine new.engine
    → StandsTold result event old new
stands-told (Ok x) result event engine before after old new same is answers told stands =
    let t = subst (λ (r : Result (Unit {0}) Fault). IsTold r (engine_move old.engine event) old new) is told in
    let moves = answers.0 ∙ ap (λ (w : World). (engine_move w event).answer) same in
    rw is (λ h at. told-on h event (engine_move old.engine event) old new (since_answer before after x) moves t.0 (stands h (subst (StandsAt h) (sym same) at)) t.1)
stands-told (Err f) result event engine before after old new same is answers told stands =
    let t = subst (λ (r : Result (Unit {0}) Fault). IsTold r (engine_move old.engine event) old new) is told in
    rw is (λ h at. same-stands h old new t at)

-- Bytes.
pub stands-received : (answer result : Result (Unit {0}) OutOfMemory) (event : Event) (engine : World) (before after : List Output) (old new : StationState)
    → engine ≡ old.engine → result ≡ answer → EngineReceives (since_answer before after) answer (engine_move engine event) engine new.engine
    → IsTold result (engine_move old.engine event) old new → StandsReceived (since_answer before after) answer event engine new.engine
    → StandsTold result event old new
stands-received (Ok x) result event engine before after old new same is answers told stands =
    let t = subst (λ (r : Result (Unit {0}) OutOfMemory). IsTold r (engine_move old.engine event) old new) is told in
    let moves = answers.0 ∙ ap (λ (w : World). (engine_move w event).answer) same in
    rw is (λ h at. told-on h event (engine_move old.engine event) old new (since_answer before after x) moves t.0 (stands h (subst (StandsAt h) (sym same) at)) t.1)
stands-received (Err refused) result event engine before after old new same is answers told stands =
    let t = subst (λ (r : Result (Unit {0}) OutOfMemory). IsTold r (engine_move old.engine event) old new) is told in
    rw is (λ h at. same-stands h old new t at)
