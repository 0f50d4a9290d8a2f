-- A call of an engine, as a call of its station.
use Rattle.std.proofs.Common.{◌≡◌, ℕ, ◌-◌, false, List, [], ◌++◌, length, inl, inr, Result, Ok, Err, refl, sym, ap, ◌∙◌, arith}
use Rattle.std.proofs.lemmas.List.{append-nil, append_assoc, length-append}
use Rattle.std.specs.Prelude.{OnOk, OnErr}
use Rattle.ber_core.specs.declared.fault.OutOfMemory.{OutOfMemory}
use Rattle.tcap_engine.specs.Running.{outputs_in}
use Rattle.tcap_engine.specs.StepForm.{EngineAnswers, EngineReceives, EngineRefuses, Moves, since_answer}
use Rattle.tcap_model.specs.Table.EngineMove.{EngineMoved}
use Rattle.tcap_model.specs.Table.World.{World}
use Rattle.tcap_model.specs.Words.Answer.{Answer}
use Rattle.tcap_model.specs.Words.Fault as model
use Rattle.tcap_model.specs.Words.Output.{Output}
use Rattle.tcap_primitives.specs.FaultViews.{fault_view}
use Rattle.tcap_primitives.specs.SinkViews.{KeepsOutputs, told_since}
use Rattle.tcap_primitives.specs.declared.fault.Fault.{Fault}
use Rattle.tcap_station.specs.Marks.{AreMarked, marked, with_mark}
use Rattle.tcap_station.specs.Station.{StationState, following, sends_above, with_event}
use Rattle.tcap_station.specs.StepForm.{IsRefusal, IsRefusalWithin, Takes, TakesReceived, TakesWithin, outputs_of}
use Rattle.tcap_station.specs.WaitingOutput.{WaitingOutput, numbered_outputs}
use Rattle.tcap_station.specs.declared.line.marks.Mark.{Mark}
use Rattle.tcap_station.proofs.MarkLemmas.{added-are, added-marked}

-- A station, by its parts.
abbrev pub station : World → List WaitingOutput → ℕ → ℕ → StationState
station engine waiting events most = record { engine = engine; waiting = waiting; events = events; max_message = most }

-- ---- refusals

-- A refusal of the engine is one of the station.
pub refusal : (f : model.Fault) (m : EngineMoved) (old new : World) → EngineRefuses f m old new → IsRefusal f m.answer
refusal model.Fault.out_of_memory m old new r = r.1
refusal model.Fault.unknown_dialogue m old new r = sym r.0
refusal model.Fault.wrong_state m old new r = sym r.0
refusal model.Fault.invoke_id_in_use m old new r = sym r.0
refusal model.Fault.no_such_invocation m old new r = sym r.0
refusal model.Fault.bad_timeout m old new r = sym r.0
refusal model.Fault.too_long m old new r = sym r.0
refusal model.Fault.dialogues_full m old new r = sym r.0
refusal model.Fault.dialogue_ids_spent m old new r = sym r.0
refusal model.Fault.numbers_spent m old new r = sym r.0
refusal model.Fault.bad_oid m old new r = sym r.0
refusal model.Fault.bad_parameter m old new r = sym r.0
refusal model.Fault.not_class_four m old new r = sym r.0
refusal model.Fault.moment_too_late m old new r = sym r.0
refusal model.Fault.no_context m old new r = sym r.0

-- ---- events without outputs

-- An event that sends and tells nothing is counted.
pub counted : {T : Type 0} → (view : T → Answer) (answer result : Result T Fault) (m : EngineMoved) (engine after : World)
    (waiting : List WaitingOutput) (events counted most : ℕ) → ((x : T) → outputs_in (view x) ≡ [])
    → EngineAnswers view answer m engine after → OnErr answer (after ≡ engine)
    → result ≡ answer → OnOk answer (counted ≡ following events) → OnErr answer (counted ≡ events)
    → Takes view result m (station engine waiting events most) (station after waiting counted most)
counted view (Ok x) result m engine after waiting events count most silent answers err is ok same =
    let none : outputs_in m.answer ≡ [] = ap outputs_in (sym answers.0) ∙ silent x in
    rw is (answers.0, rw (none, answers.1, ok) (ap (λ (ws : List WaitingOutput). station m.after ws (following events) most) (sym (append-nil waiting))))
counted view (Err f) result m engine after waiting events count most silent answers err is ok same =
    rw is (rw (err, same) refl, refusal (fault_view f) m engine after answers)

-- ---- events with outputs

-- What was told since is what was appended.
pub since-length : (before after : List Output) (n : ℕ) → KeepsOutputs before after → n ≡ length before → length after - n ≡ length (told_since before after)
since-length before after n keeps is =
    let long = ap (λ (os : List Output). length os) keeps in
    let both = length-append before (told_since before after) in
    omega (arith, long, both, is)

module _ (marks : List Mark) (first before after : List Output) (event n : ℕ) where
  -- What waits then is marked.
  pub behind-are : (added : List Mark) → AreMarked marks (first ++ before) → KeepsOutputs before after → n ≡ length before
      → added ≡ with_mark marks event (length after - n) → AreMarked added (first ++ after)
  behind-are added are keeps is with =
      let told = told_since before after in
      let all : first ++ after ≡ (first ++ before) ++ told = ap (λ (os : List Output). first ++ os) keeps ∙ sym (append_assoc first before told) in
      rw (with, all) (added-are marks (first ++ before) told event (length after - n) are (since-length before after n keeps is))

  -- It waits behind what waited.
  pub behind-marked : (added : List Mark) → AreMarked marks (first ++ before) → KeepsOutputs before after → n ≡ length before
      → added ≡ with_mark marks event (length after - n)
      → marked added (first ++ after) ≡ marked marks (first ++ before) ++ numbered_outputs event (told_since before after)
  behind-marked added are keeps is with =
      let told = told_since before after in
      let all : first ++ after ≡ (first ++ before) ++ told = ap (λ (os : List Output). first ++ os) keeps ∙ sym (append_assoc first before told) in
      rw (with, all) (added-marked marks (first ++ before) told event (length after - n) are (since-length before after n keeps is))

-- An event is accepted whose outputs wait behind what waited.
pub with-told : (m : EngineMoved) (engine after : World) (waiting : List WaitingOutput) (told : List Output) (events most : ℕ)
    → Moves m (Answer.outputs told) after
    → station after (waiting ++ numbered_outputs (following events) told) (following events) most ≡ with_event m (station engine waiting events most)
with-told m engine after waiting told events most moves =
    let same : outputs_in m.answer ≡ told = ap outputs_in (sym moves.0) in
    rw (moves.1, same) refl

-- The answer is what it sends and tells.
pub all-told : {T : Type 0} → (m : EngineMoved) (x : T) (told : List Output) → Answer.outputs told ≡ m.answer → outputs_of m x ≡ m.answer
all-told m x told is = ap (λ (a : Answer). Answer.outputs (outputs_in a)) (sym is) ∙ is

-- ---- events with outputs, whole

-- What is in line after an event.
pub line-after : {E : Type 0} → (answer : Result (Unit {0}) E) (marks placed added : List Mark) (first before after : List Output) (events event n : ℕ)
    → placed ≡ marks → AreMarked marks (first ++ before) → KeepsOutputs before after → OnErr answer (after ≡ before) → n ≡ length before
    → OnOk answer (added ≡ with_mark placed event (length after - n)) → OnErr answer ((event ≡ events) × (added ≡ placed))
    → AreMarked added (first ++ after)
line-after (Ok x) marks placed added first before after events event n same are keeps still is ok err =
    behind-are marks first before after event n added are keeps is (ok ∙ ap (λ (ms : List Mark). with_mark ms event (length after - n)) same)
line-after (Err e) marks placed added first before after events event n same are keeps still is ok err = rw (err.1 ∙ same, still) are

-- An event whose outputs are appended is the station's.
pub told : (answer result : Result (Unit {0}) Fault) (m : EngineMoved) (engine engine' : World) (marks placed added : List Mark)
    (first before after : List Output) (events count most n : ℕ)
    → placed ≡ marks → AreMarked marks (first ++ before) → KeepsOutputs before after → OnErr answer (after ≡ before) → n ≡ length before
    → EngineAnswers (since_answer before after) answer m engine engine' → OnErr answer (engine' ≡ engine)
    → result ≡ answer → OnOk answer (count ≡ following events)
    → OnOk answer (added ≡ with_mark placed count (length after - n)) → OnErr answer ((count ≡ events) × (added ≡ placed))
    → Takes (outputs_of m) result m (station engine (marked marks (first ++ before)) events most) (station engine' (marked added (first ++ after)) count most)
told (Ok x) result m engine engine' marks placed added first before after events count most n same are keeps still is answers err alike next with refused =
    let behind = behind-marked marks first before after count n added are keeps is (with ∙ ap (λ (ms : List Mark). with_mark ms count (length after - n)) same) in
    rw alike (
      all-told m x (told_since before after) answers.0,
      rw (behind, next) (with-told m engine engine' (marked marks (first ++ before)) (told_since before after) events most answers),
    )
told (Err f) result m engine engine' marks placed added first before after events count most n same are keeps still is answers err alike next with refused =
    rw alike (rw (err, refused.0, refused.1 ∙ same, still) refl, refusal (fault_view f) m engine engine' answers)

-- Within the limit, it is so of a request of dialogue handling.
pub told-within : (result : Result (Unit {0}) Fault) (m : EngineMoved) (old new : StationState) → sends_above old.max_message m.answer ≡ false
    → Takes (outputs_of m) result m old new → TakesWithin result m old new
told-within (Ok x) m old new within takes = (within, takes.0, takes.1)
told-within (Err f) m old new within takes = (takes.0, limited (fault_view f) takes.1)
  where
    limited : (f : model.Fault) → IsRefusal f m.answer → IsRefusalWithin old.max_message f m.answer
    limited model.Fault.out_of_memory r = inr (r, within)
    limited model.Fault.unknown_dialogue r = inl r
    limited model.Fault.wrong_state r = inl r
    limited model.Fault.invoke_id_in_use r = inl r
    limited model.Fault.no_such_invocation r = inl r
    limited model.Fault.bad_timeout r = inl r
    limited model.Fault.too_long r = inl r
    limited model.Fault.dialogues_full r = inl r
    limited model.Fault.dialogue_ids_spent r = inl r
    limited model.Fault.numbers_spent r = inl r
    limited model.Fault.bad_oid r = inl r
    limited model.Fault.bad_parameter r = inl r
    limited model.Fault.not_class_four r = inl r
    limited model.Fault.moment_too_late r = inl r
    limited model.Fault.no_context r = inl r

-- Bytes whose outputs are appended are the station's.
pub received : (answer result : Result (Unit {0}) OutOfMemory) (m : EngineMoved) (engine engine' : World) (marks placed added : List Mark)
    (first before after : List Output) (events count most n : ℕ)
    → placed ≡ marks → AreMarked marks (first ++ before) → KeepsOutputs before after → OnErr answer (after ≡ before) → n ≡ length before
    → EngineReceives (since_answer before after) answer m engine engine'
    → result ≡ answer → OnOk answer (count ≡ following events)
    → OnOk answer (added ≡ with_mark placed count (length after - n)) → OnErr answer ((count ≡ events) × (added ≡ placed))
    → TakesReceived result m (station engine (marked marks (first ++ before)) events most) (station engine' (marked added (first ++ after)) count most)
received (Ok x) result m engine engine' marks placed added first before after events count most n same are keeps still is answers alike next with refused =
    let behind = behind-marked marks first before after count n added are keeps is (with ∙ ap (λ (ms : List Mark). with_mark ms count (length after - n)) same) in
    rw alike (
      all-told m x (told_since before after) answers.0,
      rw (behind, next) (with-told m engine engine' (marked marks (first ++ before)) (told_since before after) events most answers),
    )
received (Err f) result m engine engine' marks placed added first before after events count most n same are keeps still is answers alike next with refused =
    rw alike (rw (answers, refused.0, refused.1 ∙ same, still) refl)
