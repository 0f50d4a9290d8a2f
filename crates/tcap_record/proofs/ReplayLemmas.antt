-- Events that follow one another in a log.
use Rattle.std.proofs.Common.{◌≡◌, ℕ, ◌+◌, ◌-◌, ◌<◌, ◌≤◌, List, [], ◌∷◌, ◌++◌, length, Result, Ok, Err, refl, sym, ap, subst, ◌∙◌, append_assoc, arith}
use Rattle.std.specs.Prelude.{IfOk, OnOk}
use Rattle.std.proofs.lemmas.List.{append-nil, length-append}
use Rattle.std.proofs.lemmas.List.Concat.{flat_map-cons, flat_map-append}
use Rattle.tcap_engine.specs.Running.{engine_run, after_events, Runs}
use Rattle.tcap_model.specs.Histories.History.{History}
use Rattle.tcap_model.specs.Statements.EngineMoves.{with_pair}
use Rattle.tcap_model.specs.Table.EngineMove.{engine_move}
use Rattle.tcap_model.specs.Table.World.{World, StandsAt}
use Rattle.tcap_model.specs.Words.Answer.{Answer}
use Rattle.tcap_model.specs.Words.Event.{Event}
use Rattle.tcap_record.specs.Records.{record_of, log_of, HasRecord, AllHaveRecords}
use Rattle.tcap_record.specs.declared.fault.ReplayFault.{ReplayFault}
use Rattle.tcap_record.specs.Replaying.{Replayed, ReplayedOne}
use Rattle.tcap_record.proofs.RecordLaws.{one_log}

run-one : (w : World) (es : List Event) (e : Event) → (engine_run w (es ++ (e ∷ []))).after ≡ (engine_move (engine_run w es).after e).after
run-one w [] e = refl
run-one w (x ∷ es) e = run-one (engine_move w x).after es e

after-one : (h : History) (es : List Event) (e : Event) → after_events h (es ++ (e ∷ [])) ≡ with_pair (after_events h es) e
after-one h [] e = refl
after-one h (x ∷ es) e = after-one (with_pair h x) es e

all-one : (es : List Event) (e : Event) → AllHaveRecords es → HasRecord e → AllHaveRecords (es ++ (e ∷ []))
all-one [] e all has = (has, tt)
all-one (x ∷ es) e all has = (all.0, all-one es e all.1 has)

pub log-one : (es : List Event) (e : Event) → log_of (es ++ (e ∷ [])) ≡ log_of es ++ record_of e
log-one es e = flat_map-append record_of es (e ∷ []) ∙ ap (λ (xs : List ℕ). log_of es ++ xs) (flat_map-cons record_of e [] ∙ append-nil (record_of e))

-- One event more.
pub one-replayed : (log : List ℕ) (count : ℕ) (between rest : List ℕ) (old middle new : World)
    → Replayed log count between old middle → ReplayedOne between rest middle new → Replayed log (count + 1) rest old new
one-replayed log count between rest old middle new so_far one =
    let es = so_far.events in
    let e = one.event in
    record {
      events = es ++ (e ∷ []);
      are_so_many = length-append es (e ∷ []) ∙ ap (λ (n : ℕ). n + 1) so_far.are_so_many;
      have_records = all-one es e so_far.have_records one.has_record;
      is_log =
          so_far.is_log ∙ ap (λ (xs : List ℕ). log_of es ++ xs) one.is_log ∙ sym (append_assoc (log_of es) (record_of e) rest)
          ∙ ap (λ (xs : List ℕ). xs ++ rest) (sym (log-one es e));
      moved = one.handed_on.moved ∙ ap (λ (w : World). (engine_move w e).after) so_far.moved ∙ sym (run-one old es e);
      stands = λ h at. subst (λ (k : History). StandsAt k new) (sym (after-one h es e)) (one.handed_on.stands (after_events h es) (so_far.stands h at));
    }

-- Each record has two octets at least.
log-long : (es : List Event) → length es ≤ length (log_of es)
log-long [] = omega arith
log-long (e ∷ es) =
    let is : length (log_of (e ∷ es)) ≡ length (record_of e) + length (log_of es) =
    ap (λ (xs : List ℕ). length xs) (flat_map-cons record_of e es) ∙ length-append (record_of e) (log_of es) in
    omega (arith, is, log-long es)

pub count-within : (log : List ℕ) (count : ℕ) (rest : List ℕ) (old new : World) → Replayed log count rest old new
    → count + length rest ≤ length log
count-within log count rest old new r =
    let len : length log ≡ length (log_of r.events) + length rest =
    ap (λ (xs : List ℕ). length xs) r.is_log ∙ length-append (log_of r.events) rest in
    omega (arith, len, log-long r.events, r.are_so_many)

pub one-shorter : (between rest : List ℕ) (old new : World) → ReplayedOne between rest old new → length rest < length between
one-shorter between rest old new one =
    let len : length between ≡ length (record_of one.event) + length rest =
    ap (λ (xs : List ℕ). length xs) one.is_log ∙ length-append (record_of one.event) rest in
    omega (arith, len)

-- The engine is what the first was.
pub same-as-first : (log : List ℕ) (count : ℕ) (old new : World) → Replayed log count [] old new
    → (events : List Event) (first after : World) (before answers : List Answer) → AllHaveRecords events → log ≡ log_of events
    → Runs first events after before answers → old ≡ first → new ≡ after
same-as-first log count old new r events first after before answers all is ran same =
    let logs : log_of r.events ≡ log_of events = sym (append-nil (log_of r.events)) ∙ sym r.is_log ∙ is in
    let events_same : r.events ≡ events = one_log r.events events r.have_records all logs in
    r.moved ∙ ap (λ (es : List Event). (engine_run old es).after) events_same ∙ ap (λ (w : World). (engine_run w events).after) same ∙ sym ran.moved

pub same-if-whole : (log : List ℕ) (old new : World) (result : Result ℕ ReplayFault) → IfOk result (λ count. Replayed log count [] old new)
    → (events : List Event) (first after : World) (before answers : List Answer) → AllHaveRecords events → log ≡ log_of events
    → Runs first events after before answers → old ≡ first → OnOk result (new ≡ after)
same-if-whole log old new (Ok count) r events first after before answers all is ran same =
    same-as-first log count old new r events first after before answers all is ran same
same-if-whole log old new (Err fault) r events first after before answers all is ran same = tt

-- ---- where a replay stops
