-- The engine after a message, or a faulty one, reached one of its dialogues.
use Rattle.std.proofs.Common.{◌≡◌, ℕ, Bool, false, if◌then◌else◌, ◌++◌, [], true, nat_eq, List, append_assoc, Option, Some, None, Ok, Err, refl, ap, sym, ◌∙◌, subst, arith}
use Rattle.std.specs.Option.{option_map}
use Rattle.std.specs.Prelude.{IfOk, OnOk, OnErr, Result}
use Rattle.std.specs.Map.{lookup}
use Rattle.ber_core.specs.declared.fault.OutOfMemory.{OutOfMemory}
use Rattle.tcap_dialogue.specs.StepViews.{asked, at_clock, outcome}
use Rattle.tcap_engine.specs.StepForm.{DeliversTo, IfTaken, Moves, ReceivesInto, UnlessTaken, since_answer}
use Rattle.tcap_engine.specs.RequestInTable.{EntriesMove, DeliversInTable, TakesInTable}
use Rattle.tcap_engine.specs.DialogueEntries.{TableEntry, AreFrom, IsSound, IsWithin, dialogues_of, entries_with}
use Rattle.tcap_engine.specs.declared.limits.Limits.{Limits}
use Rattle.tcap_engine.proofs.AskedEngine.{kept-left}
use Rattle.tcap_engine.proofs.KeptLemmas.{IsKept, kept-framed}
use Rattle.tcap_engine.proofs.PlaceLemmas.{dialogues-with, sound-with, found-within}
use Rattle.tcap_engine.proofs.TableLemmas.{found-in, found-own}
use Rattle.tcap_model.specs.Procedures.PortionRules.{PortionVerdict, portion_verdict}
use Rattle.tcap_model.specs.Table.Dialogue.{Dialogue}
use Rattle.tcap_model.specs.Table.EngineMove.{EngineMoved, dialogue_in, is_live_in, is_live_if_any, reached_in, sending_first, moved_in, with_dialogue}
use Rattle.tcap_model.specs.Table.TableMove.{Moved, Walked, DialogueEvent, table_move, continued_by, walked_in, left_standing}
use Rattle.tcap_model.specs.Table.World.{World}
use Rattle.tcap_model.specs.Words.Address.{Address}
use Rattle.tcap_model.specs.Words.Answer.{Answer}
use Rattle.tcap_model.specs.Words.Output.{Output}
use Rattle.tcap_pdu.specs.FrameSpelling.{Message}
use Rattle.tcap_primitives.proofs.CallerLemmas as sink
use Rattle.tcap_primitives.specs.SinkViews.{KeepsOutputs, told_since}

-- ---- a message draws no number

continued-alike : (clock number : ℕ) (d : Dialogue) (from : Address) (origin : List ℕ) (v : PortionVerdict) (w : Walked)
    → continued_by (asked clock number) d from origin v w ≡ continued_by (at_clock clock) d from origin v w
continued-alike clock number d from origin (PortionVerdict.normal context info) w = refl
continued-alike clock number d from origin PortionVerdict.abnormal w = refl

pub framed-alike : (clock number : ℕ) (d : Dialogue) (from : Address) (m : Message)
    → table_move (asked clock number) d (DialogueEvent.frame from m) ≡ table_move (at_clock clock) d (DialogueEvent.frame from m)
unfolding table_move
framed-alike clock number d from (Message.unidirectional portion components) = refl
framed-alike clock number d from (Message.begin origin portion components) = refl
framed-alike clock number d from (Message.go_on origin to portion components) =
    continued-alike clock number d from origin (portion_verdict d.standing.state d.standing.context portion) (walked_in clock d components)
framed-alike clock number d from (Message.end to portion components) = refl
framed-alike clock number d from (Message.abort to reason) = refl

pub fault-alike : (clock number : ℕ) (d : Dialogue) (cause : ℕ)
    → table_move (asked clock number) d (DialogueEvent.fault cause) ≡ table_move (at_clock 0) d (DialogueEvent.fault cause)
unfolding table_move
fault-alike clock number d cause = refl

pub kept-frame : (reject_ms next clock : ℕ) (d : Dialogue) (from : Address) (m : Message) → IsWithin reject_ms next d
    → IsKept d.standing.identifier reject_ms next (table_move (at_clock clock) d (DialogueEvent.frame from m)).after
unfolding table_move
kept-frame reject_ms next clock d from m h = kept-framed reject_ms next (at_clock clock) d from m h

pub kept-fault : (reject_ms next : ℕ) (d : Dialogue) (cause : ℕ) → IsWithin reject_ms next d
    → IsKept d.standing.identifier reject_ms next (table_move (at_clock 0) d (DialogueEvent.fault cause)).after
unfolding table_move
kept-fault reject_ms next d cause h = (refl, (h.0, tt))

-- ---- the engine

module _ (limits : Limits) (next_dialogue number clock d : ℕ) (ps : List TableEntry) (sound : IsSound limits next_dialogue number clock ps)
    (event : DialogueEvent) (move : Dialogue → Moved)
    (alike : (x : Dialogue) → table_move (asked clock number) x event ≡ move x)
    (keeps : (x : Dialogue) → IsWithin limits.reject_ms number x → IsKept x.standing.identifier limits.reject_ms number (move x).after) where
  -- the engine with other places
  abbrev pub engine_of : List TableEntry → World
  engine_of qs = record { max_dialogues = limits.max_dialogues; reject_ms = limits.reject_ms; idle_ms = limits.idle_ms; next_dialogue = next_dialogue; next_number = number; clock = clock; dialogues = dialogues_of qs }

  reached-engine : (x : Dialogue) (sent : List Output) (told : List Output) (qs : List TableEntry) → lookup (nat_eq d) ps ≡ Some x
      → EntriesMove (outcome (move x)) d (Answer.outputs told) ps qs
      → Moves (moved_in (engine_of ps) d (sending_first sent (move x))) (Answer.outputs (sent ++ told)) (engine_of qs)
  reached-engine x sent told qs found p =
      let m : Moved = move x in
      let is : m.answer ≡ Answer.outputs told = sym p.0 in
      let whole : List Dialogue → World = λ ds. record { max_dialogues = limits.max_dialogues; reject_ms = limits.reject_ms; idle_ms = limits.idle_ms; next_dialogue = next_dialogue; next_number = number; clock = clock; dialogues = ds } in
      let table : dialogues_of qs ≡ with_dialogue d (left_standing m) (dialogues_of ps) = ap dialogues_of p.1 ∙ dialogues-with d (left_standing m) ps sound.from in
      let moves : Answer → EngineMoved = λ a. moved_in (engine_of ps) d (sending_first sent (record m { answer = a })) in
      subst (λ (a : Answer). Moves (moves a) (Answer.outputs (sent ++ told)) (engine_of qs)) (sym is) (refl, ap whole table)

  pub reached-sound : (x : Dialogue) (told : List Output) (qs : List TableEntry) → lookup (nat_eq d) ps ≡ Some x
      → EntriesMove (outcome (move x)) d (Answer.outputs told) ps qs → IsSound limits next_dialogue number clock qs
  reached-sound x told qs found p =
      let m : Moved = move x in
      let own : x.standing.identifier ≡ d = found-own d 0 x ps sound.from found in
      let kept : IsKept d limits.reject_ms number m.after = subst (λ i. IsKept i limits.reject_ms number m.after) own (keeps x (found-within d limits.reject_ms number x ps found sound.within)) in
      let all : IsSound limits next_dialogue number clock (entries_with d (left_standing m) ps) =
      sound-with limits next_dialogue number number clock d (left_standing m) ps (omega arith) (kept-left d limits.reject_ms number m kept) sound in
      subst (λ (qs : List TableEntry). IsSound limits next_dialogue number clock qs) (sym p.1) all

  move-of : (sent : List Output) (x : Dialogue) → lookup (nat_eq d) ps ≡ Some x
      → reached_in (engine_of ps) d sent event (dialogue_in d (dialogues_of ps)) ≡ moved_in (engine_of ps) d (sending_first sent (move x))
  move-of sent x found =
      ap (reached_in (engine_of ps) d sent event) (found-in d 0 ps sound.from ∙ found)
      ∙ ap (λ (m : Moved). moved_in (engine_of ps) d (sending_first sent m)) (alike x)

  -- What the engine tells and is then, where the dialogue stands.
  pub reached-some : (x : Dialogue) (sent : List Output) (told : List Output) (qs : List TableEntry) → lookup (nat_eq d) ps ≡ Some x
      → EntriesMove (outcome (move x)) d (Answer.outputs told) ps qs
      → Moves (reached_in (engine_of ps) d sent event (dialogue_in d (dialogues_of ps))) (Answer.outputs (sent ++ told)) (engine_of qs)
  reached-some x sent told qs found p =
      subst (λ (v : EngineMoved). Moves v (Answer.outputs (sent ++ told)) (engine_of qs)) (sym (move-of sent x found)) (reached-engine x sent told qs found p)

  pub sound-reached : {T : Type 0} (view : T → List Output) (result : Result T OutOfMemory) (qs : List TableEntry)
      → DeliversInTable (λ (t : T). Answer.outputs (view t)) result (λ x. outcome (move x)) d (lookup (nat_eq d) ps) ps qs → IsSound limits next_dialogue number clock qs
  sound-reached {T} view (Err f) qs h = subst (λ (qs : List TableEntry). IsSound limits next_dialogue number clock qs) (sym h) sound
  sound-reached {T} view (Ok outputs) qs h = go (lookup (nat_eq d) ps) refl h
    where
      go : (o : Option Dialogue) → lookup (nat_eq d) ps ≡ o → DeliversInTable (λ (t : T). Answer.outputs (view t)) (Ok outputs) (λ x. outcome (move x)) d o ps qs → IsSound limits next_dialogue number clock qs
      go None e p = absurd p
      go (Some x) e p = reached-sound x (view outputs) qs e p

  -- What was told, if memory wasn't refused, behind what is sent first.
  pub reached-sending : {T : Type 0} (view : T → List Output) (sent : List Output) (result : Result T OutOfMemory) (qs : List TableEntry)
      → DeliversInTable (λ (t : T). Answer.outputs (view t)) result (λ x. outcome (move x)) d (lookup (nat_eq d) ps) ps qs
      → IfOk result (λ t. Moves (reached_in (engine_of ps) d sent event (dialogue_in d (dialogues_of ps))) (Answer.outputs (sent ++ view t)) (engine_of qs))
  reached-sending {T} view sent (Err f) qs h = tt
  reached-sending {T} view sent (Ok t) qs h = go (lookup (nat_eq d) ps) refl h
    where
      go : (o : Option Dialogue) → lookup (nat_eq d) ps ≡ o → DeliversInTable (λ (t : T). Answer.outputs (view t)) (Ok t) (λ x. outcome (move x)) d o ps qs
          → Moves (reached_in (engine_of ps) d sent event (dialogue_in d (dialogues_of ps))) (Answer.outputs (sent ++ view t)) (engine_of qs)
      go None e p = absurd p
      go (Some x) e p = reached-some x sent (view t) qs e p

  -- What was appended, behind what is sent first.
  pub receives-sending : {T : Type 0} (before after sent : List Output) (result : Result T OutOfMemory) (qs : List TableEntry)
      → DeliversInTable (since_answer (before ++ sent) after) result (λ x. outcome (move x)) d (lookup (nat_eq d) ps) ps qs
      → OnOk result (KeepsOutputs (before ++ sent) after) → OnErr result (after ≡ before)
      → ReceivesInto before after result (reached_in (engine_of ps) d sent event (dialogue_in d (dialogues_of ps))) (engine_of ps) (engine_of qs)
  receives-sending before after sent (Err f) qs h kept still = (still, ap engine_of h)
  receives-sending {T} before after sent (Ok t) qs h kept still =
      let told = told_since (before ++ sent) after in
      let all : after ≡ before ++ (sent ++ told) = kept ∙ append_assoc before sent told in
      let m = reached-sending (λ (x : T). told) sent (Ok t) qs h in
      (sink.keeps before after (sent ++ told) all, (ap Answer.outputs (sink.since-is before after (sent ++ told) all) ∙ m.0, m.1))

  -- The same where nothing is sent first.
  pub receives-told : {T : Type 0} (before after : List Output) (result : Result T OutOfMemory) (qs : List TableEntry)
      → DeliversInTable (since_answer before after) result (λ x. outcome (move x)) d (lookup (nat_eq d) ps) ps qs
      → KeepsOutputs before after → OnErr result (after ≡ before)
      → ReceivesInto before after result (reached_in (engine_of ps) d [] event (dialogue_in d (dialogues_of ps))) (engine_of ps) (engine_of qs)
  receives-told before after (Err f) qs h kept still = (still, ap engine_of h)
  receives-told {T} before after (Ok t) qs h kept still = (kept, reached-sending (λ (x : T). told_since before after) [] (Ok t) qs h)

  -- Whether a dialogue took it or not, the engine is sound.
  pub sound-taken : (view : Bool → List Output) (live : Bool) (result : Result Bool OutOfMemory) (qs : List TableEntry)
      → TakesInTable (λ (t : Bool). Answer.outputs (view t)) result live (λ x. outcome (move x)) d (lookup (nat_eq d) ps) ps qs → IsSound limits next_dialogue number clock qs
  sound-taken view live (Err f) qs h = subst (λ (qs : List TableEntry). IsSound limits next_dialogue number clock qs) (sym h) sound
  sound-taken view true (Ok true) qs h = sound-reached view (Ok true) qs h
  sound-taken view true (Ok false) qs h = absurd h
  sound-taken view false (Ok true) qs h = absurd h
  sound-taken view false (Ok false) qs h = subst (λ (qs : List TableEntry). IsSound limits next_dialogue number clock qs) (sym h) sound

  -- What was appended where a dialogue took it, behind what is sent first.
  pub delivers-sending : (before after sent : List Output) (live : Bool) (result : Result Bool OutOfMemory) (qs : List TableEntry)
      → TakesInTable (since_answer (before ++ sent) after) result live (λ x. outcome (move x)) d (lookup (nat_eq d) ps) ps qs
      → IfTaken result (KeepsOutputs (before ++ sent) after) → UnlessTaken result (after ≡ before)
      → DeliversTo before after result
      (option_map (λ (e : ℕ). reached_in (engine_of ps) e sent event (dialogue_in e (dialogues_of ps))) (if live then Some d else None))
      (engine_of ps) (engine_of qs)
  delivers-sending before after sent live (Err f) qs h kept still = (still, ap engine_of h)
  delivers-sending before after sent true (Ok true) qs h kept still = receives-sending before after sent (Ok true) qs h kept tt
  delivers-sending before after sent true (Ok false) qs h kept still = absurd h
  delivers-sending before after sent false (Ok true) qs h kept still = absurd h
  delivers-sending before after sent false (Ok false) qs h kept still = (still, ap engine_of h)

  -- The same where nothing is sent first.
  pub delivers-told : (before after : List Output) (live : Bool) (result : Result Bool OutOfMemory) (qs : List TableEntry)
      → TakesInTable (since_answer before after) result live (λ x. outcome (move x)) d (lookup (nat_eq d) ps) ps qs
      → KeepsOutputs before after → UnlessTaken result (after ≡ before)
      → DeliversTo before after result
      (option_map (λ (e : ℕ). reached_in (engine_of ps) e [] event (dialogue_in e (dialogues_of ps))) (if live then Some d else None))
      (engine_of ps) (engine_of qs)
  delivers-told before after live (Err f) qs h kept still = (still, ap engine_of h)
  delivers-told before after true (Ok true) qs h kept still = receives-told before after (Ok true) qs h kept tt
  delivers-told before after true (Ok false) qs h kept still = absurd h
  delivers-told before after false (Ok true) qs h kept still = absurd h
  delivers-told before after false (Ok false) qs h kept still = (still, ap engine_of h)

-- Whether a dialogue stands and is live, by the table.
pub live-is : (d : ℕ) (ps : List TableEntry) → AreFrom 0 ps → is_live_if_any (lookup (nat_eq d) ps) ≡ is_live_in (dialogues_of ps) d
live-is d ps from = ap is_live_if_any (sym (found-in d 0 ps from))
