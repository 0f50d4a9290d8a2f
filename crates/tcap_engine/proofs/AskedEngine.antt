-- The engine after one of its dialogues was asked.
use Rattle.std.proofs.Common.{◌≡◌, ℕ, ◌≤◌, true, false, nat_eq, List, Option, Some, None, Result, Ok, Err, refl, ap, sym, ◌∙◌, subst, if◌then◌else◌, arith}
use Rattle.std.specs.Prelude.{IfSome, IsTrue, OnErr}
use Rattle.std.specs.Map.{lookup}
use Rattle.tcap_primitives.specs.declared.fault.Fault.{Fault}
use Rattle.tcap_primitives.specs.declared.fault.Fault.TheVariants as fault
use Rattle.tcap_dialogue.specs.RequestForm.{takes_memory}
use Rattle.tcap_primitives.specs.FaultViews.{fault_view}
use Rattle.tcap_dialogue.specs.StepViews.{Outcome, asked, outcome}
use Rattle.tcap_engine.specs.StepForm.{Moves, EngineAnswers, EngineRefuses}
use Rattle.tcap_engine.specs.RequestInTable.{IsLeft, AnswersInTable, EntriesMove, EntriesRefuse}
use Rattle.tcap_engine.specs.DialogueEntries.{TableEntry, AreWithin, IsSound, dialogues_of, entries_with, IsWithin}
use Rattle.tcap_engine.specs.declared.limits.Limits.{Limits}
use Rattle.tcap_engine.proofs.KeptLemmas.{IsKept, kept-requested}
use Rattle.tcap_engine.proofs.PlaceLemmas.{AreKept, dialogues-with, sound-with, found-within}
use Rattle.tcap_engine.proofs.RefusedEngine.{table-still}
use Rattle.tcap_engine.proofs.SpentLemmas.{number-left}
use Rattle.tcap_model.specs.Words.Identifiers.{last_number}
use Rattle.tcap_engine.proofs.TableLemmas.{found-in, found-own}
use Rattle.tcap_invocation.specs.Invocations.{AllBelow}
use Rattle.tcap_model.specs.Procedures.Refusals.{due_on}
use Rattle.tcap_model.specs.Table.Dialogue.{Dialogue}
use Rattle.tcap_model.specs.Table.EngineMove.{EngineMoved, engine_move, dialogue_in, requested_in, moved_in, with_dialogue, number_after}
use Rattle.tcap_model.specs.Table.TableMove.{Moved, DialogueEvent, table_move, situation, left_standing}
use Rattle.tcap_model.specs.Table.World.{World}
use Rattle.tcap_model.specs.Words.Answer.{Answer}
use Rattle.tcap_model.specs.Words.Event.{Event}
use Rattle.tcap_model.specs.Words.Fault as model
use Rattle.tcap_model.specs.Words.Request.{Request}

counted : (answer : Answer) (next : ℕ) → next ≤ number_after answer next
counted (Answer.new_dialogue dialogue) next = omega arith
counted (Answer.number number) next = omega arith
counted Answer.done next = omega arith
counted (Answer.given_up number) next = omega arith
counted (Answer.outputs outputs) next = omega arith
counted (Answer.refused fault) next = omega arith

pub kept-left : (identifier reject_ms next : ℕ) (m : Moved) → IsKept identifier reject_ms next m.after → AreKept identifier reject_ms next (left_standing m)
kept-left identifier reject_ms next m h = elim m.is_over as (λ b. AreKept identifier reject_ms next (if b then None else Some m.after)) [ true ↦ tt | false ↦ h ]

kept-moved : (reject_ms clock number : ℕ) (x : Dialogue) (r : Request) → AllBelow number x.invocations.rows → x.invocations.reject_ms ≡ reject_ms
    → IsKept x.standing.identifier reject_ms (number_after (table_move (asked clock number) x (DialogueEvent.request r)).answer number) (table_move (asked clock number) x (DialogueEvent.request r)).after
unfolding table_move
kept-moved reject_ms clock number x r below wait = kept-requested reject_ms (asked clock number) x r (due_on (situation (asked clock number) x r) r) (wait, below)

pub found-fit : (d reject_ms next : ℕ) (ps : List TableEntry) → AreWithin reject_ms next ps → IfSome (lookup (nat_eq d) ps) (λ x. IsWithin reject_ms next x)
found-fit d reject_ms next ps h = go (lookup (nat_eq d) ps) refl
  where
    go : (o : Option Dialogue) → lookup (nat_eq d) ps ≡ o → IfSome o (λ x. IsWithin reject_ms next x)
    go None e = tt
    go (Some x) e = found-within d reject_ms next x ps e h

pub found-wait : (d reject_ms next : ℕ) (ps : List TableEntry) → AreWithin reject_ms next ps → IfSome (lookup (nat_eq d) ps) (λ x. x.invocations.reject_ms ≡ reject_ms)
found-wait d reject_ms next ps h = go (lookup (nat_eq d) ps) refl
  where
    go : (o : Option Dialogue) → lookup (nat_eq d) ps ≡ o → IfSome o (λ x. x.invocations.reject_ms ≡ reject_ms)
    go None e = tt
    go (Some x) e = (found-within d reject_ms next x ps e h).0

move-of : (w : World) (d : ℕ) (r : Request) (o : Option Dialogue) → dialogue_in d w.dialogues ≡ o → engine_move w (Event.on_dialogue d r) ≡ requested_in w d r o
unfolding engine_move
move-of w d r o e = ap (requested_in w d r) e

module _ (limits : Limits) (next_dialogue number clock d : ℕ) (ps : List TableEntry) (r : Request) (sound : IsSound limits next_dialogue number clock ps) where
  -- the engine with other places and another next number
  abbrev pub engine_with : ℕ → List TableEntry → World
  engine_with next qs = record { max_dialogues = limits.max_dialogues; reject_ms = limits.reject_ms; idle_ms = limits.idle_ms; next_dialogue = next_dialogue; next_number = next; clock = clock; dialogues = dialogues_of qs }

  abbrev pub says : Dialogue → Outcome
  says x = outcome (table_move (asked clock number) x (DialogueEvent.request r))

  abbrev before : World
  before = engine_with number ps

  moved-engine : (x : Dialogue) (answer : Answer) (qs : List TableEntry) → lookup (nat_eq d) ps ≡ Some x → EntriesMove (says x) d answer ps qs → Moves (engine_move before (Event.on_dialogue d r)) answer (engine_with (number_after answer number) qs)
  moved-engine x answer qs found p =
      let m : Moved = table_move (asked clock number) x (DialogueEvent.request r) in
      let there : dialogue_in d (dialogues_of ps) ≡ Some x = found-in d 0 ps sound.from ∙ found in
      let is : engine_move before (Event.on_dialogue d r) ≡ moved_in before d m = move-of before d r (Some x) there in
      let whole : ℕ → List Dialogue → World = λ n ds. record { max_dialogues = limits.max_dialogues; reject_ms = limits.reject_ms; idle_ms = limits.idle_ms; next_dialogue = next_dialogue; next_number = n; clock = clock; dialogues = ds } in
      let table : dialogues_of qs ≡ with_dialogue d (left_standing m) (dialogues_of ps) = ap dialogues_of p.1 ∙ dialogues-with d (left_standing m) ps sound.from in (
        p.0 ∙ sym (ap (λ (v : EngineMoved). v.answer) is),
        ap (λ n. whole n (dialogues_of qs)) (ap (λ (a : Answer). number_after a number) p.0) ∙ ap (whole (number_after m.answer number)) table ∙ sym (ap (λ (v : EngineMoved). v.after) is),
      )

  moved-sound : (x : Dialogue) (answer : Answer) (qs : List TableEntry) → lookup (nat_eq d) ps ≡ Some x → EntriesMove (says x) d answer ps qs → IsSound limits next_dialogue (number_after answer number) clock qs
  moved-sound x answer qs found p =
      let m : Moved = table_move (asked clock number) x (DialogueEvent.request r) in
      let within = found-within d limits.reject_ms number x ps found sound.within in
      let own : x.standing.identifier ≡ d = found-own d 0 x ps sound.from found in
      let kept : IsKept d limits.reject_ms (number_after m.answer number) m.after = subst (λ i. IsKept i limits.reject_ms (number_after m.answer number) m.after) own (kept-moved limits.reject_ms clock number x r within.1 within.0) in
      let all : IsSound limits next_dialogue (number_after m.answer number) clock (entries_with d (left_standing m) ps) =
      sound-with limits next_dialogue number (number_after m.answer number) clock d (left_standing m) ps (counted m.answer number) (kept-left d limits.reject_ms (number_after m.answer number) m kept) sound in
      subst (λ (qs : List TableEntry). IsSound limits next_dialogue (number_after answer number) clock qs) (sym p.1) (subst (λ (a : Answer). IsSound limits next_dialogue (number_after a number) clock (entries_with d (left_standing m) ps)) (sym p.0) all)

  refused-engine : (f : model.Fault) (x : Dialogue) (qs : List TableEntry) → lookup (nat_eq d) ps ≡ Some x → EntriesRefuse f (says x) d ps qs → EngineRefuses f (engine_move before (Event.on_dialogue d r)) before (engine_with number qs)
  refused-engine model.Fault.out_of_memory x qs found p =
      let there : dialogue_in d (dialogues_of ps) ≡ Some x = found-in d 0 ps sound.from ∙ found in
      let is = move-of before d r (Some x) there in
      (ap (engine_with number) p.0, subst (λ (v : EngineMoved). IsTrue (takes_memory v.answer)) (sym is) p.1)
  refused-engine model.Fault.unknown_dialogue x qs found p = moved-engine x _ qs found p
  refused-engine model.Fault.wrong_state x qs found p = moved-engine x _ qs found p
  refused-engine model.Fault.invoke_id_in_use x qs found p = moved-engine x _ qs found p
  refused-engine model.Fault.no_such_invocation x qs found p = moved-engine x _ qs found p
  refused-engine model.Fault.bad_timeout x qs found p = moved-engine x _ qs found p
  refused-engine model.Fault.too_long x qs found p = moved-engine x _ qs found p
  refused-engine model.Fault.dialogues_full x qs found p = moved-engine x _ qs found p
  refused-engine model.Fault.dialogue_ids_spent x qs found p = moved-engine x _ qs found p
  refused-engine model.Fault.numbers_spent x qs found p = moved-engine x _ qs found p
  refused-engine model.Fault.bad_oid x qs found p = moved-engine x _ qs found p
  refused-engine model.Fault.bad_parameter x qs found p = moved-engine x _ qs found p
  refused-engine model.Fault.not_class_four x qs found p = moved-engine x _ qs found p
  refused-engine model.Fault.moment_too_late x qs found p = moved-engine x _ qs found p
  refused-engine model.Fault.no_context x qs found p = moved-engine x _ qs found p

  refused-sound : (f : model.Fault) (x : Dialogue) (qs : List TableEntry) → lookup (nat_eq d) ps ≡ Some x → EntriesRefuse f (says x) d ps qs → IsSound limits next_dialogue number clock qs
  refused-sound model.Fault.out_of_memory x qs found p = subst (λ (l : List TableEntry). IsSound limits next_dialogue number clock l) (sym p.0) sound
  refused-sound model.Fault.unknown_dialogue x qs found p = moved-sound x (Answer.refused model.Fault.unknown_dialogue) qs found p
  refused-sound model.Fault.wrong_state x qs found p = moved-sound x (Answer.refused model.Fault.wrong_state) qs found p
  refused-sound model.Fault.invoke_id_in_use x qs found p = moved-sound x (Answer.refused model.Fault.invoke_id_in_use) qs found p
  refused-sound model.Fault.no_such_invocation x qs found p = moved-sound x (Answer.refused model.Fault.no_such_invocation) qs found p
  refused-sound model.Fault.bad_timeout x qs found p = moved-sound x (Answer.refused model.Fault.bad_timeout) qs found p
  refused-sound model.Fault.too_long x qs found p = moved-sound x (Answer.refused model.Fault.too_long) qs found p
  refused-sound model.Fault.dialogues_full x qs found p = moved-sound x (Answer.refused model.Fault.dialogues_full) qs found p
  refused-sound model.Fault.dialogue_ids_spent x qs found p = moved-sound x (Answer.refused model.Fault.dialogue_ids_spent) qs found p
  refused-sound model.Fault.numbers_spent x qs found p = moved-sound x (Answer.refused model.Fault.numbers_spent) qs found p
  refused-sound model.Fault.bad_oid x qs found p = moved-sound x (Answer.refused model.Fault.bad_oid) qs found p
  refused-sound model.Fault.bad_parameter x qs found p = moved-sound x (Answer.refused model.Fault.bad_parameter) qs found p
  refused-sound model.Fault.not_class_four x qs found p = moved-sound x (Answer.refused model.Fault.not_class_four) qs found p
  refused-sound model.Fault.moment_too_late x qs found p = moved-sound x (Answer.refused model.Fault.moment_too_late) qs found p
  refused-sound model.Fault.no_context x qs found p = moved-sound x (Answer.refused model.Fault.no_context) qs found p

  -- ---- an answer, and a refusal

  pub asked-ok : {T : Type 0} (view : T → Answer) (a : T) (qs : List TableEntry) → AnswersInTable view (Ok a) says d (lookup (nat_eq d) ps) ps qs → Moves (engine_move before (Event.on_dialogue d r)) (view a) (engine_with (number_after (view a) number) qs)
  asked-ok {T} view a qs h = go (lookup (nat_eq d) ps) refl h
    where
      go : (o : Option Dialogue) → lookup (nat_eq d) ps ≡ o → AnswersInTable view (Ok a) says d o ps qs → Moves (engine_move before (Event.on_dialogue d r)) (view a) (engine_with (number_after (view a) number) qs)
      go None e p = let no = p.0 in absurd cc
      go (Some x) e p = moved-engine x (view a) qs e p

  pub sound-ok : {T : Type 0} (view : T → Answer) (a : T) (qs : List TableEntry) → AnswersInTable view (Ok a) says d (lookup (nat_eq d) ps) ps qs → IsSound limits next_dialogue (number_after (view a) number) clock qs
  sound-ok {T} view a qs h = go (lookup (nat_eq d) ps) refl h
    where
      go : (o : Option Dialogue) → lookup (nat_eq d) ps ≡ o → AnswersInTable view (Ok a) says d o ps qs → IsSound limits next_dialogue (number_after (view a) number) clock qs
      go None e p = let no = p.0 in absurd cc
      go (Some x) e p = moved-sound x (view a) qs e p

  unknown : (f : Fault) (qs : List TableEntry) → lookup (nat_eq d) ps ≡ None → f ≡ fault.UnknownDialogue → qs ≡ ps → EngineRefuses (fault_view f) (engine_move before (Event.on_dialogue d r)) before (engine_with number qs)
  unknown f qs e is same =
      let absent : dialogue_in d (dialogues_of ps) ≡ None = found-in d 0 ps sound.from ∙ e in
      let move = move-of before d r None absent in
      subst (λ (v : Fault). EngineRefuses (fault_view v) (engine_move before (Event.on_dialogue d r)) before (engine_with number qs)) (sym is)
      (sym (ap (λ (v : EngineMoved). v.answer) move), ap (engine_with number) same ∙ sym (ap (λ (v : EngineMoved). v.after) move))

  pub asked-err : (T : Type 0) (view : T → Answer) (f : Fault) (qs : List TableEntry) → AnswersInTable view (Err f) says d (lookup (nat_eq d) ps) ps qs → EngineRefuses (fault_view f) (engine_move before (Event.on_dialogue d r)) before (engine_with number qs)
  asked-err T view f qs h = go (lookup (nat_eq d) ps) refl h
    where
      go : (o : Option Dialogue) → lookup (nat_eq d) ps ≡ o → AnswersInTable view (Err f) says d o ps qs → EngineRefuses (fault_view f) (engine_move before (Event.on_dialogue d r)) before (engine_with number qs)
      go None e p = let first = p.0 in let is : f ≡ fault.UnknownDialogue = cc in unknown f qs e is p.1
      go (Some x) e p = refused-engine (fault_view f) x qs e p

  pub sound-err : (T : Type 0) (view : T → Answer) (f : Fault) (qs : List TableEntry) → AnswersInTable view (Err f) says d (lookup (nat_eq d) ps) ps qs → IsSound limits next_dialogue number clock qs
  sound-err T view f qs h = go (lookup (nat_eq d) ps) refl h
    where
      go : (o : Option Dialogue) → lookup (nat_eq d) ps ≡ o → AnswersInTable view (Err f) says d o ps qs → IsSound limits next_dialogue number clock qs
      go None e p = subst (λ (l : List TableEntry). IsSound limits next_dialogue number clock l) (sym p.1) sound
      go (Some x) e p = refused-sound (fault_view f) x qs e p

  -- the number that is answered was left
  pub left-ok : {T : Type 0} (view : T → Answer) (a : T) (qs : List TableEntry) → number ≤ last_number → AnswersInTable view (Ok a) says d (lookup (nat_eq d) ps) ps qs → IsLeft (view a) number
  left-ok {T} view a qs le h = go (lookup (nat_eq d) ps) h
    where
      go : (o : Option Dialogue) → AnswersInTable view (Ok a) says d o ps qs → IsLeft (view a) number
      go None p = let no = p.0 in absurd cc
      go (Some x) p = subst (λ v. IsLeft v number) (sym p.0) (number-left (asked clock number) x r le)

  -- ---- the same of any result, where no answer draws a number

  pub asked-any : {T : Type 0} (view : T → Answer) (result : Result T Fault) (qs : List TableEntry) → ((a : T) → number_after (view a) number ≡ number) → AnswersInTable view result says d (lookup (nat_eq d) ps) ps qs → EngineAnswers view result (engine_move before (Event.on_dialogue d r)) before (engine_with number qs)
  asked-any {T} view (Ok a) qs same h = subst (λ n. Moves (engine_move before (Event.on_dialogue d r)) (view a) (engine_with n qs)) (same a) (asked-ok view a qs h)
  asked-any {T} view (Err f) qs same h = asked-err T view f qs h

  pub sound-any : {T : Type 0} (view : T → Answer) (result : Result T Fault) (qs : List TableEntry) → ((a : T) → number_after (view a) number ≡ number) → AnswersInTable view result says d (lookup (nat_eq d) ps) ps qs → IsSound limits next_dialogue number clock qs
  sound-any {T} view (Ok a) qs same h = subst (λ n. IsSound limits next_dialogue n clock qs) (same a) (sound-ok view a qs h)
  sound-any {T} view (Err f) qs same h = sound-err T view f qs h

  pub still-any : {T : Type 0} (view : T → Answer) (result : Result T Fault) (qs : List TableEntry) → AnswersInTable view result says d (lookup (nat_eq d) ps) ps qs → OnErr result (engine_with number qs ≡ before)
  still-any {T} view (Ok a) qs h = tt
  still-any {T} view (Err f) qs h = ap (engine_with number) (table-still (asked clock number) r d ps qs T view f h)
