-- The table after one of its dialogues was asked.
use Rattle.std.proofs.Common.{◌≡◌, ℕ, Bool, true, false, nat_eq, List, Option, Some, None, Result, Ok, Err, refl, ap, sym, ◌∙◌, if◌then◌else◌}
use Rattle.std.proofs.lemmas.Map.Steps.{set_value_same}
use Rattle.std.specs.Map.{lookup, set_value, remove_entry}
use Rattle.tcap_dialogue.specs.declared.dialogue.requests.Accepted.{Accepted}
use Rattle.tcap_dialogue.specs.declared.dialogue.requests.Accepted.TheVariants as accepted
use Rattle.tcap_dialogue.specs.AskViews.{accepted_outcome}
use Rattle.tcap_dialogue.specs.RequestForm.{Answers, RefusedBy}
use Rattle.tcap_dialogue.specs.StepViews.{Outcome}
use Rattle.tcap_engine.specs.RequestInTable.{accepted_answer, ends_dialogue, EntriesAnswer, EntriesMove, EntriesRefuse}
use Rattle.tcap_engine.specs.DialogueEntries.{TableEntry, entries_with}
use Rattle.tcap_engine.proofs.TableLemmas.{removed-set}
use Rattle.tcap_model.specs.Table.Dialogue.{Dialogue}
use Rattle.tcap_model.specs.Words.Answer.{Answer}
use Rattle.tcap_model.specs.Words.Fault as model
use Rattle.tcap_model.specs.Words.Output.{Output}
use Rattle.tcap_primitives.specs.FaultViews.{fault_view}
use Rattle.tcap_primitives.specs.declared.fault.Fault.{Fault}

-- A refusal, where the dialogue was written back.
module _ (o : Outcome) (old new : Dialogue) (d : ℕ) (ps : List TableEntry) (found : lookup (nat_eq d) ps ≡ Some old) where
  moved : (answer : Answer) → o ≡ (answer, Some new) → EntriesMove o d answer ps (set_value (nat_eq d) ps new)
  moved answer e = (sym (ap (λ (x : Outcome). x.0) e), ap (λ (x : Outcome). entries_with d x.1 ps) (sym e))

  pub refused-placed : (f : model.Fault) → RefusedBy f o old new → EntriesRefuse f o d ps (set_value (nat_eq d) ps new)
  refused-placed model.Fault.out_of_memory r = (ap (set_value (nat_eq d) ps) r.0 ∙ set_value_same (nat_eq d) ps old found, r.1)
  refused-placed model.Fault.unknown_dialogue r = moved _ r
  refused-placed model.Fault.wrong_state r = moved _ r
  refused-placed model.Fault.invoke_id_in_use r = moved _ r
  refused-placed model.Fault.no_such_invocation r = moved _ r
  refused-placed model.Fault.bad_timeout r = moved _ r
  refused-placed model.Fault.too_long r = moved _ r
  refused-placed model.Fault.dialogues_full r = moved _ r
  refused-placed model.Fault.dialogue_ids_spent r = moved _ r
  refused-placed model.Fault.numbers_spent r = moved _ r
  refused-placed model.Fault.bad_oid r = moved _ r
  refused-placed model.Fault.bad_parameter r = moved _ r
  refused-placed model.Fault.not_class_four r = moved _ r
  refused-placed model.Fault.moment_too_late r = moved _ r
  refused-placed model.Fault.no_context r = moved _ r

  -- An answer, or a refusal, where the dialogue was written back.
  pub answers-placed : {T : Type 0} (view : T → Answer) (result : Result T Fault) → Answers view result o old new → EntriesAnswer view result o d ps (set_value (nat_eq d) ps new)
  answers-placed view (Ok x) e = moved (view x) e
  answers-placed view (Err f) e = refused-placed (fault_view f) e

-- An answer, where the dialogue was written back or is taken out.
module _ (told : List Output) (new : Dialogue) (d : ℕ) (ps : List TableEntry) where
  answered : (a : Accepted) → (accepted_outcome told a new).0 ≡ accepted_answer told a
  answered (accepted.Number number) = refl
  answered accepted.Done = refl
  answered (accepted.GivenUp number) = refl
  answered (accepted.Step over) = refl

  standing : (a : Accepted) → (accepted_outcome told a new).1 ≡ (if ends_dialogue a then None else Some new)
  standing (accepted.Number number) = refl
  standing accepted.Done = refl
  standing (accepted.GivenUp number) = refl
  standing (accepted.Step over) = refl

  pub kept-placed : (a : Accepted) (o : Outcome) → accepted_outcome told a new ≡ o → ends_dialogue a ≡ false → EntriesMove o d (accepted_answer told a) ps (set_value (nat_eq d) ps new)
  kept-placed a o e is =
      let left : o.1 ≡ Some new = sym (ap (λ (x : Outcome). x.1) e) ∙ standing a ∙ rw is refl in
      (sym (answered a) ∙ ap (λ (x : Outcome). x.0) e, ap (λ (x : Option Dialogue). entries_with d x ps) (sym left))

  pub gone-placed : (a : Accepted) (o : Outcome) → accepted_outcome told a new ≡ o → ends_dialogue a ≡ true → EntriesMove o d (accepted_answer told a) ps (remove_entry (nat_eq d) (set_value (nat_eq d) ps new))
  gone-placed a o e is =
      let left : o.1 ≡ None = sym (ap (λ (x : Outcome). x.1) e) ∙ standing a ∙ rw is refl in
      (sym (answered a) ∙ ap (λ (x : Outcome). x.0) e, removed-set d new ps ∙ ap (λ (x : Option Dialogue). entries_with d x ps) (sym left))

  -- The dialogue was settled: it stands where it isn't over.
  pub settled-placed : (is_over : Bool) (a : Accepted) (o : Outcome) (qs : List TableEntry) → accepted_outcome told a new ≡ o → is_over ≡ ends_dialogue a
      → qs ≡ (if is_over then remove_entry (nat_eq d) (set_value (nat_eq d) ps new) else set_value (nat_eq d) ps new) → EntriesMove o d (accepted_answer told a) ps qs
  settled-placed true a o qs e is q = rw q (gone-placed a o e (sym is))
  settled-placed false a o qs e is q = rw q (kept-placed a o e (sym is))
