-- A refused request leaves all as it was.
use Rattle.std.proofs.Common.{◌≡◌, ℕ, nat_eq, List, Option, Some, None, Err, refl, ap, sym, subst, ◌∙◌}
use Rattle.std.proofs.lemmas.Map.Steps.{set_value_same}
use Rattle.std.specs.Map.{lookup}
use Rattle.tcap_primitives.specs.declared.fault.Fault.{Fault}
use Rattle.tcap_dialogue.proofs.CallerLemmas.{StandsIfRefused, moved-still}
use Rattle.tcap_primitives.specs.FaultViews.{fault_view}
use Rattle.tcap_dialogue.specs.StepViews.{Outcome, outcome}
use Rattle.tcap_engine.specs.RequestInTable.{AnswersInTable, EntriesMove, EntriesRefuse}
use Rattle.tcap_engine.specs.DialogueEntries.{TableEntry, entries_with}
use Rattle.tcap_model.specs.Table.Dialogue.{Dialogue}
use Rattle.tcap_model.specs.Table.TableMove.{Setting, DialogueEvent, table_move}
use Rattle.tcap_model.specs.Words.Answer.{Answer}
use Rattle.tcap_model.specs.Words.Fault as model
use Rattle.tcap_model.specs.Words.Request.{Request}

module _ (s : Setting) (r : Request) (d : ℕ) (ps qs : List TableEntry) where
  abbrev says : Dialogue → Outcome
  says x = outcome (table_move s x (DialogueEvent.request r))

  -- the dialogue was written back as it was
  same : (f : model.Fault) (x : Dialogue) → lookup (nat_eq d) ps ≡ Some x → EntriesMove (says x) d (Answer.refused f) ps qs → qs ≡ ps
  same f x found p =
      let stands : (says x).1 ≡ Some x = subst (StandsIfRefused x (says x).1) (sym p.0) (moved-still s x r) in
      p.1 ∙ ap (λ (after : Option Dialogue). entries_with d after ps) stands ∙ set_value_same (nat_eq d) ps x found

  refused : (f : model.Fault) (x : Dialogue) → lookup (nat_eq d) ps ≡ Some x → EntriesRefuse f (says x) d ps qs → qs ≡ ps
  refused model.Fault.out_of_memory x found p = p.0
  refused model.Fault.unknown_dialogue x found p = same _ x found p
  refused model.Fault.wrong_state x found p = same _ x found p
  refused model.Fault.invoke_id_in_use x found p = same _ x found p
  refused model.Fault.no_such_invocation x found p = same _ x found p
  refused model.Fault.bad_timeout x found p = same _ x found p
  refused model.Fault.too_long x found p = same _ x found p
  refused model.Fault.dialogues_full x found p = same _ x found p
  refused model.Fault.dialogue_ids_spent x found p = same _ x found p
  refused model.Fault.numbers_spent x found p = same _ x found p
  refused model.Fault.bad_oid x found p = same _ x found p
  refused model.Fault.bad_parameter x found p = same _ x found p
  refused model.Fault.not_class_four x found p = same _ x found p
  refused model.Fault.moment_too_late x found p = same _ x found p
  refused model.Fault.no_context x found p = same _ x found p

  -- After a refusal the table is as it was.
  pub table-still : (T : Type 0) (view : T → Answer) (f : Fault) → AnswersInTable view (Err f) says d (lookup (nat_eq d) ps) ps qs → qs ≡ ps
  table-still T view f h = go (lookup (nat_eq d) ps) refl h
    where
      go : (o : Option Dialogue) → lookup (nat_eq d) ps ≡ o → AnswersInTable view (Err f) says d o ps qs → qs ≡ ps
      go None e p = p.1
      go (Some x) e p = refused (fault_view f) x e p
