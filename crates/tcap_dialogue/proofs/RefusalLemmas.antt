-- A fault that is due is what the table answers.
use Rattle.std.proofs.Common.{◌≡◌, ◌≢◌, Bool, true, false, List, [], ◌∷◌, Option, Some, refl, sym, ap, subst, ◌∙◌}
use Rattle.tcap_model.specs.Table.Dialogue.{Dialogue}
use Rattle.tcap_model.specs.Words.Answer.{Answer}
use Rattle.tcap_model.specs.Words.Fault.{Fault}
use Rattle.tcap_model.specs.Words.Fault.Fault.{out_of_memory, unknown_dialogue, wrong_state, invoke_id_in_use, no_such_invocation, bad_timeout, too_long, dialogues_full, dialogue_ids_spent, numbers_spent, bad_oid, bad_parameter, not_class_four, moment_too_late, no_context}
use Rattle.tcap_model.specs.Procedures.Refusals.{first_that, holds, faults_of, due_on}
use Rattle.tcap_model.specs.Words.Request.{Request}
use Rattle.tcap_model.specs.Table.TableMove.{Setting, requested_by, situation}
use Rattle.tcap_dialogue.specs.RequestForm.{RefusedBy}
use Rattle.tcap_dialogue.specs.StepViews.{outcome}

-- `OutOfMemory` is never due.
never : (h : Fault → Bool) → h out_of_memory ≡ false → (fs : List Fault) → first_that h fs ≢ Some out_of_memory
never h e [] = λ q. cc
never h e (f ∷ fs) = go (h f) refl (never h e fs)
  where
    go : (b : Bool) → h f ≡ b → first_that h fs ≢ Some out_of_memory → first_that h (f ∷ fs) ≢ Some out_of_memory
    go true b ih = λ q. let is : Some f ≡ Some out_of_memory = rw b at q in let same : f ≡ out_of_memory = cc in let no_memory : true ≡ false = sym b ∙ ap h same ∙ e in cc
    go false b ih = λ q. ih (rw b at q)

-- Each fault but `OutOfMemory` is a refusal that leaves the dialogue as it was.
pub refused : (f : Fault) → f ≢ out_of_memory → (d : Dialogue) → RefusedBy f (Answer.refused f, Some d) d d
refused out_of_memory n d = absurd (n refl)
refused unknown_dialogue n d = refl
refused wrong_state n d = refl
refused invoke_id_in_use n d = refl
refused no_such_invocation n d = refl
refused bad_timeout n d = refl
refused too_long n d = refl
refused dialogues_full n d = refl
refused dialogue_ids_spent n d = refl
refused numbers_spent n d = refl
refused bad_oid n d = refl
refused bad_parameter n d = refl
refused not_class_four n d = refl
refused moment_too_late n d = refl
refused no_context n d = refl

-- The fault that is due is the refusal of the table.
pub due-refused : (f : Fault) (s : Setting) (d : Dialogue) (r : Request) → Some f ≡ due_on (situation s d r) r → RefusedBy f (outcome (requested_by s d r (due_on (situation s d r) r))) d d
due-refused f s d r e =
    subst (λ (o : Option Fault). RefusedBy f (outcome (requested_by s d r o)) d d) e
    (refused f (λ q. never (holds (situation s d r) r) refl (faults_of r) (sym e ∙ ap (λ (x : Fault). Some x) q)) d)
