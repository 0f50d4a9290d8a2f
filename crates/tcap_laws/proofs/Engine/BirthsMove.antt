-- The request for a new dialogue moves the engine as the history says.
use Rattle.std.proofs.Common.{◌≡◌, Option, Some, None, refl, sym, ap, ◌∙◌}
use Rattle.tcap_laws.proofs.Engine.DialoguesFound.{births-alike}
use Rattle.tcap_laws.proofs.Engine.WorldAfter.{moved-made, world-stays, world-born}
use Rattle.tcap_laws.proofs.Rows.NoRowsAtBirth.{fresh-born}
use Rattle.tcap_laws.proofs.Table.OtherDialogues.{unnamed-stays}
use Rattle.tcap_model.specs.Histories.Birth.{born_of, next_dialogue}
use Rattle.tcap_model.specs.Histories.History.{History}
use Rattle.tcap_model.specs.Replies.Due.{birth_due}
use Rattle.tcap_model.specs.Replies.Legal.{IsLegal}
use Rattle.tcap_model.specs.Replies.Reply.{birth_answer}
use Rattle.tcap_model.specs.Statements.EngineMoves.{moved_at}
use Rattle.tcap_model.specs.Table.Dialogue.{fresh_dialogue}
use Rattle.tcap_model.specs.Table.EngineMove.{asked_in, birth_fault_in}
use Rattle.tcap_model.specs.Table.World.{world_of}
use Rattle.tcap_model.specs.Words.Answer.{Answer}
use Rattle.tcap_model.specs.Words.Event.{Event}
use Rattle.tcap_model.specs.Words.Fault.{Fault}

module _ (h : History) (legal : IsLegal h) where
  asked_by : (f : Option Fault) → birth_due h ≡ f → asked_in (world_of h) f ≡ moved_at h Event.new_dialogue
  asked_by (Some fault) e =
      let answered : birth_answer h (birth_due h) ≡ Answer.refused fault = ap (birth_answer h) e in
      moved-made h Event.new_dialogue (Answer.refused fault) (world_of h) (sym answered)
      (world-stays h Event.new_dialogue (ap (born_of Event.new_dialogue) answered) refl refl
      (λ i d there. unnamed-stays h i d Event.new_dialogue legal there refl))
  asked_by None e =
      let answered : birth_answer h (birth_due h) ≡ Answer.new_dialogue (next_dialogue h) = ap (birth_answer h) e in
      moved-made h Event.new_dialogue (Answer.new_dialogue (next_dialogue h)) (asked_in (world_of h) None).after
      (sym answered)
      (world-born h Event.new_dialogue legal (ap (born_of Event.new_dialogue) answered)
      (fresh_dialogue (next_dialogue h) h.start.reject_ms h.start.idle_ms) refl refl
      (fresh-born h legal e) (λ i d there. unnamed-stays h i d Event.new_dialogue legal there refl))

  pub births-move : asked_in (world_of h) (birth_fault_in (world_of h)) ≡ moved_at h Event.new_dialogue
  births-move = ap (asked_in (world_of h)) (births-alike h) ∙ asked_by (birth_due h) refl
