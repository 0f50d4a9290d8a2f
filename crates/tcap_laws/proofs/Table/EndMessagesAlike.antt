-- An End is answered alike by what the dialogue keeps and by the history.
use Rattle.std.proofs.Common.{◌≡◌, ℕ, List, [], ◌∷◌, ◌++◌, Option, Some, ap, ◌∙◌, length}
use Rattle.tcap_component.specs.ComponentReading.{components_of}
use Rattle.tcap_laws.proofs.Table.LastAnswersAlike.{dialogue_in, over-answer, components-told}
use Rattle.tcap_laws.proofs.Table.RequestsJudgedAlike.{at_life}
use Rattle.tcap_laws.proofs.Rows.ComponentsAlike.{fault_last}
use Rattle.tcap_laws.proofs.Rows.RowsAfterComponents.{walk_at}
use Rattle.tcap_model.specs.Table.Agreement.{setting_at}
use Rattle.tcap_model.specs.Words.Answer.{Answer}
use Rattle.tcap_model.specs.Procedures.ComponentHandling.{told_of}
use Rattle.tcap_model.specs.Table.Dialogue.{Dialogue}
use Rattle.tcap_model.specs.Histories.History.{History}
use Rattle.tcap_model.specs.Replies.Legal.{IsLegal}
use Rattle.tcap_model.specs.Histories.Life.{life}
use Rattle.tcap_model.specs.Words.Output.{Output, AbortCause, DialogueIndication}
use Rattle.tcap_model.specs.Procedures.PortionRules.{PortionVerdict, portion_verdict}
use Rattle.tcap_model.specs.Replies.Queue.{handled_in}
use Rattle.tcap_model.specs.Replies.Reply.{taken_outputs, end_outputs}
use Rattle.tcap_model.specs.Words.State.{State}
use Rattle.tcap_model.specs.Table.TableMove.{DialogueEvent, Walked, ended_told, walked_in, ended_by, table_move}
use Rattle.tcap_model.specs.Table.World.{dialogue_at}
use Rattle.tcap_pdu.specs.FrameSpelling.{Message}
use Rattle.tcap_laws.proofs.Rows.EndsAfterComponents.{ended_after}
use Rattle.tcap_model.specs.Words.Address.{Address}

module _ (h : History) (dialogue : ℕ) (legal : IsLegal h) where
  any-end : (state : State) (context : Option (List ℕ)) (components : List ℕ) (verdict : PortionVerdict)
      → (ended_by (dialogue_in h dialogue legal state context) verdict
      (walked_in (setting_at h).clock (dialogue_in h dialogue legal state context) components)).answer
      ≡ Answer.outputs (end_outputs dialogue h.pairs components verdict)
  any-end state context components PortionVerdict.abnormal =
      over-answer h dialogue legal state context (Output.dialogue
      (DialogueIndication.p_abort dialogue AbortCause.abnormal) ∷ [])
  any-end state context components (PortionVerdict.normal told info) =
      let w : Walked = walked_in (setting_at h).clock (dialogue_in h dialogue legal state context) components in
      let first : List Output = told_of (handled_in dialogue h.pairs components) in
      ap (λ z. Answer.outputs (Output.dialogue (DialogueIndication.end dialogue told info) ∷ z
      ++ ended_told dialogue w.invocations)) (components-told h dialogue legal state context components)
      ∙ (ap (λ l. Answer.outputs (Output.dialogue (DialogueIndication.end dialogue told info) ∷ first
      ++ ended_told dialogue l)) (walk_at h.start h.pairs legal.1 h.start.reject_ms dialogue
      (components_of components) (fault_last (length components) components))
      ∙ ap (λ z. Answer.outputs (Output.dialogue (DialogueIndication.end dialogue told info) ∷ first ++ z))
      (ended_after h.start h.pairs legal.1 h.start.reject_ms dialogue (components_of components)))

  pub end-answered : (d : Dialogue) (from : Address) (to : List ℕ) (portion : Option (List ℕ)) (components : List ℕ)
      → dialogue_at h.start.reject_ms h.start.idle_ms h.pairs dialogue ≡ Some d
      → (table_move (setting_at h) d (DialogueEvent.frame from (Message.end to portion components))).answer
      ≡ Answer.outputs (taken_outputs dialogue h.pairs (life dialogue h.pairs) from (Message.end to portion components))
  unfolding table_move
  end-answered d from to portion components e =
      at_life (λ l d.
      (table_move (setting_at h) d (DialogueEvent.frame from (Message.end to portion components))).answer
      ≡ Answer.outputs (taken_outputs dialogue h.pairs l from (Message.end to portion components))) h dialogue d
      (λ state context. any-end state context components (portion_verdict state context portion))
      (life dialogue h.pairs) e
