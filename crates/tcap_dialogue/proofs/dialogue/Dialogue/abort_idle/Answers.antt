use Rattle.std.proofs.Common.{◌≡◌, ◌∙◌, ◌++◌, ◌∷◌, [], ap, append_assoc}
use Rattle.tcap_model.specs.Table.TableMove.{ended_told}
use Rattle.tcap_model.specs.Words.Output.{Output, AbortCause, DialogueIndication}
use Rattle.tcap_dialogue.proofs.dialogue.Dialogue.abort_idle.Goals as goal

pub returns-clause-told : goal.returns-clause-told
returns-clause-told g c =
    let d = c.self.inside.identifier in
    let before = c.args.sink.now.outputs in
    let aborted : Output = Output.dialogue (DialogueIndication.p_abort d AbortCause.idle) in
    let ended = ended_told d c.self.inside.invocations in
    let pushed : c.tell.new.self.outputs ≡ before ++ aborted ∷ [] = c.tell.ensures.told in
    rw (← c.self.view_is) (c.tell_ended.ensures.told ∙ ap (λ os. os ++ ended) pushed ∙ append_assoc before (aborted ∷ []) ended)
