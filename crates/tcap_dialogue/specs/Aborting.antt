-- How a dialogue is over by the provider here.
use Rattle.std.specs.Prelude.{ℕ, List, [], ◌∷◌}
use Rattle.tcap_model.specs.Procedures.AbortRules.{abnormal_abort, message_sent}
use Rattle.tcap_model.specs.Table.Dialogue.{Dialogue}
use Rattle.tcap_model.specs.Table.TableMove.{Moved, over_with}
use Rattle.tcap_model.specs.Words.Address.{Address}
use Rattle.tcap_model.specs.Words.Output.{Output, AbortCause, DialogueIndication}
use Rattle.tcap_model.specs.Words.State.{address_by, peer_by}

-- What a dialogue tells where the provider aborts it: TC-P-ABORT (Q.774, Abort by the provider).
abbrev pub provider_told : Dialogue → AbortCause → Output
provider_told d why = Output.dialogue (DialogueIndication.p_abort d.standing.identifier why)

-- The dialogue is aborted on both sides, since the dialogue portion of a Continue is abnormal
-- (Q.774, Abnormal procedures relating to dialogue control).
abbrev pub abnormal_over : Dialogue → Address → List ℕ → Moved
abnormal_over d from origin =
    over_with d (message_sent (address_by d.standing.state d.kept from)
    (abnormal_abort (peer_by d.standing.state origin)) ∷ provider_told d AbortCause.abnormal ∷ []) d.invocations
