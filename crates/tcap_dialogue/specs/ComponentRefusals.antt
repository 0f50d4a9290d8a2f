-- Why an Invoke or an answer isn't queued, and what a request that queues an answer gives.
use Rattle.std.specs.Prelude.{◌&&◌, ℕ, ℤ, not, nat_lt, nat_le, is_some, Option, Some, None, if◌then◌else◌}
use Rattle.tcap_component.specs.Component.{ComponentParts}
use Rattle.tcap_component.specs.Written.{coded_part, has_code, has_parameter}
use Rattle.tcap_invocation.specs.Invocations.{entry_at}
use Rattle.tcap_invocation.specs.Stage.{moment_limit}
use Rattle.tcap_model.specs.Procedures.QueueRules.{fits, queue_limit, queued}
use Rattle.tcap_model.specs.Procedures.States.{has_peer}
use Rattle.tcap_model.specs.Table.Dialogue as model
use Rattle.tcap_model.specs.Table.TableMove.{with_queued}
use Rattle.tcap_model.specs.Words.Answer.{Answer}
use Rattle.tcap_model.specs.Words.Fault.{Fault}
use Rattle.tcap_primitives.specs.QueueRefusals.{queue_fault}
use Rattle.tcap_dialogue.specs.StepViews.{Outcome}

-- Why a component that answers the peer isn't queued: the peer wasn't heard, or the queue doesn't take
-- it (Q.774, Component handling).
abbrev pub answer_fault : model.Dialogue → ComponentParts → Option Fault
answer_fault d c = if has_peer d.standing.state then queue_fault d.standing.queue c else Some Fault.wrong_state

-- What the request of an answer gives, where this fault is due or none (own).
abbrev pub answered_by : model.Dialogue → ComponentParts → Option Fault → Outcome
answered_by d c (Some f) = (Answer.refused f, Some d)
answered_by d c None = (Answer.done, Some (with_queued d (Some (queued None c))))

-- What the request of an answer gives (Q.774, Component handling).
abbrev pub answered : model.Dialogue → ComponentParts → Outcome
answered d c = answered_by d c (answer_fault d c)

-- Why an Invoke isn't queued, its number and memory apart: its timeout is none, its code or its parameter can't be
-- written, its identifier is in use, or the queue has no room for it (Q.774, Component handling; the order is own).
abbrev pub invoke_refusal : model.Dialogue → ℤ → ℕ → ComponentParts → Option Fault
invoke_refusal d id timeout c =
    if not (nat_lt 0 timeout && nat_le timeout moment_limit) then Some Fault.bad_timeout
    else if not (has_code (coded_part c)) then Some Fault.bad_oid
    else if not (has_parameter (coded_part c)) then Some Fault.bad_parameter
    else if is_some (entry_at d.invocations.rows id) then Some Fault.invoke_id_in_use
    else if fits queue_limit d.standing.queue (queued None c) then None
    else Some Fault.too_long
