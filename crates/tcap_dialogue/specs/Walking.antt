-- The components of a message, from some of them on.
use Rattle.std.specs.Prelude.{ℕ, List, ◌++◌, Option, Some, None}
use Rattle.tcap_component.specs.Component.{ComponentParts}
use Rattle.tcap_invocation.specs.Invocations.{InvocationList}
use Rattle.tcap_model.specs.Procedures.ComponentHandling.{Item}
use Rattle.tcap_model.specs.Procedures.QueueRules.{Queued, queue_limit, queued, queue_if_fits, queue_each}
use Rattle.tcap_model.specs.Table.TableMove.{Walked, walked}
use Rattle.tcap_model.specs.Words.Output.{Output}

-- What was told, and the invocations (own).
pub record WalkTold : Type 0 where
  pub told : List Output
  pub list : InvocationList

-- What is told in the end, from what was told before (own).
abbrev pub told_by : List Output → Walked → WalkTold
told_by told w = record { told = told ++ w.told; list = w.invocations }

-- What is indicated in the end, and the invocations, from what was indicated and the components that follow
-- (Q.774, Component handling).
abbrev pub told_from : ℕ → ℕ → WalkTold → List Item → WalkTold
told_from dialogue clock t items = told_by t.told (walked dialogue clock t.list items)

-- What was told, the invocations and the queue (own).
pub record Done : Type 0 where
  pub told : List Output
  pub list : InvocationList
  pub queue : List Queued

-- What is done in the end, from what was told and queued before (own).
abbrev pub done_by : List Output → List Queued → Walked → Done
done_by told queue w = record { told = told ++ w.told; list = w.invocations; queue = queue_each queue_limit queue w.rejects }

-- What is indicated in the end, the invocations and the queue, from those before and the components that
-- follow (Q.774, Component handling).
abbrev pub done_from : ℕ → ℕ → Done → List Item → Done
done_from dialogue clock done items = done_by done.told done.queue (walked dialogue clock done.list items)

-- The queue with a Reject, if there is one and it fits (own).
abbrev pub with_reject : List Queued → Option ComponentParts → List Queued
with_reject queue None = queue
with_reject queue (Some reject) = queue_if_fits queue_limit queue (queued None reject)
