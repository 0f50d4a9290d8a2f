-- The queue of a dialogue: the components that its next message carries.
use Rattle.std.specs.Prelude.{ℕ, ◌+◌, ◌==◌, Bool, true, false, not, nat_le, List, [], ◌∷◌, ◌++◌, length, filter, Option, Some, None, if◌then◌else◌}
use Rattle.std.specs.List.{list_all}
use Rattle.tcap_component.specs.Component.{ComponentParts}
use Rattle.tcap_component.specs.Written.{written_component}
use Rattle.tcap_invocation.specs.declared.class.Class.{Class}
use Rattle.tcap_invocation.specs.declared.class.Class.TheVariants.{One, Two, Three, Four}

-- The invocation that an Invoke asks for: its number and its operation class (own).
pub record Invoking : Type 0 where
  pub number : ℕ
  pub class : Class

-- A component in the queue: its octets and, of an Invoke, what it asks for (own).
pub record Queued : Type 0 where
  pub octets : List ℕ
  pub invoking : Option Invoking

-- The greatest number of octets of a queue (own).
abbrev pub queue_limit : ℕ
queue_limit = 60000

-- A component as it stands in the queue: it is written at once (own).
abbrev pub queued : Option Invoking → ComponentParts → Queued
queued invoking component = record { octets = written_component component; invoking = invoking }

-- The octets that the next message carries: all components, in order (Q.773, Component portion).
abbrev pub joined : List Queued → List ℕ
joined [] = []
joined (c ∷ cs) = c.octets ++ joined cs

-- Whether a component fits into the queue: the octets stay at most the limit (own).
abbrev pub fits : ℕ → List Queued → Queued → Bool
fits limit queue c = nat_le (length (joined queue) + length c.octets) limit

-- The queue with a component more, where it fits, and else as it was (own).
abbrev pub queue_if_fits : ℕ → List Queued → Queued → List Queued
queue_if_fits limit queue c = if fits limit queue c then queue ++ c ∷ [] else queue

-- The queue after some components one by one, each where it fits: one that doesn't fit doesn't stop a
-- later one (own).
abbrev pub queue_each : ℕ → List Queued → List Queued → List Queued
queue_each limit queue [] = queue
queue_each limit queue (c ∷ cs) = queue_each limit (queue_if_fits limit queue c) cs

-- Whether this is the Invoke of an invocation (own).
abbrev pub asks_for : ℕ → Option Invoking → Bool
asks_for number None = false
asks_for number (Some invoking) = invoking.number == number

-- The queue without the Invoke of an invocation that was given up before it was sent
-- (Q.774, Invocation state machine).
abbrev pub without_invoke : ℕ → List Queued → List Queued
without_invoke number queue = filter (λ c. not (asks_for number c.invoking)) queue

-- The operation class whose outcome nobody reports (Q.771, Operation classes).
abbrev pub is_class_four : Class → Bool
is_class_four One = false
is_class_four Two = false
is_class_four Three = false
is_class_four Four = true

-- Whether this is no Invoke of another class than 4 (own).
abbrev pub goes_alone : Option Invoking → Bool
goes_alone None = true
goes_alone (Some invoking) = is_class_four invoking.class

-- Whether a Unidirectional may carry the queue: it isn't empty and holds no Invoke of another class
-- than 4, since nothing answers it (Q.774, Unstructured dialogue).
abbrev pub can_go_alone : List Queued → Bool
can_go_alone [] = false
can_go_alone (c ∷ cs) = list_all (λ c. goes_alone c.invoking) (c ∷ cs)
