-- The queue as a contract sees it.
use Rattle.std.specs.Prelude.{ℕ, List, [], ◌∷◌, take, drop}
use Rattle.std.specs.Option.{option_map}
use Rattle.tcap_model.specs.Procedures.QueueRules as model
use Rattle.tcap_primitives.specs.declared.queue.Invoking.{Invoking}
use Rattle.tcap_primitives.specs.declared.queue.Part.{Part}
use Rattle.tcap_primitives.specs.declared.queue.Queue.{Queue}

-- The invocation that an Invoke asks for (own).
abbrev pub invoking_view : Invoking → model.Invoking
invoking_view i = record { number = i.number; class = i.class }

-- A component of the queue: so many octets from the front, and what it asks for (own).
abbrev pub part_view : Part → List ℕ → model.Queued
part_view p octets = record { octets = take p.len octets; invoking = option_map invoking_view p.invoking }

-- The components of the queue, cut from the octets one after the other (own).
abbrev pub cut : List Part → List ℕ → List model.Queued
cut [] octets = []
cut (p ∷ parts) octets = part_view p octets ∷ cut parts (drop p.len octets)

-- The queue (own).
abbrev pub queue_view : {A : Type 0} → Queue A → List model.Queued
queue_view q = cut q.parts.items q.octets.items
