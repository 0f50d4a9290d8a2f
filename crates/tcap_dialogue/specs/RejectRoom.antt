-- Room for the Rejects that answer the components of a message.
use Rattle.std.specs.Prelude.{◌≡◌, ◌≤◌, ◌+◌, ◌-◌, ◌*◌, ◌⊎◌, ℕ, Some, length, slice_get, vec_len, vec_capacity}
use Rattle.tcap_dialogue.specs.declared.dialogue.spares.Spares.{Spares}
use Rattle.tcap_primitives.specs.declared.queue.Queue.{Queue}

-- A queue has room for so many Rejects, each of at most eight octets (Q.773, Reject component).
abbrev pub HasRejectRoom : {A : Type 0} → Queue A → ℕ → Type 0
HasRejectRoom queue count = (vec_len queue.octets + 8 * count ≤ vec_capacity queue.octets)
    × (vec_len queue.parts + count ≤ vec_capacity queue.parts)

-- A queue has neither components nor memory for them (own).
abbrev pub IsBare : {A : Type 0} → Queue A → Type 0
IsBare queue = (vec_capacity queue.octets ≡ 0) × (vec_capacity queue.parts ≡ 0)

-- A queue that has neither components nor memory is lent, with the first Reject, what a queue left that had room for
-- so many (own).
pub record IsLentRoom {A : Type 0} (spares : Spares A) (queue : Queue A) (count : ℕ) : Type 0 where
  pub left : Queue A
  pub is_last : slice_get spares.queues.items (length spares.queues.items - 1) ≡ Some left
  pub octets : 8 * count ≤ vec_capacity left.octets
  pub parts : count ≤ vec_capacity left.parts
  pub is_bare : IsBare queue

-- So many Rejects find room: in the queue, or in what it is lent (own).
abbrev pub FindRejectRoom : {A : Type 0} → Spares A → Queue A → ℕ → Type 0
FindRejectRoom spares queue count = HasRejectRoom queue count ⊎ IsLentRoom spares queue count
