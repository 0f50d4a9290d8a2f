-- The memory that a Begin takes.
use Rattle.std.specs.Prelude.{◌≡◌, ℕ, ◌+◌, ◌≤◌, List, [], Option, Some, None, length}
use Rattle.tcap_dialogue.specs.declared.dialogue.begin_memory.BeginMemory.{BeginMemory}
use Rattle.tcap_dialogue.specs.declared.dialogue.kept_address.Names.{Names}
use Rattle.tcap_dialogue.specs.declared.dialogue.spares.Spares.{Spares}
use Rattle.tcap_dialogue.specs.KeptOctets.{most_in_place}
use Rattle.tcap_dialogue.specs.RejectRoom.{FindRejectRoom}
use Rattle.tcap_model.specs.Words.Address.{Address}
use Rattle.tcap_primitives.specs.ContextViews.{context_view}
use Rattle.tcap_primitives.specs.IndicationViews.{optional_octets}
use Rattle.tcap_primitives.specs.QueueViews.{queue_view}
use Rattle.tcap_reception.specs.PortionParts.{Given, context_slice, info_of_portion}

-- The octets that the TC-BEGIN indication names: those of the context and of the information (own).
abbrev pub begin_indication_octets : Given → ℕ
begin_indication_octets aarq = optional_octets (context_slice aarq) + length (info_of_portion aarq)

module _ {A : Type 0} where
  -- The address of the peer and the context that it named were copied, or take no memory (own).
  abbrev pub AreNamesOf : Option (Names A) → Address → Option (List ℕ) → Type 0
  AreNamesOf None from context = (length from ≤ most_in_place) × (context ≡ None)
  AreNamesOf (Some names) from context = (names.kept ≡ from) × (context_view names.context ≡ context)

  -- Nothing was found yet (own).
  abbrev pub HoldsNothing : BeginMemory A → Type 0
  HoldsNothing memory = (queue_view memory.queue ≡ []) × (memory.names ≡ None)

  -- All memory was found for a Begin from this address, with this context and so many components: that for the Rejects
  -- that answer them, and that for what its dialogue keeps (own).
  pub record IsBeginMemory (memory : BeginMemory A) (spares : Spares A) (from : Address) (context : Option (List ℕ)) (components : ℕ) : Type 0 where
    pub is_empty : queue_view memory.queue ≡ []
    pub has_room : FindRejectRoom spares memory.queue components
    pub are_names : AreNamesOf memory.names from context
