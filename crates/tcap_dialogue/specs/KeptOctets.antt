-- The address that a dialogue keeps, as a contract sees it.
use Rattle.std.specs.Prelude.{ℕ, ◌≤◌, List, length, take}
use Rattle.tcap_dialogue.specs.declared.dialogue.kept_address.Held.{Held}
use Rattle.tcap_dialogue.specs.declared.dialogue.kept_address.Held.TheVariants as held

-- the most octets that stand in the dialogue itself (own)
abbrev pub most_in_place : ℕ
most_in_place = 30

module _ {A : Type 0} where
  -- the octets of the address (own)
  abbrev pub kept_octets : Held A → List ℕ
  kept_octets (held.InPlace short) = take short.len short.octets
  kept_octets (held.Apart octets) = octets.items

  -- those in place are no more than there is room for, and all are octets of an address (own)
  abbrev pub IsKept : Held A → Type 0
  IsKept (held.InPlace short) = short.len ≤ most_in_place
  IsKept (held.Apart octets) = length octets.items ≤ 255
