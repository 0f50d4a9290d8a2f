-- What was found for a Begin.
use Rattle.std.proofs.Common.{ℕ, ◌≤◌, List, Option, Some, None, length}
use Rattle.std.specs.Prelude.{IfNone}
use Rattle.tcap_dialogue.specs.BeginMemory.{AreNamesOf}
use Rattle.tcap_dialogue.specs.KeptOctets.{most_in_place}
use Rattle.tcap_dialogue.specs.declared.dialogue.kept_address.Names.{Names}
use Rattle.tcap_model.specs.Words.Address.{Address}

-- An address of which no copy was made takes no memory.
pub short-names : {A : Type 0} (names : Option (Names A)) (from : Address) (context : Option (List ℕ)) → AreNamesOf names from context → IfNone names (length from ≤ most_in_place)
short-names None from context are = are.0
short-names (Some names) from context are = tt
