-- Which dialogue received bytes name, whoever sends them.
use Rattle.std.specs.Prelude.{ℕ, Bool, List, []}
use Rattle.tcap_model.specs.Histories.Names.{names}
use Rattle.tcap_model.specs.Words.Event.{Event}

-- Whether received bytes name the dialogue: their sender is of no account.
abbrev pub names_in : List ℕ → ℕ → Bool
names_in bytes dialogue = names (Event.received [] bytes) dialogue
