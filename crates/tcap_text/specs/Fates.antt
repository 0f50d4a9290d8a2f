-- What becomes of a message.
use Rattle.std.specs.Prelude.{Bool, true, false}
use Rattle.tcap_text.specs.declared.fate.Fate.{Fate}
use Rattle.tcap_text.specs.declared.fate.Fate.TheVariants.{Waiting, Delivered, Lost}

-- Whether both are the same (own).
abbrev pub is_same : Fate → Fate → Bool
is_same Waiting Waiting = true
is_same Waiting Delivered = false
is_same Waiting Lost = false
is_same Delivered Waiting = false
is_same Delivered Delivered = true
is_same Delivered Lost = false
is_same Lost Waiting = false
is_same Lost Delivered = false
is_same Lost Lost = true
