-- How a run prints what it tells.
use Rattle.std.specs.Prelude.{List, Option}
use Rattle.tcap_judging.specs.Names.{NameParts}
use Rattle.tcap_judging.specs.declared.form.Layout.{Layout}

-- How its lines look, and by which list it prints what each message names, if it does (own).
pub record Form : Type 0 where
  pub layout : Layout
  pub names : Option (List NameParts)

-- A form of these parts (own).
abbrev pub form_by : Layout → Option (List NameParts) → Form
form_by layout names = record { layout = layout; names = names }
