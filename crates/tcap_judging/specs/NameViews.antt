-- A name, and a form with names, as a contract sees them.
use Rattle.std.specs.Prelude.{List, Option, map, option_copied}
use Rattle.std.specs.Borrow.{Bor}
use Rattle.std.specs.Option.{option_map}
use Rattle.tcap_judging.specs.Form.{Form, form_by}
use Rattle.tcap_judging.specs.declared.form.Form.{Form as FormStruct}
use Rattle.tcap_judging.specs.Names.{NameLine, NameParts, name_parts, nothing, named as named_line, bad}
use Rattle.tcap_judging.specs.declared.name_list.Named.{Named}
use Rattle.tcap_judging.specs.declared.name_line.NameLine.{NameLine as LineEnum}
use Rattle.tcap_judging.specs.declared.name_line.NameLine.TheVariants as lines

-- A name (own).
abbrev pub named_view : Named → NameParts
named_view n = name_parts n.kind n.key.now n.name.now

-- What a line gives (own).
abbrev pub line_view : LineEnum → NameLine
line_view lines.Nothing = nothing
line_view (lines.Name n) = named_line (named_view n)
line_view lines.Bad = bad

-- A list of names, if there is one (own).
abbrev pub names_view : Option (Bor (List Named)) → Option (List NameParts)
names_view names = option_map (map named_view) (option_copied names)

-- How a run prints what it tells (own).
abbrev pub form_view : FormStruct → Form
form_view f = form_by f.layout (names_view f.names)
