-- Forms and tables as a contract sees them.
use Rattle.std.specs.Prelude.{List, map}
use Rattle.tcap_lines.specs.declared.table.Form.{Form}
use Rattle.tcap_lines.specs.declared.table.Table.{Table}
use Rattle.tcap_lines.specs.Table.{FormWords, LineTable}

-- A form (own).
abbrev pub form_view : Form → FormWords
form_view form = record { name = form.name.now; words = form.words.now }

-- Forms (own).
abbrev pub forms_view : List Form → List FormWords
forms_view forms = map form_view forms

-- A table (own).
abbrev pub table_view : Table → LineTable
table_view table = record {
  sides = map (λ side. side.now) table.sides.now;
  on_side = forms_view table.on_side.now;
  alone = forms_view table.alone.now;
}
