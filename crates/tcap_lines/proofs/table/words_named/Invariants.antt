use Rattle.std.proofs.Common.{◌≡◌, drop}
use Rattle.tcap_lines.specs.Table.{words_named}
use Rattle.tcap_lines.specs.TableViews.{forms_view}
use Rattle.tcap_lines.proofs.table.words_named.Given as goal

-- the first form of this name is among those that are left
abbrev pub invariant-loop-form : goal.invariant-loop-form
invariant-loop-form l = words_named l.name (forms_view (drop l.form-index l.forms)) ≡ words_named l.name (forms_view l.fn.forms)
