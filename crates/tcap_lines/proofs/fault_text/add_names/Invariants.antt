use Rattle.std.proofs.Common.{◌≡◌, ◌++◌, drop, string_bytes}
use Rattle.tcap_lines.specs.FaultText.{name_words}
use Rattle.tcap_lines.specs.Table.{names_of}
use Rattle.tcap_lines.specs.TableViews.{forms_view}
use Rattle.tcap_lines.proofs.fault_text.add_names.Given as goal

-- what was added, and the names that are left, are all
abbrev pub invariant-loop-form : goal.invariant-loop-form
invariant-loop-form g l =
    string_bytes l.text ++ name_words (names_of (forms_view (drop l.form-index l.forms))) ≡ string_bytes l.fn.text ++ name_words (names_of (forms_view l.forms))
