use Rattle.std.proofs.Common.{ap, ◌∙◌, sym, string_bytes, ◌++◌, map}
use Rattle.std.proofs.lemmas.Result.{on_ok_weaker}
use Rattle.tcap_lines.specs.FaultText.{name_words}
use Rattle.tcap_lines.specs.Table.{names_of}
use Rattle.tcap_lines.specs.TableViews.{forms_view}
use Rattle.tcap_lines.proofs.TableLemmas.{names-append}
use Rattle.tcap_words.proofs.CallerLemmas.{after_one}
use Rattle.tcap_lines.proofs.fault_text.add_first_names.Goals as goal

pub returns : goal.returns
returns g c =
    let sides = map (λ side. side.now) c.args.table.now.sides.now in
    let names = names_of (forms_view c.args.table.now.alone.now) in
    on_ok_weaker c.add_names.result (λ e. e ∙ ap (λ w. string_bytes c.args.text.now ++ w) (sym (names-append sides names)))
    (after_one c.add_names.result (string_bytes c.args.text.now) (string_bytes c.add_listed.new.text) (string_bytes c.add_names.new.text) (name_words sides) (name_words names) c.in_ok-add_listed.ensures c.add_names.ensures)
