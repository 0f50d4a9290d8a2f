use Rattle.std.proofs.Common.{rules, ◌≡◌, ◌∙◌, ◌++◌, ◌∷◌, [], None, nat_eq, ap}
use Rattle.indexmap.specs.IndexMap.{insert_entry, get as map_get}
use Rattle.indexmap.proofs.CallerLemmas.{insert_entry-new}
use Rattle.timed_table.specs.Tied.{key_of}
use Rattle.timed_table.proofs.keys.Keys.insert.Goals as goal

pub returns-clause-ok : goal.returns-clause-ok
returns-clause-ok g c =
    let none : map_get nat_eq c.self.inside.index c.args.id ≡ None = ap (λ es. key_of es c.args.id) c.self.view_is ∙ c.requires in
    let put : c.insert.new.self.entries ≡ insert_entry nat_eq c.self.inside.index.entries c.args.id c.args.key = search rules in
    put ∙ insert_entry-new nat_eq c.self.inside.index c.args.id c.args.key none ∙ ap (λ es. es ++ (c.args.id, c.args.key) ∷ []) c.self.view_is
