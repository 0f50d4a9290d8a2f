use Rattle.std.proofs.Common.{ap, sym, None, ◌∙◌}
use Rattle.std.proofs.lemmas.List.{map-append}
use Rattle.tcap_engine.proofs.TimedLemmas.{below-drawn, timed-push}
use Rattle.timed_table.specs.Row.{entries_of}
use Rattle.tcap_engine.proofs.dialogues.Dialogues.insert.Goals.{in-Ok, in-Err}
use Rattle.tcap_engine.proofs.dialogues.Dialogues.insert.Goals as goal

pub insert-requires : goal.insert-requires
insert-requires g c = below-drawn c.args.identifier c.self.inside.rows (rw (← c.self.view_is) at c.requires.drawn)

pub invariant_of-self : goal.invariant_of-self
invariant_of-self g c = elim c.match-insert.branch [
  | in-Ok w ↦ rw w.in-Ok.ensures.ok (timed-push c.args.identifier c.args.dialogue None c.self.inside.rows (sym c.requires.untimed) c.self.invariant)
  | in-Err w ↦ rw w.in-Err.ensures.err c.self.invariant
]

pub returns-clause-ok : goal.returns-clause-ok
returns-clause-ok g c = elim c.match-insert.branch [
  | in-Ok w ↦ rw (w.result-is, ← c.self.view_is) (ap entries_of w.in-Ok.ensures.ok ∙ map-append _ c.self.inside.rows _)
  | in-Err w ↦ rw w.result-is tt
]

pub returns-clause-err : goal.returns-clause-err
returns-clause-err g c = elim c.match-insert.branch [
  | in-Ok w ↦ rw w.result-is tt
  | in-Err w ↦ rw (w.result-is, ← c.self.view_is) (ap entries_of w.in-Err.ensures.err)
]
