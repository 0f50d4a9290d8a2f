use Rattle.std.proofs.Common.{sym, ◌∙◌}
use Rattle.std.proofs.lemmas.Result.{err_from_is_err_and}
use Rattle.object_identifiers.proofs.TextLemmas.{stop_passed, stop_refused, character_passed, character_refused, text_ended}
use Rattle.object_identifiers.proofs.text.read_arcs.Goals as goal
use Rattle.object_identifiers.proofs.text.read_arcs.Goals.{then-character-eq46+in_ok-add_arc, else-character-eq46+in_ok-with_character}

pub returns-in_err-add_arc : goal.returns-in_err-add_arc
returns-in_err-add_arc c =
    let p = err_from_is_err_and c.from_residual.result c.from_residual.ensures.1 in
    rw (p.1, p.2) (sym c.loop-character.invariant ∙ stop_refused c.loop-character.arcs.items c.loop-character.number c.in_err-add_arc.field-0.0 _ c.args.text.now c.loop-character-test.true c.if-character-eq46.true c.in_err-add_arc.ensures)

pub returns-in_err-with_character : goal.returns-in_err-with_character
returns-in_err-with_character c =
    let p = err_from_is_err_and c.from_residual-in_err-with_character.result c.from_residual-in_err-with_character.ensures.1 in
    rw (p.1, p.2) (sym c.loop-character.invariant ∙ character_refused c.loop-character.arcs.items c.loop-character.number c.in_err-with_character.field-0.0 _ c.args.text.now c.loop-character-test.true c.if-character-eq46.false c.in_err-with_character.ensures)

pub loop-character-preserved : goal.loop-character-preserved
loop-character-preserved c = elim c.if-character-eq46.branch [
  | then-character-eq46+in_ok-add_arc w ↦
      rw (w.arcs-is, w.number-is) (stop_passed c.loop-character.arcs.items _ c.loop-character.number _ c.args.text.now c.loop-character-test.true w.if-character-eq46.true w.in_ok-add_arc.ensures ∙ c.loop-character.invariant)
  | else-character-eq46+in_ok-with_character w ↦
      rw (w.arcs-is, w.number-is) (character_passed c.loop-character.arcs.items c.loop-character.number _ _ c.args.text.now c.loop-character-test.true w.if-character-eq46.false w.in_ok-with_character.ensures ∙ c.loop-character.invariant)
]

pub returns-in_err-add_arc-2 : goal.returns-in_err-add_arc-2
returns-in_err-add_arc-2 c =
    let p = err_from_is_err_and c.from_residual-in_err-add_arc-2.result c.from_residual-in_err-add_arc-2.ensures.1 in
    rw (p.1, p.2) (sym c.loop-character.invariant ∙ (text_ended c.loop-character.arcs.items c.loop-character.number _ c.args.text.now c.loop-character-test.false ∙ c.in_err-add_arc-2.ensures))

pub returns : goal.returns
returns c = sym c.loop-character.invariant ∙ (text_ended c.loop-character.arcs.items c.loop-character.number _ c.args.text.now c.loop-character-test.false ∙ c.in_ok-add_arc-2.ensures)
