use Rattle.std.proofs.Common.{◌≡◌, ◌∙◌, ◌<◌, ap, arith, is_err, length, rules, sym}
use Rattle.std.specs.List.{position_from}
use Rattle.tcap_component.proofs.CallerLemmas.{components_of-fault, components_of-next, components_of-none, component-shorter, taken-read, untaken-faulty}
use Rattle.tcap_words.proofs.judge.faulty_place.Goals as goal

pub returns-in_default-clause-value : goal.returns-in_default-clause-value
returns-in_default-clause-value c =
    let rest = c.loop-rest.rest.now in
    let filled : 0 < length rest = search rules in
    let f = untaken-faulty rest c.in_default.ensures in
    sym (ap (position_from is_err c.loop-rest.place) (components_of-fault rest f.0 filled f.1)) ∙ c.loop-rest.invariant.0

pub loop-rest-preserved : goal.loop-rest-preserved
loop-rest-preserved c =
    let rest = c.loop-rest.rest.now in
    let read = taken-read rest _ c.in-Some.ensures in
    let lt = component-shorter rest c.in-Some.after.now _ read in (
      sym (ap (position_from is_err c.loop-rest.place) (components_of-next rest c.in-Some.after.now _ read)) ∙ c.loop-rest.invariant.0,
      omega (arith, lt, c.loop-rest.invariant.1),
    )

pub returns-clause-value : goal.returns-clause-value
returns-clause-value c =
    let empty : length c.loop-rest.rest.now ≡ 0 = search rules in
    sym (ap (position_from is_err c.loop-rest.place) (components_of-none c.loop-rest.rest.now empty)) ∙ c.loop-rest.invariant.0

pub loop-rest-smaller : goal.loop-rest-smaller
loop-rest-smaller c = component-shorter c.loop-rest.rest.now c.in-Some.after.now _ (taken-read c.loop-rest.rest.now _ c.in-Some.ensures)
