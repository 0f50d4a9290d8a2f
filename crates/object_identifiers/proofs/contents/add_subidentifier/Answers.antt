use Rattle.std.proofs.Common.{◌≡◌, ◌-◌, refl, sym, ◌∙◌, arith, drop, take}
use Rattle.std.proofs.lemmas.List.{length-set, length-drop, take_all}
use Rattle.object_identifiers.specs.Contents.{subidentifier}
use Rattle.object_identifiers.proofs.SubidentifierLemmas.{room_left, room_next, subidentifier_begun, written_on, none_left}
use Rattle.object_identifiers.proofs.contents.add_subidentifier.Goals as goal

pub loop-rest-init : goal.loop-rest-init
loop-rest-init c = record {
  five = refl;
  within = omega arith;
  fits = omega (arith, c.ranges.number);
  written = subidentifier_begun c.args.number;
}

pub overflow_sub-first : goal.overflow_sub-first
overflow_sub-first c = room_left c.loop-rest.first c.loop-rest.rest c.loop-rest.invariant.fits (omega arith)

pub loop-rest-preserved : goal.loop-rest-preserved
loop-rest-preserved c =
    let i = c.loop-rest.invariant in
    let some = c.loop-rest-test.true in
    let before = room_left c.loop-rest.first c.loop-rest.rest i.fits some in
    record {
      five = length-set _ _ _ ∙ i.five;
      within = omega (arith, i.within);
      fits = room_next c.loop-rest.first c.loop-rest.rest i.fits some;
      written = written_on c.loop-rest.series c.loop-rest.first c.loop-rest.rest i.five i.within before some ∙ i.written;
    }

pub returns : goal.returns
returns c =
    let i = c.loop-rest.invariant in
    let none : c.loop-rest.rest ≡ 0 = omega arith in
    let written = i.written in
    let whole : drop c.loop-rest.first c.loop-rest.series ≡ subidentifier c.args.number = sym (none_left _) ∙ (rw none at written) in
    let sliced : take (5 - c.loop-rest.first) (drop c.loop-rest.first c.loop-rest.series) ≡ subidentifier c.args.number =
    take_all (5 - c.loop-rest.first) (drop c.loop-rest.first c.loop-rest.series) (omega (arith, i.five, length-drop c.loop-rest.first c.loop-rest.series)) ∙ whole in
    let added = c.add_octets.ensures in
    rw sliced at added
