use Rattle.std.proofs.Common.{◌≡◌, ◌+◌, ◌-◌, ◌<◌, ℕ, true, false, [], length, sym, ap, ◌∙◌, arith, rules}
use Rattle.ber_core.specs.Place.{head_length}
use Rattle.ber_core.specs.SequenceReading.{is_tag}
use Rattle.ber_core.specs.Way.{further, inside}
use Rattle.ber_core.specs.Views.{parts}
use Rattle.tcap_explain.proofs.WalkLemmas.{content_within}
use Rattle.tcap_explain.proofs.WayLemmas.{at_place, inside-none, inside-fault, inside-here, inside-behind, further-then}
use Rattle.tcap_explain.proofs.way.find.Goals as goal

pub returns-in_default-clause-value : goal.returns-in_default-clause-value
returns-in_default-clause-value c =
    let rest = c.loop-rest.rest.now in
    let skipped = length c.args.bytes.now - length rest in
    let filled : 0 < length rest = search rules in
    let none = inside-fault c.args.tag rest _ filled c.in_default.ensures.exact in
    let here : at_place skipped [] ≡ further skipped (at_place 0 []) = ap (λ (n : ℕ). at_place n []) (omega arith) in
    here ∙ (ap (further skipped) (sym none) ∙ c.loop-rest.invariant.1)

pub returns-then-is_tag-clause-value : goal.returns-then-is_tag-clause-value
returns-then-is_tag-clause-value c =
    let rest = c.loop-rest.rest.now in
    let skipped = length c.args.bytes.now - length rest in
    let tagged : is_tag c.args.tag c.in-Ok.element.tag.now ≡ true = search rules in
    let found = inside-here c.args.tag rest c.in-Ok.after.now (parts c.in-Ok.element) c.in-Ok.ensures.exact tagged in
    let here : at_place (skipped + c.head_len.result) c.in-Ok.element.content.now ≡ further skipped (at_place (head_length rest) c.in-Ok.element.content.now) =
    ap (λ (n : ℕ). at_place (skipped + n) c.in-Ok.element.content.now) c.head_len.ensures.value in
    here ∙ (ap (further skipped) (sym found) ∙ c.loop-rest.invariant.1)

pub returns-then-is_tag-clause-within : goal.returns-then-is_tag-clause-within
returns-then-is_tag-clause-within c =
    let w = content_within c.loop-rest.rest.now c.in-Ok.after.now (parts c.in-Ok.element) c.in-Ok.ensures.exact in
    omega (arith, w.0, c.head_len.ensures.value, c.loop-rest.invariant.0)

pub loop-rest-smaller : goal.loop-rest-smaller
loop-rest-smaller c = (content_within c.loop-rest.rest.now c.in-Ok.after.now (parts c.in-Ok.element) c.in-Ok.ensures.exact).2

pub loop-rest-preserved : goal.loop-rest-preserved
loop-rest-preserved c =
    let rest = c.loop-rest.rest.now in
    let after = c.in-Ok.after.now in
    let lt = (content_within rest after (parts c.in-Ok.element) c.in-Ok.ensures.exact).2 in
    let other : is_tag c.args.tag c.in-Ok.element.tag.now ≡ false = search rules in
    let on = inside-behind c.args.tag rest after (parts c.in-Ok.element) c.in-Ok.ensures.exact other in
    let sum : length c.args.bytes.now - length after ≡ (length c.args.bytes.now - length rest) + (length rest - length after) = omega (arith, lt, c.loop-rest.invariant.0) in (
      omega (arith, lt, c.loop-rest.invariant.0),
      ap (λ (n : ℕ). further n (inside c.args.tag after)) sum
          ∙ (sym (further-then (length c.args.bytes.now - length rest) (length rest - length after) (inside c.args.tag after))
          ∙ (ap (further (length c.args.bytes.now - length rest)) (sym on) ∙ c.loop-rest.invariant.1)),
    )

pub returns-clause-value : goal.returns-clause-value
returns-clause-value c =
    let rest = c.loop-rest.rest.now in
    let skipped = length c.args.bytes.now - length rest in
    let empty : length rest ≡ 0 = search rules in
    let none = inside-none c.args.tag rest empty in
    let here : at_place (length c.args.bytes.now) [] ≡ further skipped (at_place 0 []) = ap (λ (n : ℕ). at_place n []) (omega (arith, empty)) in
    here ∙ (ap (further skipped) (sym none) ∙ c.loop-rest.invariant.1)
