use Rattle.std.proofs.Common.{◌≡◌, ◌+◌, ◌-◌, ◌<◌, ◌∙◌, ℕ, true, false, List, length, ap, arith, rules, sym}
use Rattle.ber_core.specs.SequenceReading.{is_tag}
use Rattle.ber_core.specs.Views.{head_fields}
use Rattle.ber_core.specs.Way.{further, inside}
use Rattle.tcap_explain.proofs.WalkLemmas.{content_within}
use Rattle.tcap_explain.proofs.WayLemmas.{inside-behind, inside-fault, inside-head, inside-unread, further-then, read-behind, read-tag}
use Rattle.tcap_explain.proofs.way.place_of.Goals as goal

pub returns-then-is_tag-clause-value : goal.returns-then-is_tag-clause-value
returns-then-is_tag-clause-value c =
    let rest = c.loop-head.rest.now in
    let filled : 0 < length rest = search rules in
    let tagged : is_tag c.args.tag c.in-Ok.head.tag.now ≡ true = search rules in
    let place = inside-head c.args.tag rest (head_fields c.in-Ok.head) c.in-Ok.ensures.exact filled c.loop-head.invariant.2 tagged in
    let all = ap (λ (p : ℕ × List ℕ). p.0) c.loop-head.invariant.1 in
    let lt = c.in-Ok.ensures.shorter in
    omega (arith, place, all, lt, c.loop-head.invariant.0)

pub returns-in_default-read_element-clause-value : goal.returns-in_default-read_element-clause-value
returns-in_default-read_element-clause-value c =
    let rest = c.loop-head.rest.now in
    let filled : 0 < length rest = search rules in
    let none = ap (λ (p : ℕ × List ℕ). p.0) (inside-fault c.args.tag rest _ filled c.in_default-read_element.ensures.exact) in
    let all = ap (λ (p : ℕ × List ℕ). p.0) c.loop-head.invariant.1 in
    omega (arith, none, all)

pub loop-head-smaller : goal.loop-head-smaller
loop-head-smaller c = (content_within c.loop-head.rest.now c.in-Ok-read_element.after.now _ c.in-Ok-read_element.ensures.exact).2

pub loop-head-preserved : goal.loop-head-preserved
loop-head-preserved c =
    let rest = c.loop-head.rest.now in
    let after = c.in-Ok-read_element.after.now in
    let exact = c.in-Ok-read_element.ensures.exact in
    let lt = (content_within rest after _ exact).2 in
    let same = read-tag rest after _ (head_fields c.in-Ok.head) exact c.in-Ok.ensures.exact in
    let not_here : is_tag c.args.tag c.in-Ok.head.tag.now ≡ false = search rules in
    let other = ap (is_tag c.args.tag) same ∙ not_here in
    let on = inside-behind c.args.tag rest after _ exact other in
    let before = length c.args.bytes.now - length rest in
    let sum : length c.args.bytes.now - length after ≡ before + (length rest - length after) = omega (arith, lt, c.loop-head.invariant.0) in (
      omega (arith, lt, c.loop-head.invariant.0),
      ap (λ (n : ℕ). further n (inside c.args.tag after)) sum
          ∙ (sym (further-then before (length rest - length after) (inside c.args.tag after))
          ∙ (ap (further before) (sym on) ∙ c.loop-head.invariant.1)),
      read-behind rest after _ exact c.loop-head.invariant.2,
    )

pub returns-clause-value : goal.returns-clause-value
returns-clause-value c =
    let none = ap (λ (p : ℕ × List ℕ). p.0) (inside-unread c.args.tag c.loop-head.rest.now _ c.in_default.ensures.exact) in
    let all = ap (λ (p : ℕ × List ℕ). p.0) c.loop-head.invariant.1 in
    omega (arith, none, all)
