use Rattle.std.proofs.Common.{rules, ◌≡◌, ◌∙◌, ◌≤◌, ap, arith, length, option_copied, slice_get}
use Rattle.tcap_stories.specs.Comparing.{and_then, held, side_by_side}
use Rattle.tcap_stories.specs.Views.{texts_of}
use Rattle.tcap_stories.proofs.ComparingLemmas.{as_many, next_held, past_both}
use Rattle.tcap_stories.proofs.comparing.Comparing.expect.Goals as goal

pub returns-then-self-len : goal.returns-then-self-len
returns-then-self-len g c =
    let old = c.args.self.now in
    let texts = texts_of old.outputs.items in
    let wanted = option_copied c.args.wanted in
    let outputs : c.deref.result.now ≡ old.outputs.items = c.deref.ensures.value in (
      held c.args.line wanted (slice_get texts old.compared),
      rw outputs at c.in_ok-good.ensures,
      λ later. next_held old.expected old.line texts old.compared (record { line = c.args.line; wanted = wanted }) later,
    )

pub returns-else-self-len : goal.returns-else-self-len
returns-else-self-len g c =
    let old = c.args.self.now in
    let texts = texts_of old.outputs.items in
    let wanted = option_copied c.args.wanted in
    let outputs : c.deref.result.now ≡ old.outputs.items = c.deref.ensures.value in
    let many = as_many old.outputs.items in
    let over : length old.outputs.items ≤ old.compared = search rules in
    let past : length texts ≤ old.compared = omega (arith, many, over) in (
      held c.args.line wanted (slice_get texts old.compared),
      rw outputs at c.in_ok-good.ensures,
      λ later.
          next_held old.expected old.line texts old.compared (record { line = c.args.line; wanted = wanted }) later
          ∙ ap (λ o. and_then (held c.args.line wanted (slice_get texts old.compared)) (side_by_side old.line o later)) (past_both texts old.compared past),
    )
