use Rattle.std.proofs.Common.{rules, ◌≡◌, ◌∙◌, ◌<◌, length, slice_get}
use Rattle.tcap_stories.specs.Views.{texts_of}
use Rattle.tcap_stories.proofs.ComparingLemmas.{one_more, some_text, texts_at}
use Rattle.tcap_stories.proofs.comparing.hold_rest.Goals as goal

pub loop-place-preserved : goal.loop-place-preserved
loop-place-preserved g c =
    let outputs = c.args.outputs.now in
    let place = c.loop-place.place in
    let low : place < length outputs = search rules in
    let at = texts_at outputs place c.index-outputs-place.result low in
    let is : slice_get (texts_of outputs) place ≡ some_text c.deref.result.now = search (rules, at) in
    c.loop-place.invariant ∙ one_more c.loop-place.text.items c.hold_left.new.text.items c.loop-place.good c.in_ok-good.field-0 c.args.expected c.args.line (texts_of outputs) place c.deref.result.now is c.in_ok-good.ensures
