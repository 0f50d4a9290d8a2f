use Rattle.std.proofs.Common.{◌≡◌, ◌+◌, ◌++◌, ◌∷◌, [], take, List, subst, sym}
use Rattle.tcap_model.specs.Words.Output.{Output}
use Rattle.tcap_primitives.specs.OutputViews.{all_shown, shown}
use Rattle.tcap_register.specs.Serving.{ServesAll}
use Rattle.tcap_register.proofs.ServingLemmas.{one-more, serves-more}
use Rattle.tcap_register.proofs.register.serve_all.Goals as goal

pub loop-output-preserved : goal.loop-output-preserved
loop-output-preserved g c =
    let loop = c.loop-output in
    let o = g.O.Operations in
    let more : take (loop.output-index + 1) (all_shown c.args.heard.now)
    ≡ take loop.output-index (all_shown c.args.heard.now) ++ shown c.output-item.result ∷ [] =
    one-more shown c.args.heard.now loop.output-index c.output-item.result c.loop-output-test.true c.output-item.is in
    subst (λ (os : List Output). ServesAll o.class_of_gives o.answer_gives o.refused_gives os c.args.engine.now
    c.args.operations.now c.serve_output.new.engine c.serve_output.new.operations) (sym more)
    (serves-more o.class_of_gives o.answer_gives o.refused_gives (take loop.output-index (all_shown c.args.heard.now))
    (shown c.output-item.result) c.args.engine.now c.args.operations.now loop.engine loop.operations
    c.serve_output.new.engine c.serve_output.new.operations loop.invariant c.serve_output.ensures)
