use Rattle.std.proofs.Common.{rules, ◌<◌, length, sym}
use Rattle.std.proofs.lemmas.Result.{err_from_is_err_and}
use Rattle.tcap_text.proofs.StreamLines.{from-here, one-more, one-untold}
use Rattle.tcap_text.proofs.stream.write_verdicts.Goals as goal

pub loop-message-preserved : goal.loop-message-preserved
loop-message-preserved g c =
    let items = c.args.messages.now in
    let i = c.loop-message.message-index in
    let within : i < length items = search rules in
    let here = from-here (λ m. m.items) items i c.message-item.result within c.message-item.is in
    one-more _ _ _ c.message-item.result.items _ _ _ _ _ here c.loop-message.invariant (rw (sym c.as_slice.ensures.value) c.in_ok-good.ensures.0) (rw (sym c.as_slice.ensures.value) c.in_ok-good.ensures.1)

pub returns-in_err-good : goal.returns-in_err-good
returns-in_err-good g c =
    let items = c.args.messages.now in
    let i = c.loop-message.message-index in
    let within : i < length items = search rules in
    let here = from-here (λ m. m.items) items i c.message-item.result within c.message-item.is in
    let p = err_from_is_err_and c.from_residual.result c.from_residual.ensures.1 in
    rw (p.1, p.2) (one-untold _ _ _ c.message-item.result.items _ _ _ _ _ here c.loop-message.invariant (rw (sym c.as_slice.ensures.value) c.in_err-good.ensures))
