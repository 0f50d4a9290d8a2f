use Rattle.std.proofs.Common.{rules}
use Rattle.std.proofs.lemmas.Result.{err_from_is_err_and}
use Rattle.tcap_pdu.specs.FrameViews.{message}
use Rattle.tcap_words.proofs.CallerLemmas.{components_fault}
use Rattle.tcap_text.proofs.canon.rewrite_frame.Goals as goal

pub returns-in_err-components-clause-err : goal.returns-in_err-components-clause-err
returns-in_err-components-clause-err g c =
    let p = err_from_is_err_and c.from_residual-in_err-components.result c.from_residual-in_err-components.ensures.1 in
    rw (p.1, p.2) (components_fault (message c.args.frame) c.components.result.now c.in_err-components.field-0.0 c.components.ensures.exact c.in_err-components.ensures.err)

pub returns-clause-ok : goal.returns-clause-ok
returns-clause-ok g c = search rules

pub returns-clause-short : goal.returns-clause-short
returns-clause-short g c = search rules

pub returns-clause-err : goal.returns-clause-err
returns-clause-err g c = search rules
