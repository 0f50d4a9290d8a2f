use Rattle.std.proofs.Common.{refl, arith, length, ◌≤◌, ◌-◌}
use Rattle.std.proofs.lemmas.Result.{err_from_is_err_and}
use Rattle.ber_core.specs.Views.{head_fields}
use Rattle.ber_core.proofs.PlaceSteps.{behind_head, ends}
use Rattle.ber_core.proofs.ElementGrammar.{element_at-head_failed, element_at-body_failed, element_at-read}
use Rattle.ber_core.proofs.element.read.split_parts.Goals as goal

pub returns-in_err-head-clause-value : goal.returns-in_err-head-clause-value
returns-in_err-head-clause-value c =
    let p = err_from_is_err_and c.from_residual.result c.from_residual.ensures.1 in
    rw (p.1, p.2) (element_at-head_failed 32 c.args.bytes.now c.in_err-head.field-0.0 c.in_err-head.ensures.exact)

pub returns-in_err-content-clause-value : goal.returns-in_err-content-clause-value
returns-in_err-content-clause-value c =
    let p = err_from_is_err_and c.from_residual-in_err-content.result c.from_residual-in_err-content.ensures.1 in
    rw (p.1, p.2) (element_at-body_failed 32 c.args.bytes.now _ c.in_err-content.field-0.0 c.in_ok-head.ensures.exact c.in_err-content.ensures.value)

pub returns-clause-value : goal.returns-clause-value
returns-clause-value c = element_at-read 32 c.args.bytes.now (head_fields c.in_ok-head.head) c.in_ok-content.rest.now c.in_ok-content.content.now _ _ c.in_ok-head.ensures.exact c.in_ok-content.ensures.value c.in_ok-content.ensures.content refl refl

pub returns-clause-place : goal.returns-clause-place
returns-clause-place c =
    let h = c.in_ok-head.head in
    let within : length c.in_ok-content.rest.now ≤ length c.args.bytes.now = omega (arith, c.in_ok-content.ensures.shorter, c.in_ok-head.ensures.shorter) in
    let end = ends (length c.args.bytes.now - length c.in_ok-content.rest.now) c.args.bytes.now (omega (arith, within)) in (
      record {
        tag = c.in_ok-head.ensures.place.0;
        content = behind_head c.in_ok-content.content h.rest c.args.bytes (head_fields h) c.in_ok-head.ensures.exact refl c.in_ok-head.ensures.shorter c.in_ok-head.ensures.place.1 c.in_ok-content.ensures.place;
        whole = refl;
      },
      (refl, omega (arith, end)),
    )
