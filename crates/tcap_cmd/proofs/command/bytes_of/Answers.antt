use Rattle.std.proofs.Common.{◌∙◌, ap, sym}
use Rattle.std.specs.Option.{is_some}
use Rattle.tcap_words.specs.Spelling.{spelled_by}
use Rattle.tcap_cmd.proofs.Answering.{some_of}
use Rattle.std.proofs.lemmas.Result.{err_from_is_err_and}
use Rattle.tcap_cmd.proofs.command.bytes_of.Goals as goal

pub returns-in_err-decode_hex : goal.returns-in_err-decode_hex
returns-in_err-decode_hex g c =
    let p = err_from_is_err_and c.from_residual.result c.from_residual.ensures.1 in
    rw (p.1, p.2) (some_of (spelled_by c.args.hex.now) (ap (λ o. is_some (spelled_by o)) (sym c.as_bytes.ensures.value) ∙ c.in_err-decode_hex.ensures.err))
