use Rattle.std.proofs.Common.{refl}
use Rattle.ber_core.proofs.PlainElement.{body_is, plain_in}
use Rattle.ber_core.proofs.elements.skip_first.Goals as goal

pub returns-in-len2-up-clause-ok : goal.returns-in-len2-up-clause-ok
returns-in-len2-up-clause-ok c =
    let plain = c.is_plain.ensures.0 c.if-is_plain.true in
    (_, plain_in c.args.bytes.now _ _ _ _ _ (body_is c.args.bytes.now) c.in-len2-up.len_at_least plain.0 plain.1 plain.2 c.if-length-body.true refl refl c.split_at.ensures.back refl)
