use Rattle.std.proofs.Common.{◌+◌, get_or, Some, refl, sym, arith}
use Rattle.ber_core.proofs.ShortElement.{IsShort, short_content, short_rest, short_reads, rest_ends}
use Rattle.ber_core.proofs.WaySteps.{tagged-inside, tagged-goes}
use Rattle.ber_core.proofs.sequence.take_short.Goals as goal

pub returns-in-len2-up-clause-value : goal.returns-in-len2-up-clause-value
returns-in-len2-up-clause-value c =
    let plain = c.is_plain.ensures.0 c.if-is_plain.true in
    let short : IsShort c.args.tag c.args.bytes.now = record { two = c.in-len2-up.len_at_least; first = c.if-first-tag.true; plain = plain; within = c.if-length-body.true } in
    rw (sym (short_reads c.args.tag c.args.bytes.now short).0) refl

pub returns-in-len2-up-clause-inside : goal.returns-in-len2-up-clause-inside
returns-in-len2-up-clause-inside c =
    let plain = c.is_plain.ensures.0 c.if-is_plain.true in
    let short : IsShort c.args.tag c.args.bytes.now = record { two = c.in-len2-up.len_at_least; first = c.if-first-tag.true; plain = plain; within = c.if-length-body.true } in
    let reads = short_reads c.args.tag c.args.bytes.now short in
    tagged-inside c.args.tag c.args.bytes (Some _) _ reads.0 (refl, omega (arith, reads.1))

pub returns-in-len2-up-clause-goes_on : goal.returns-in-len2-up-clause-goes_on
returns-in-len2-up-clause-goes_on c other ne =
    let plain = c.is_plain.ensures.0 c.if-is_plain.true in
    let short : IsShort c.args.tag c.args.bytes.now = record { two = c.in-len2-up.len_at_least; first = c.if-first-tag.true; plain = plain; within = c.if-length-body.true } in
    let reads = short_reads c.args.tag c.args.bytes.now short in
    let ends = rest_ends c.args.tag c.args.bytes.now short in
    let n = get_or c.args.bytes.now 1 0 in
    let ptr = c.args.bytes.ref_ptr in
    tagged-goes c.args.tag other c.args.bytes (record { ref_ptr = (ptr.0, n + (2 + ptr.1)); now = short_rest c.args.bytes.now }) (Some (record { ref_ptr = ptr; now = short_content c.args.bytes.now })) reads.0 (refl, omega (arith, ends)) ne
