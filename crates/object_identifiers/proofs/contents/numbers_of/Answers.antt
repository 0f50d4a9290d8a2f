use Rattle.std.proofs.Common.{sym, ◌∙◌, arith, ap}
use Rattle.std.specs.Option.{option_map}
use Rattle.object_identifiers.proofs.NumberLemmas.{last_passed, high_passed, octet_refused, octets_ended}
use Rattle.object_identifiers.proofs.contents.numbers_of.Goals as goal
use Rattle.object_identifiers.proofs.contents.numbers_of.Goals.{then-octet-lt128, else-octet-lt128}

pub returns-in_err-number : goal.returns-in_err-number
returns-in_err-number c =
    ap (option_map (λ numbers. numbers.items)) c.from_residual.ensures
    ∙ (sym (octet_refused c.loop-octet.numbers.items c.loop-octet.number _ c.args.octets.now c.loop-octet-test.true (sym c.in_err-number.ensures)) ∙ c.loop-octet.invariant.read)

pub loop-octet-preserved : goal.loop-octet-preserved
loop-octet-preserved c = elim c.if-octet-lt128.branch [
  | then-octet-lt128 w ↦ rw (w.numbers-is, w.number-is) record {
    read = rw w.push.ensures.items (last_passed c.loop-octet.numbers.items c.loop-octet.number c.in_ok-number.number _ c.args.octets.now c.loop-octet-test.true w.if-octet-lt128.true (sym c.in_ok-number.ensures) ∙ c.loop-octet.invariant.read);
    has_room = omega (arith, c.loop-octet.invariant.has_room, w.push.ensures.len);
  }
  | else-octet-lt128 w ↦ rw (w.numbers-is, w.number-is) record {
    read = high_passed c.loop-octet.numbers.items c.loop-octet.number c.in_ok-number.number _ c.args.octets.now c.loop-octet-test.true w.if-octet-lt128.false (sym c.in_ok-number.ensures) ∙ c.loop-octet.invariant.read;
    has_room = omega (arith, c.loop-octet.invariant.has_room);
  }
]

pub returns : goal.returns
returns c = sym (octets_ended c.loop-octet.numbers.items c.loop-octet.number _ c.args.octets.now c.loop-octet-test.false) ∙ c.loop-octet.invariant.read
