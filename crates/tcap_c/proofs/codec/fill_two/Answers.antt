use Rattle.std.proofs.Common.{inl, refl, arith, length-append}
use Rattle.tcap_c.proofs.CopyLemmas.{copied_two}
use Rattle.tcap_c.proofs.codec.fill_two.Goals as goal

pub returns : goal.returns
returns c = inl (
  refl,
  omega (arith, c.if-first-room.false, c.if-second-room.false, length-append c.args.first.now c.args.second.now),
  copied_two c.args.first.now c.args.second.now _ _ _ _ _ c.copy_part-end.ensures c.copy_part.ensures,
)
