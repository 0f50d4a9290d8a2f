use Rattle.std.proofs.Common.{refl, arith}
use Rattle.tcap_c.proofs.CopyLemmas.{copied_two}
use Rattle.tcap_c.proofs.laying.lay.Goals as goal

pub returns : goal.returns
returns c = (
  refl,
  omega (arith, c.if-first-room.false, c.if-second-room.false),
  copied_two c.args.first.now c.args.second.now _ _ _ _ _ c.copy_part-end.ensures c.copy_part.ensures,
)
