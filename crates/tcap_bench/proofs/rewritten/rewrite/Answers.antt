use Rattle.tcap_bench.proofs.rewritten.rewrite.Goals as goal

pub rewrite_frame-requires : goal.rewrite_frame-requires
rewrite_frame-requires c = c.in-Ok.ensures.found.is_frame.has_cause
