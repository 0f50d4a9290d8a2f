use Rattle.std.proofs.Common.{◌++◌, take}
use Rattle.std.proofs.KnownBytes.{Appends-trans}
use Rattle.tcap_words.proofs.WrittenFronts.{front_grows}
use Rattle.tcap_words.proofs.writing.write_text.Goals as goal

pub loop-preserved : goal.loop-preserved
loop-preserved g c =
    let (front, split, written) = c.loop.invariant in
    let rest = c.loop.rest.now in
    let count = c.in-Some.count in
    (front ++ take count rest, front_grows _ front rest count split, Appends-trans _ _ _ _ _ written c.in-Some.ensures.written)
