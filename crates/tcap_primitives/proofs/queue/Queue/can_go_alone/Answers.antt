use Rattle.std.proofs.Common.{rules, ◌<◌, ◌∙◌, length}
use Rattle.tcap_primitives.proofs.CutLemmas.{alone-filled}
use Rattle.tcap_primitives.proofs.queue.Queue.can_go_alone.Goals as goal

pub returns-then-not-is_empty : goal.returns-then-not-is_empty
returns-then-not-is_empty g c =
    let s = c.args.self.now in
    let filled : 0 < length s.parts.items = search (rules, c.is_empty.ensures, c.if-not-is_empty) in
    c.all_go_alone.ensures ∙ (rw (c.deref.ensures.value) (alone-filled s.parts.items s.octets.items filled))
