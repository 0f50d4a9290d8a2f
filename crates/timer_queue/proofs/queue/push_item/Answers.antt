use Rattle.std.proofs.Common.{◌≡◌, ◌∙◌, length}
use Rattle.timer_queue.proofs.ChangeLemmas.{sound-push}
use Rattle.timer_queue.proofs.queue.push_item.Goals as goal

pub returns-clause-sound : goal.returns-clause-sound
returns-clause-sound g c =
    let item : c.len-item.result ≡ length c.args.timers.now.items = c.len-item.ensures ∙ c.args.timers.now.ok.0 in
    rw (c.push_reserved.ensures.items, c.push_reserved-2.ensures.items, c.push_reserved-3.ensures.items, item) (sound-push _ _ _ c.requires.sound)
