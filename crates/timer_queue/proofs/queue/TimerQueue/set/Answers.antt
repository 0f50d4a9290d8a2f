use Rattle.std.proofs.Common.{◌≡◌, ◌∙◌, sym, ap, set, get_or}
use Rattle.std.proofs.lemmas.List.{set-get_or}
use Rattle.timer_queue.proofs.TimerLemmas.{same-timer}
use Rattle.timer_queue.proofs.queue.TimerQueue.set.Goals as goal

pub returns-then-eq : goal.returns-then-eq
returns-then-eq g c =
    let held = c.index.result.now in
    let same : held ≡ c.args.timer = same-timer held c.args.timer (sym c.eq.ensures ∙ c.if-eq.true) in
    let at : get_or c.args.self.now c.args.item held ≡ c.args.timer = ap (λ ts. get_or ts c.args.item held) (sym c.self.view_is) ∙ sym c.index.ensures ∙ same in
    sym (ap (set c.args.self.now c.args.item) (sym at) ∙ set-get_or c.args.self.now c.args.item held)
