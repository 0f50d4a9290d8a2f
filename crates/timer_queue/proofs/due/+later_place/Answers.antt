use Rattle.std.proofs.Common.{rules, ◌≡◌, ◌∙◌, ◌+◌, ◌%◌, true, false, nat_eq, length, sym}
use Rattle.timer_queue.specs.Due.{is_due_place}
use Rattle.timer_queue.proofs.WalkLemmas.{due-within, later-right, later-above, after-even}
use Rattle.timer_queue.proofs.due.+later_place.Goals as goal
use Rattle.timer_queue.proofs.due.+later_place.Goals.{else-place-eq1-via-then-place-eq1+else-is_due_place, else-place-eq1-via-else-place-eq1}

pub returns-then-is_due_place : goal.returns-then-is_due_place
returns-then-is_due_place t c =
    let h = c.args.heap.now in
    let ts = c.args.timers.now in
    let some : nat_eq c.args.place 0 ≡ false = search rules in
    let odd : nat_eq (c.args.place % 2) 1 ≡ true = search rules in
    let e : is_due_place c.args.moment h ts (c.args.place + 1) ≡ true = search rules in
    later-right (is_due_place c.args.moment h ts) (length h) (due-within c.args.moment h ts) c.args.place some odd e

pub returns-else-place-eq1 : goal.returns-else-place-eq1
returns-else-place-eq1 t c =
    let h = c.args.heap.now in
    let ts = c.args.timers.now in
    let some : nat_eq c.args.place 0 ≡ false = search rules in
    elim c.else-place-eq1.branch [
      | else-place-eq1-via-then-place-eq1+else-is_due_place w ↦
          let odd : nat_eq (c.args.place % 2) 1 ≡ true = search (w, rules) in
          let e : is_due_place c.args.moment h ts (c.args.place + 1) ≡ false = search (w, rules) in
          c.later_place.ensures ∙ later-above (is_due_place c.args.moment h ts) (length h) (due-within c.args.moment h ts) c.args.place some odd e
      | else-place-eq1-via-else-place-eq1 w ↦
          let even : nat_eq (c.args.place % 2) 1 ≡ false = search (w, rules) in
          c.later_place.ensures ∙ sym (after-even (is_due_place c.args.moment h ts) (length h) (due-within c.args.moment h ts) c.args.place some even)
    ]
