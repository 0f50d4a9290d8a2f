use Rattle.std.proofs.Common.{rules, tests, arith, ◌≡◌, ◌∙◌, ◌<◌, remove, length, List, subst, sym, ap}
use Rattle.tcap_invocation.specs.declared.invocations.timers.Timer.{Timer}
use Rattle.tcap_invocation.specs.TimerList.{IsPlace, is_earlier}
use Rattle.std.specs.Prelude.{IsSome}
use Rattle.tcap_invocation.proofs.ListLemmas.{OnSome-of}
use Rattle.tcap_invocation.proofs.SortLemmas.{remove-put}
use Rattle.tcap_invocation.proofs.TimerLemmas.{earlier_never, IsInOrder-remove}
use Rattle.tcap_invocation.proofs.invocations.timers.sorted.take.Goals as goal

pub returns-then-at-len-clause-timers : goal.returns-then-at-len-clause-timers
returns-then-at-len-clause-timers g c = λ left is.
    let place : IsPlace c.args.timer c.args.timers.now.items c.place_of-at.result = search rules in
    let found = remove-put is_earlier c.args.timer left c.place_of-at.result (earlier_never c.args.timer) (subst (λ (ts : List Timer). IsPlace c.args.timer ts c.place_of-at.result) is place) in
    let some : IsSome c.remove.result = search (rules, tests) in
    let removed : c.remove.new.self.items ≡ remove c.args.timers.now.items c.place_of-at.result = OnSome-of c.remove.result _ some c.remove.ensures.items in
    removed ∙ ap (λ (ts : List Timer). remove ts c.place_of-at.result) is ∙ found.1

pub returns-then-at-len-clause-order : goal.returns-then-at-len-clause-order
returns-then-at-len-clause-order g c =
    let some : IsSome c.remove.result = search (rules, tests) in
    let removed : c.remove.new.self.items ≡ remove c.args.timers.now.items c.place_of-at.result = OnSome-of c.remove.result _ some c.remove.ensures.items in
    rw removed (IsInOrder-remove c.args.timers.now.items c.place_of-at.result c.requires.order)

pub returns-else-at-len-clause-timers : goal.returns-else-at-len-clause-timers
returns-else-at-len-clause-timers g c = λ left is.
    let place : IsPlace c.args.timer c.args.timers.now.items c.place_of-at.result = search rules in
    let found = remove-put is_earlier c.args.timer left c.place_of-at.result (earlier_never c.args.timer) (subst (λ (ts : List Timer). IsPlace c.args.timer ts c.place_of-at.result) is place) in
    let within : c.place_of-at.result < length c.args.timers.now.items = subst (λ (ts : List Timer). c.place_of-at.result < length ts) (sym is) found.0 in
    absurd (let past = c.if-at-len.false in let long = c.len.ensures in let all = c.args.timers.now.ok.0 in omega (arith, within, past, long, all))
