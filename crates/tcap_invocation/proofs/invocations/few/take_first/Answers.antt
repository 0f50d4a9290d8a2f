use Rattle.std.proofs.Common.{◌≡◌, ◌∙◌, ◌+◌, refl, ap, sym, rules, arith, length, slice_get, Some, to_z, of_z}
use Rattle.std.proofs.lemmas.Grind.{elements}
use Rattle.std.proofs.lemmas.Int.{to_z-of_z}
use Rattle.std.proofs.lemmas.Option.{slice_get_read}
use Rattle.std.specs.Int.{w8}
use Rattle.std.specs.Option.{option_map}
use Rattle.tcap_invocation.specs.declared.invocations.lapse.Lapse.{Lapse}
use Rattle.tcap_invocation.specs.Invocations.{Row, without}
use Rattle.tcap_invocation.specs.Order.{first_of}
use Rattle.tcap_invocation.specs.TimerList.{lapse_at_time, timers_at}
use Rattle.tcap_invocation.proofs.FirstTimerLemmas.{at-lapse, first-some, lapse-same, remove-at, remove-last, some-same}
use Rattle.tcap_invocation.proofs.invocations.few.take_first.Goals as goal

pub returns-then-first-len-clause-rows : goal.returns-then-first-len-clause-rows
returns-then-first-len-clause-rows g c =
    let rows = c.args.rows.now.items in
    let r : Row = c.index.result.now in
    let some = first-some rows c.args.first (first_of (timers_at rows)) c.requires.first in
    let gone = remove-at rows c.args.first.place some.2.row c.requires.sorted.distinct some.2.at in
    let read : slice_get rows c.args.first.place ≡ Some r = slice_get_read rows (length rows) c.args.first.place r refl gone.0 c.index.ensures in
    let same : r ≡ some.2.row = some-same r some.2.row (sym read ∙ some.2.at) in
    let id : to_z w8 (of_z w8 r.0) ≡ r.0 = to_z-of_z w8 r.0 (search rules) in
    let last : c.args.first.place + 1 ≡ length rows = search (rules, arith) in
    c.truncate.ensures.items ∙ remove-last c.args.first.place rows last ∙ gone.1 ∙ ap (without rows) (sym (id ∙ ap (λ (y : Row). y.0) same))

pub returns-else-first-len-clause-lapse : goal.returns-else-first-len-clause-lapse
returns-else-first-len-clause-lapse g c =
    let rows = c.args.rows.now.items in
    let r : Row = c.index.result.now in
    let some = first-some rows c.args.first (first_of (timers_at rows)) c.requires.first in
    let gone = remove-at rows c.args.first.place some.2.row c.requires.sorted.distinct some.2.at in
    let read : slice_get rows c.args.first.place ≡ Some r = slice_get_read rows (length rows) c.args.first.place r refl gone.0 c.index.ensures in
    let same : r ≡ some.2.row = some-same r some.2.row (sym read ∙ some.2.at) in
    let id : to_z w8 (of_z w8 r.0) ≡ r.0 = to_z-of_z w8 r.0 (search rules) in
    let parts = at-lapse rows c.args.first some.0 some.2 in
    let told : Lapse = record { deadline = c.args.first.time; number = r.1.number; id = to_z w8 (of_z w8 r.0) } in
    let all : option_map lapse_at_time (first_of (timers_at rows)) ≡ Some (lapse_at_time some.0) = ap (option_map lapse_at_time) some.1 in
    let is : told ≡ lapse_at_time some.0 = lapse-same told (lapse_at_time some.0) some.2.time (ap (λ (y : Row). y.1.number) same ∙ sym parts.0) (id ∙ ap (λ (y : Row). y.0) same ∙ sym parts.1) in
    ap Some is ∙ sym all

pub returns-else-first-len-clause-rows : goal.returns-else-first-len-clause-rows
returns-else-first-len-clause-rows g c =
    let rows = c.args.rows.now.items in
    let r : Row = c.index.result.now in
    let some = first-some rows c.args.first (first_of (timers_at rows)) c.requires.first in
    let gone = remove-at rows c.args.first.place some.2.row c.requires.sorted.distinct some.2.at in
    let read : slice_get rows c.args.first.place ≡ Some r = slice_get_read rows (length rows) c.args.first.place r refl gone.0 c.index.ensures in
    let same : r ≡ some.2.row = some-same r some.2.row (sym read ∙ some.2.at) in
    let id : to_z w8 (of_z w8 r.0) ≡ r.0 = to_z-of_z w8 r.0 (search rules) in
    c.remove.ensures.items ∙ gone.1 ∙ ap (without rows) (sym (id ∙ ap (λ (y : Row). y.0) same))

pub index-requires : goal.index-requires
index-requires g c = grind (arith, elements)

pub overflow_add-first : goal.overflow_add-first
overflow_add-first g c = grind (arith, elements)

pub remove-requires : goal.remove-requires
remove-requires g c = grind (arith, elements)

pub returns-then-first-len-clause-lapse : goal.returns-then-first-len-clause-lapse
returns-then-first-len-clause-lapse g c = grind (arith, elements)
