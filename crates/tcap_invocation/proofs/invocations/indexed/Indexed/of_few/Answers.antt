use Rattle.std.proofs.Common.{◌≡◌, ◌∙◌, ◌<◌, ap, sym, rules, tests, arith, pos, length, get_or, take, List, ◌++◌, ◌∷◌, []}
use Rattle.std.proofs.lemmas.Grind.{common_steps}
use Rattle.std.proofs.lemmas.List.{take_more}
use Rattle.tcap_invocation.specs.declared.class.Class.TheVariants.{One}
use Rattle.tcap_invocation.specs.declared.stage.Stage.TheVariants.{Queued}
use Rattle.tcap_invocation.specs.Invocations.{Row}
use Rattle.tcap_invocation.specs.TimerList.{timer_of, timers_at, put_timer}
use Rattle.tcap_invocation.proofs.IndexingLemmas.{absent-at, timers-at, room-at}
use Rattle.tcap_invocation.proofs.invocations.indexed.Indexed.of_few.Goals as goal

-- what a place beyond the end reads as
abbrev no_row : Row
no_row = (pos 0, record { number = 0; class = One; stage = Queued 0 })

pub take_in-requires : goal.take_in-requires
take_in-requires g c =
    let rows : List Row = c.args.rows.now in
    let i = c.loop-id.id-index in
    let within : i < length rows = search (rules, tests) in
    let few = room-at rows i no_row within c.requires in
    let timers = ap length (c.loop-id.invariant.timers ∙ ap timers_at c.loop-id.invariant.taken) in
    let room = c.loop-id.invariant.room in
    record {
      free = rw c.loop-id.invariant.taken (absent-at rows i no_row within c.requires);
      room = omega (arith, few, timers, room);
    }

pub loop-id-preserved : goal.loop-id-preserved
loop-id-preserved g c =
    let rows : List Row = c.args.rows.now in
    let i = c.loop-id.id-index in
    let r : Row = get_or rows i no_row in
    let within : i < length rows = search (rules, tests) in
    let new : c.take_in.new.entries.entries ≡ c.loop-id.entries.entries ++ r ∷ [] = search rules in
    let before : c.loop-id.entries.entries ++ r ∷ [] ≡ take i rows ++ r ∷ [] = ap (λ (l : List Row). l ++ r ∷ []) c.loop-id.invariant.taken in
    let room = c.loop-id.invariant.room in
    let more = c.take_in.ensures.room in
    record {
      taken = new ∙ before ∙ sym (take_more rows i no_row within);
      timers = c.take_in.ensures.timers ∙ ap (put_timer (timer_of r)) (c.loop-id.invariant.timers ∙ ap timers_at c.loop-id.invariant.taken)
          ∙ sym (timers-at rows i no_row within c.requires) ∙ ap timers_at (sym (new ∙ before));
      room = omega (arith, room, more);
    }

pub invariant_of-result : goal.invariant_of-result
invariant_of-result g c = grind (arith, common_steps)

pub returns : goal.returns
returns g c = grind (arith, common_steps)
