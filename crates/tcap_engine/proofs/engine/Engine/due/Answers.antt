use Rattle.std.proofs.Common.{◌≡◌, [], ap, arith, inl, length, List}
use Rattle.tcap_model.specs.Table.World.{World}
use Rattle.tcap_model.specs.Words.Output.{Output}
use Rattle.tcap_engine.proofs.MomentTellsLemmas.{early-tells-none, late-tells-none, room-is-enough, tells-some, told_at}
use Rattle.tcap_engine.proofs.engine.Engine.due.Goals as goal
use Rattle.tcap_engine.proofs.engine.Engine.due.Goals.{then-now-self-via-then-now-self, then-now-self-via-else-now-self+then-now-gt-MAX_MOMENT}

pub returns-then-now-self-clause-enough : goal.returns-then-now-self-clause-enough
returns-then-now-self-clause-enough g c =
    let world = c.args.self.now in
    let clock = ap (λ (w : World). w.clock) c.self.view_is in
    let none : told_at world c.args.now ≡ [] =
    elim c.then-now-self.branch [
      | then-now-self-via-then-now-self w ↦ let early = w.if-now-self.true in early-tells-none world c.args.now (omega (arith, early, clock))
      | then-now-self-via-else-now-self+then-now-gt-MAX_MOMENT w ↦ let late = w.if-now-gt-MAX_MOMENT.true in late-tells-none world c.args.now (omega (arith, late))
    ] in
    let nothing = ap (λ (os : List Output). length os) none in
    inl (omega (arith, nothing))

pub returns-clause-enough : goal.returns-clause-enough
returns-clause-enough g c =
    let up = c.if-now-self.false in let late = c.if-now-gt-MAX_MOMENT.false in
    rw (← c.self.view_is) (room-is-enough _ c.args.now c.capacity_at.result.told (omega (arith, up)) (omega (arith, late)) c.capacity_at.ensures.enough)

pub returns-clause-some : goal.returns-clause-some
returns-clause-some g c =
    let up = c.if-now-self.false in let late = c.if-now-gt-MAX_MOMENT.false in
    rw (← c.self.view_is) (tells-some _ c.args.now c.capacity_at.result.told (omega (arith, up)) (omega (arith, late)) c.capacity_at.ensures.some)
