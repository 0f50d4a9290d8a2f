use Rattle.std.proofs.Common.{[], Option, Some, subst}
use Rattle.std.specs.Prelude.{IfSome}
use Rattle.ber_core.specs.Place.{Slice}
use Rattle.ber_core.specs.Way.{IsInside}
use Rattle.ber_core.proofs.CallerLemmas.{inside-goes}
use Rattle.tcap_component.proofs.PlaceSteps.{body-in}
use Rattle.tcap_component.proofs.component.parts.read_any_result.Goals.{in-Some+in_ok-read_body-in-Some, in-None}
use Rattle.tcap_component.proofs.component.parts.read_any_result.Goals as goal

pub returns-clause-place : goal.returns-clause-place
returns-clause-place c = elim c.match-inner.branch [
  | in-Some+in_ok-read_body-in-Some w ↦
      let held = subst (λ (o : Option Slice). IfSome o (λ s. IsInside 0x30 s c.in_ok-id.rest)) w.in-Some.is c.take_tagged.ensures.inside in
      let inside = inside-goes 0x30 w.in-Some.inner c.in_ok-id.rest c.args.bytes c.in_ok-id.ensures.body held in
      rw w.body-is (body-in 0x30 [] (Some w.in_ok-read_body-in-Some.field-0) w.in-Some.inner c.args.bytes inside w.in_ok-read_body-in-Some.ensures.place)
  | in-None w ↦ rw w.body-is tt
]
