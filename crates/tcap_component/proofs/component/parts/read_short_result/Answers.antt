use Rattle.std.proofs.Common.{rules, [], ◌∷◌, Ok, refl, sym, subst, w8}
use Rattle.std.proofs.lemmas.Int.{to_z-of_z}
use Rattle.std.specs.Prelude.{IsOk}
use Rattle.tcap_component.specs.declared.component.Form.TheVariants as form
use Rattle.tcap_component.specs.ComponentReading.{form_at, result_last_at}
use Rattle.tcap_component.proofs.ComponentGrammar.{component_here, none_here}
use Rattle.tcap_component.proofs.PlaceSteps.{body-in}
use Rattle.tcap_component.proofs.SpelledWritable.{writable}
use Rattle.tcap_component.proofs.component.parts.read_short_result.Goals as goal

pub returns-clause-exact : goal.returns-clause-exact
unfolding form_at result_last_at
returns-clause-exact c =
    rw (to_z-of_z w8 c.in_ok-id.id (search rules))
    (component_here 0xa2 form.ResultLast c.args.bytes.now (c.in_ok-content.content.now, c.in_ok-content.rest.now) _ refl c.in_ok-content.ensures.value (rw (sym c.in_ok-id.ensures.value) refl))

pub returns-clause-writable : goal.returns-clause-writable
returns-clause-writable c = writable (λ r. r) c.args.bytes.now (Ok _) (returns-clause-exact c)

pub returns-clause-place : goal.returns-clause-place
returns-clause-place c =
    (body-in 0xa2 (0x30 ∷ []) c.in_ok-id.body c.in_ok-content.content c.args.bytes c.in_ok-content.ensures.inside c.in_ok-id.ensures.place, (c.in_ok-content.ensures.goes_on 0 refl).0)

pub returns-clause-found : goal.returns-clause-found
returns-clause-found c =
    let short = c.in_ok-content.ensures.found.0 refl in
    (λ t. (short.0, short.1, short.2, subst IsOk (sym (returns-clause-exact c)) refl), λ t. refl)

pub returns-in_err-id-clause-found : goal.returns-in_err-id-clause-found
unfolding form_at result_last_at
returns-in_err-id-clause-found c =
    (λ t. (let no = rw c.from_residual-in_err-id.ensures at t in absurd cc), λ t. absurd (none_here 0xa2 form.ResultLast c.args.bytes.now (c.in_ok-content.content.now, c.in_ok-content.rest.now) refl c.in_ok-content.ensures.value (rw (sym c.in_err-id.ensures.value) refl) t.3))
