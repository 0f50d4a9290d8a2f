use Rattle.std.proofs.Common.{◌≡◌, ◌+◌, ◌-◌, ◌<◌, ℕ, length, option_map, sym, ap, ◌∙◌, arith, rules}
use Rattle.ber_core.specs.Views.{parts}
use Rattle.tcap_explain.specs.declared.table.Inside.{Inside}
use Rattle.tcap_explain.specs.Walk.{further, inside_by, ended, behind, walk}
use Rattle.tcap_explain.proofs.WalkLemmas.{some, content_within, further-further, walk-empty, walk-next}
use Rattle.tcap_explain.proofs.walk.+walk.Goals as goal

pub inside_fault-returns-in-Octets-clause-value : goal.inside_fault-returns-in-Octets-clause-value
inside_fault-returns-in-Octets-clause-value t c =
    c.octets_fault.ensures.value walk ∙ ap (λ (i : Inside). inside_by walk c.args.head i c.args.element.now.content.now) (sym c.in-Octets.is)

pub take_step-inside_fault-requires : goal.take_step-inside_fault-requires
take_step-inside_fault-requires t c =
    let w = content_within c.args.bytes.now c.in-Ok.read.1.now (parts c.in-Ok.read.0) c.in-Ok.ensures.exact in
    let small : length c.args.bytes.now < 18446744073709551616 = search rules in
    (omega (arith, w.1), (omega (arith, w.0, small, c.head_len.ensures.value), c.in-Ok.ensures.found.0))

pub take_step-returns-in-Some-inside_fault-clause-within : goal.take_step-returns-in-Some-inside_fault-clause-within
take_step-returns-in-Some-inside_fault-clause-within t c =
    let w = content_within c.args.bytes.now c.in-Ok.read.1.now (parts c.in-Ok.read.0) c.in-Ok.ensures.exact in
    let f = c.in-Some-inside_fault.ensures.within in
    (omega (arith, w.0, c.head_len.ensures.value, f.0), omega (arith, w.0, c.head_len.ensures.value, f.1))

pub take_step-returns-in-None-clause-shorter : goal.take_step-returns-in-None-clause-shorter
take_step-returns-in-None-clause-shorter t c =
    (content_within c.args.bytes.now c.in-Ok.read.1.now (parts c.in-Ok.read.0) c.in-Ok.ensures.exact).2

pub walk-returns-in-Err-clause-value : goal.walk-returns-in-Err-clause-value
walk-returns-in-Err-clause-value t c =
    let rest = c.loop-rest.rest.now in
    let skipped = length c.args.bytes.now - length rest in
    let filled : 0 < length rest = search rules in
    let here : walk c.loop-rest.line rest ≡ some c.in-Err.found = walk-next c.loop-rest.line rest filled ∙ ap (behind walk (length rest)) c.in-Err.ensures.value in
    ap some c.further_on.ensures ∙ (ap (option_map (further skipped)) (sym here) ∙ c.loop-rest.invariant.1)

pub walk-loop-rest-preserved : goal.walk-loop-rest-preserved
walk-loop-rest-preserved t c =
    let rest = c.loop-rest.rest.now in
    let after = c.in-Ok.after.now in
    let skipped = length c.args.bytes.now - length rest in
    let passed = length rest - length after in
    let filled : 0 < length rest = search rules in
    let on = walk c.in-Ok.then after in
    let here : walk c.loop-rest.line rest ≡ option_map (further passed) on = walk-next c.loop-rest.line rest filled ∙ ap (behind walk (length rest)) c.in-Ok.ensures.value in
    let lt = c.in-Ok.ensures.shorter in
    let sum : length c.args.bytes.now - length after ≡ skipped + passed = omega (arith, lt, c.loop-rest.invariant.0) in (
      omega (arith, lt, c.loop-rest.invariant.0),
      ap (λ (n : ℕ). option_map (further n) on) sum
          ∙ (sym (further-further skipped passed on) ∙ (ap (option_map (further skipped)) (sym here) ∙ c.loop-rest.invariant.1)),
    )

pub walk-returns-clause-value : goal.walk-returns-clause-value
walk-returns-clause-value t c =
    let rest = c.loop-rest.rest.now in
    let skipped = length c.args.bytes.now - length rest in
    let empty : length rest ≡ 0 = search rules in
    let all : length c.args.bytes.now ≡ skipped = omega (arith, empty) in
    c.end_fault.ensures.value
    ∙ (ap (λ (n : ℕ). option_map (further n) (ended c.loop-rest.line)) all
    ∙ (ap (option_map (further skipped)) (sym (walk-empty c.loop-rest.line rest empty)) ∙ c.loop-rest.invariant.1))
