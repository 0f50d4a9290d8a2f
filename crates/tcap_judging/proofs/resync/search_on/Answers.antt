use Rattle.std.proofs.Common.{arith, rules, ◌≡◌, ◌<◌, ◌+◌, ◌-◌, ◌∙◌, ap, drop, false, length, sym, take, true}
use Rattle.tcap_judging.proofs.ResyncCuts.{place-within, rest-from}
use Rattle.tcap_judging.proofs.ResyncSteps.{finds-left, waits-at}
use Rattle.tcap_judging.specs.Resync.{is_found, may_begin, passed_in}
use Rattle.tcap_judging.proofs.resync.search_on.Goals as goal

pub returns-then-not-passed-clause-adds : goal.returns-then-not-passed-clause-adds
returns-then-not-passed-clause-adds g c =
    let passed = c.pass_over-passed.result in
    let n = passed.count in
    let octets = c.args.octets.now in
    let is : n ≡ passed_in c.args.ends octets = omega (arith, c.pass_over-passed.ensures.count, place-within (may_begin c.args.ends) octets) in
    let few : n < length octets + 1 = omega (arith, c.pass_over-passed.ensures.within) in
    let flag : passed.is_found ≡ false = search rules in
    let none : is_found c.args.ends (take (length octets - n) (drop n octets)) ≡ false = ap (is_found c.args.ends) (rest-from octets n) ∙ sym (c.pass_over-passed.ensures.found few) ∙ flag in
    waits-at _ _ _ _ octets _ n _ is (rest-from octets n) none

pub returns-clause-adds : goal.returns-clause-adds
returns-clause-adds g c =
    let passed = c.pass_over-passed.result in
    let n = passed.count in
    let octets = c.args.octets.now in
    let is : n ≡ passed_in c.args.ends octets = omega (arith, c.pass_over-passed.ensures.count, place-within (may_begin c.args.ends) octets) in
    let few : n < length octets + 1 = omega (arith, c.pass_over-passed.ensures.within) in
    let flag : passed.is_found ≡ true = search rules in
    let over : is_found c.args.ends (take (length octets - n) (drop n octets)) ≡ true = ap (is_found c.args.ends) (rest-from octets n) ∙ sym (c.pass_over-passed.ensures.found few) ∙ flag in
    finds-left _ _ _ _ octets _ _ n _ is (rest-from octets n) over c.in_ok-add_passed.ensures
