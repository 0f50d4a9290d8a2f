use Rattle.std.proofs.Common.{arith, rules, ◌≡◌, ◌≤◌, ◌<◌, ◌-◌, ◌∙◌, ap, drop, false, length, min, sym, take, true}
use Rattle.tcap_judging.proofs.ResyncCuts.{rest-from}
use Rattle.tcap_judging.proofs.ResyncWithin.{within-finds, within-none, within-waits-at}
use Rattle.tcap_judging.specs.Resync.{is_found, passed_in}
use Rattle.tcap_judging.proofs.resync.search_within.Goals as goal

pub returns-then-passed-left-clause-adds : goal.returns-then-passed-left-clause-adds
returns-then-passed-left-clause-adds g c =
    let n = c.pass_over-passed.result.count in
    let octets = c.args.octets.now in
    let is : n ≡ min c.args.left (passed_in c.args.ends octets) = c.pass_over-passed.ensures.count in
    let all : n ≡ c.args.left = search rules in
    let many : c.args.left ≤ passed_in c.args.ends octets = omega (arith, is, all) in
    within-none _ _ c.args.left _ c.args.ends octets n _ (rest-from octets n) _ all many

pub returns-then-not-passed-clause-adds : goal.returns-then-not-passed-clause-adds
returns-then-not-passed-clause-adds g c =
    let passed = c.pass_over-passed.result in
    let n = passed.count in
    let octets = c.args.octets.now in
    let is : n ≡ min c.args.left (passed_in c.args.ends octets) = c.pass_over-passed.ensures.count in
    let few : n < c.args.left = search (rules, is, arith) in
    let all : n ≡ passed_in c.args.ends octets = omega (arith, is, few) in
    let flag : passed.is_found ≡ false = search rules in
    let none : is_found c.args.ends (take (length octets - n) (drop n octets)) ≡ false = ap (is_found c.args.ends) (rest-from octets n) ∙ sym (c.pass_over-passed.ensures.found few) ∙ flag in
    within-waits-at _ _ c.args.left _ c.args.ends octets n _ (rest-from octets n) _ all few none

pub returns-clause-adds : goal.returns-clause-adds
returns-clause-adds g c =
    let passed = c.pass_over-passed.result in
    let n = passed.count in
    let octets = c.args.octets.now in
    let is : n ≡ min c.args.left (passed_in c.args.ends octets) = c.pass_over-passed.ensures.count in
    let few : n < c.args.left = search (rules, is, arith) in
    let all : n ≡ passed_in c.args.ends octets = omega (arith, is, few) in
    let flag : passed.is_found ≡ true = search rules in
    let over : is_found c.args.ends (take (length octets - n) (drop n octets)) ≡ true = ap (is_found c.args.ends) (rest-from octets n) ∙ sym (c.pass_over-passed.ensures.found few) ∙ flag in
    within-finds _ _ c.args.left _ c.args.ends octets n _ (rest-from octets n) _ _ all few over c.in_ok-add_passed.ensures
