use Rattle.std.proofs.Common.{rules, ◌≡◌, ◌<◌, ◌≤◌, ◌+◌, ◌∙◌, ap, arith, drop, false, length, sym}
use Rattle.tcap_judging.proofs.ResyncCuts.{found-end, place-next, rest-from}
use Rattle.tcap_judging.specs.Resync.{may_begin, passed_in}
use Rattle.tcap_judging.proofs.search.pass_over.Goals as goal
use Rattle.tcap_judging.proofs.search.pass_over.Goals.{then-most-octets, else-most-octets}

pub loop-count-preserved : goal.loop-count-preserved
loop-count-preserved c =
    let n = c.loop-count.count in
    let octets = c.args.octets.now in
    let low : n < length octets = search rules in
    let bad : may_begin c.args.ends (drop n octets) ≡ false = ap (may_begin c.args.ends) (sym (rest-from octets n)) ∙ sym (c.what_begins-front.ensures c.args.ends) ∙ sym c.begins.ensures ∙ c.if-begins.false in
    let next : passed_in c.args.ends (drop n octets) ≡ 1 + passed_in c.args.ends (drop (n + 1) octets) = place-next (may_begin c.args.ends) octets n low bad in
    omega (arith, c.loop-count.invariant, next)

pub returns-clause-found : goal.returns-clause-found
returns-clause-found c = λ few.
    let octets = c.args.octets.now in
    let all : length octets ≤ c.if-most-octets.end = elim c.if-most-octets.branch [
      | then-most-octets w ↦ absurd (omega (arith, few, w.end-is))
      | else-most-octets w ↦ omega (arith, w.end-is)
    ] in
    found-end c.args.ends octets c.if-most-octets.end all
