use Rattle.std.proofs.Common.{rules, ◌≡◌, ◌<◌, ◌+◌, ◌∙◌, ap, arith, true, false, length, take, subst, sym, Err}
use Rattle.std.proofs.Math.Seq.{take-length}
use Rattle.ber_core.specs.ElementReading.{element_at}
use Rattle.ber_core.specs.Stream.{is_short}
use Rattle.tcap_explain.specs.EncodingPlace.{is_open}
use Rattle.tcap_explain.proofs.EncodingLemmas.{fault-closed, front-fault, told-end, told-there}
use Rattle.tcap_explain.proofs.encoding.likely_fault.Goals as goal

pub returns-then-place-bytes-clause-place : goal.returns-then-place-bytes-clause-place
returns-then-place-bytes-clause-place c =
    let bytes = c.args.bytes.now in
    let n = c.likely_place-place.result in
    let all : n ≡ length bytes = search rules in
    let opened : is_open (take n bytes) ≡ true = search rules in
    all ∙ told-end bytes (ap is_open (sym (take-length bytes)) ∙ subst (λ m. is_open (take m bytes) ≡ true) all opened)

pub returns : goal.returns
returns c =
    let bytes = c.args.bytes.now in
    let n = c.likely_place-place.result in
    let low : n < length bytes = grind (arith, c.if-place-bytes.false, c.likely_place-place.ensures) in
    let opened : is_open (take n bytes) ≡ true = search rules in
    let fault : element_at 32 (take (n + 1) bytes) ≡ Err c.in-Err.fault = c.in-Err.ensures.exact in
    let long : is_short c.in-Err.fault ≡ false = search rules in
    record {
      filled = omega (arith, low);
      within = omega (arith, low);
      place = told-there bytes n low opened (fault-closed (take (n + 1) bytes) c.in-Err.fault long fault);
      fault = front-fault bytes (n + 1) c.in-Err.fault long fault;
    }
