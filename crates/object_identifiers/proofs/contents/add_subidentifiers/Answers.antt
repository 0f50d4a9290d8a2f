use Rattle.std.proofs.Common.{◌≡◌, ◌<◌, ◌≤◌, ◌++◌, ◌+◌, ℕ, List, length, get_or, drop, ap, sym, ◌∙◌, arith, append_assoc, add-one}
use Rattle.std.proofs.Math.Seq.{drop-cons}
use Rattle.std.proofs.lemmas.List.{drop_all, append-nil}
use Rattle.std.specs.List.{flat_map}
use Rattle.std.proofs.lemmas.Result.{err_from_is_err_and}
use Rattle.object_identifiers.specs.Contents.{fitting, subidentifier}
use Rattle.object_identifiers.proofs.FittingLemmas.{fits, fits_not, short_fits}
use Rattle.object_identifiers.proofs.contents.add_subidentifiers.Goals as goal

-- the next number's octets behind those so far, and the rest behind both
next : (octets numbers : List ℕ) (i : ℕ) → i < length numbers → octets ++ flat_map subidentifier (drop i numbers) ≡ (octets ++ subidentifier (get_or numbers i 0)) ++ flat_map subidentifier (drop (i + 1) numbers)
next octets numbers i lt =
    ap (λ (w : List ℕ). octets ++ flat_map subidentifier w) (drop-cons numbers i 0 lt)
    ∙ (sym (append_assoc octets (subidentifier (get_or numbers i 0)) _)
    ∙ ap (λ (k : ℕ). (octets ++ subidentifier (get_or numbers i 0)) ++ flat_map subidentifier (drop k numbers)) (sym (add-one i)))

pub loop-number-preserved : goal.loop-number-preserved
loop-number-preserved c =
    let f = fits (c.loop-number.octets.items ++ subidentifier (get_or c.args.numbers.now c.loop-number.number-index 0)) c.add_subidentifier.new.octets.items c.in_ok-add_subidentifier.ensures in
    let short : length c.add_subidentifier.new.octets.items ≤ 255 = omega (arith, f.1, ap length f.0) in
    record {
      written = ap (λ (w : List ℕ). fitting (w ++ flat_map subidentifier (drop (c.loop-number.number-index + 1) c.args.numbers.now))) (sym f.0)
          ∙ (ap fitting (sym (next c.loop-number.octets.items c.args.numbers.now c.loop-number.number-index c.loop-number-test.true)) ∙ c.loop-number.invariant.written);
      short = short;
    }

pub returns-in_err-add_subidentifier : goal.returns-in_err-add_subidentifier
returns-in_err-add_subidentifier c =
    let p = err_from_is_err_and c.from_residual.result c.from_residual.ensures.1 in
    let whole = next c.loop-number.octets.items c.args.numbers.now c.loop-number.number-index c.loop-number-test.true in
    rw (p.1, p.2) (sym c.loop-number.invariant.written ∙ (ap fitting whole ∙ fits_not _ _ c.in_err-add_subidentifier.field-0.0 c.in_err-add_subidentifier.ensures))

pub returns : goal.returns
returns c =
    sym c.loop-number.invariant.written
    ∙ (ap (λ (w : List ℕ). fitting (c.loop-number.octets.items ++ flat_map subidentifier w)) (drop_all c.loop-number.number-index c.args.numbers.now c.loop-number-test.false)
    ∙ (ap fitting (append-nil c.loop-number.octets.items) ∙ short_fits c.loop-number.octets.items c.loop-number.invariant.short))
