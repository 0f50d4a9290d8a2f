use Rattle.std.proofs.Common.{◌+◌, ◌-◌, ◌*◌, refl, sym, ◌∙◌, arith}
use Rattle.ber_core.proofs.ScannerLengths.{long-more, long-above, long-spent, long-last}
use Rattle.ber_core.proofs.scanner.octet.take_long_length.Goals as goal
use Rattle.ber_core.proofs.scanner.octet.take_long_length.Goals.{then-above, else-above}

pub returns-then-left-gt1 : goal.returns-then-left-gt1
returns-then-left-gt1 c = λ rest.
    let on = sym (long-more c.args.nested c.args.left c.args.value c.args.octet rest c.if-left-gt1.true) in
    elim c.if-above.branch [
      | then-above w ↦ c.due_at.ensures rest ∙ (rw w.value-is (sym (long-above c.args.nested (c.args.left - 1) (c.args.value * 256 + c.args.octet) rest (rw c.with_octet-value.ensures at w.if-above.true)) ∙ on))
      | else-above w ↦ c.due_at.ensures rest ∙ (rw (w.value-is, c.with_octet-value.ensures) on)
    ]

pub returns-then-above-2 : goal.returns-then-above-2
returns-then-above-2 c = (refl, λ rest. long-spent c.args.nested c.args.left c.args.value c.args.octet rest (omega (arith, c.requires.left, c.if-left-gt1.false)) (rw c.with_octet-value.ensures at c.if-above-2.true))

pub returns : goal.returns
returns c = λ rest. c.behind_definite.ensures rest ∙ rw c.with_octet-value.ensures (sym (long-last c.args.nested c.args.left c.args.value c.args.octet rest (omega (arith, c.requires.left, c.if-left-gt1.false)) (rw c.with_octet-value.ensures at c.if-above-2.false)))
