use Rattle.std.proofs.Common.{◌≡◌, false, cond, eqb, get_or, sym, ◌∙◌, refl, ap, drop}
use Rattle.std.proofs.lemmas.Bool.{ne_eqb}
use Rattle.ber_core.specs.ObjectIdentifier.{subidentifiers_at}
use Rattle.ber_core.proofs.ObjectIdentifierGrammar.{neither, passed_low, passed_high, at-padded, at-end}
use Rattle.ber_core.proofs.object_identifier.are_subidentifiers.Goals as goal
use Rattle.ber_core.proofs.object_identifier.are_subidentifiers.Goals.{then-octet-lt128, else-octet-lt128+else-octet, else-octet-via-then-octet+else-begins, else-octet-via-else-octet}

pub returns-then-begins : goal.returns-then-begins
returns-then-begins c =
    let from = ap (λ b. subidentifiers_at b (drop c.loop-octet.octet-index c.args.content.now)) c.if-begins.true in
    sym (at-padded _ c.args.content.now c.loop-octet-test.true c.if-octet.true) ∙ (sym from ∙ c.loop-octet.invariant)

pub returns : goal.returns
returns c = sym (at-end c.loop-octet.begins _ c.args.content.now c.loop-octet-test.false) ∙ c.loop-octet.invariant

pub loop-octet-preserved : goal.loop-octet-preserved
loop-octet-preserved c = elim c.if-octet-lt128.branch [
  | then-octet-lt128 w ↦ rw w.begins-is (passed_low c.loop-octet.begins _ c.args.content.now c.loop-octet-test.true w.if-octet-lt128.true ∙ c.loop-octet.invariant)
  | else-octet-lt128+else-octet w ↦
      let goes : cond c.loop-octet.begins (eqb (get_or c.args.content.now c.loop-octet.octet-index 0) 0x80) false ≡ false = elim w.else-octet.branch [
        | else-octet-via-then-octet+else-begins v ↦ rw v.if-begins.false refl
        | else-octet-via-else-octet v ↦ rw (ne_eqb _ 0x80 v.if-octet.false) (neither c.loop-octet.begins)
      ] in
      rw w.begins-is (passed_high c.loop-octet.begins _ c.args.content.now c.loop-octet-test.true w.if-octet-lt128.false goes ∙ c.loop-octet.invariant)
]
