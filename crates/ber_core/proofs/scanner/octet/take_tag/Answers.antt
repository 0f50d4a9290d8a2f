use Rattle.std.proofs.Common.{◌∷◌, inl, inr, sym, ◌∙◌, arith}
use Rattle.ber_core.specs.Scanning.{at_tag, at_element}
use Rattle.ber_core.proofs.ScannerSteps.{leads_as, tag-end, tag-element}
use Rattle.ber_core.proofs.scanner.octet.take_tag.Goals as goal
use Rattle.ber_core.proofs.scanner.octet.take_tag.Goals.{else-octet-eq0-via-then-octet-eq0+else-nested-gt0, else-octet-eq0-via-else-octet-eq0}

pub returns-then-nested-gt0 : goal.returns-then-nested-gt0
returns-then-nested-gt0 c = λ rest. c.due_at.ensures rest ∙ sym (rw c.if-octet-eq0.true (tag-end c.args.nested rest c.if-nested-gt0.true))

pub returns : goal.returns
returns c =
    let n = c.args.nested in
    let b = c.args.octet in
    elim c.else-octet-eq0.branch [
      | else-octet-eq0-via-then-octet-eq0+else-nested-gt0 w ↦ leads_as (λ rest. at_element n (b ∷ rest)) (λ rest. at_tag n (b ∷ rest)) c.take_first.result (λ rest. sym (tag-element n b rest (inl (omega (arith, w.if-nested-gt0.false))))) c.take_first.ensures
      | else-octet-eq0-via-else-octet-eq0 w ↦ leads_as (λ rest. at_element n (b ∷ rest)) (λ rest. at_tag n (b ∷ rest)) c.take_first.result (λ rest. sym (tag-element n b rest (inr w.if-octet-eq0.false))) c.take_first.ensures
    ]
