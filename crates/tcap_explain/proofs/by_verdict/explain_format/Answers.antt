use Rattle.std.proofs.Common.{◌≡◌, ◌∙◌, ℕ, Option, Some, ap, refl, sym}
use Rattle.ber_core.specs.declared.fault.BerFault.{BerFault}
use Rattle.tcap_explain.specs.declared.line.Explained.{Explained}
use Rattle.tcap_explain.specs.declared.line.Line.TheVariants as line
use Rattle.tcap_explain.specs.declared.line.ListLine.TheVariants as list
use Rattle.tcap_explain.specs.declared.line.Rule.TheVariants as rule
use Rattle.tcap_explain.specs.Table.{is_over}
use Rattle.tcap_explain.specs.Walk.{badly_encoded, first_of, unmet, walk}
use Rattle.tcap_explain.proofs.WalkLemmas.{walk-unread}
use Rattle.tcap_explain.proofs.by_verdict.explain_format.Goals as goal

abbrev told : BerFault → ℕ → Option Explained
told fault place = Some (unmet place 0 (rule.Encoding fault))

pub returns-in-Some : goal.returns-in-Some
unfolding is_over
returns-in-Some c =
    let bytes = c.args.bytes.now in
    let fault = c.in-Some.fault in
    let found = c.in-Some.ensures in
    let second = walk (line.List list.OneConstructed) bytes in
    let first : walk (line.List list.OneElement) bytes ≡ Some (badly_encoded bytes fault) = walk-unread (line.List list.OneElement) bytes fault found.filled refl found.fault in
    ap (told fault) found.place ∙ sym (ap (λ (o : Option Explained). first_of o second) first)
