use Rattle.std.proofs.Common.{◌≡◌, ◌∙◌, ◌-◌, ◌<◌, length, ap, arith, rules}
use Rattle.std.proofs.lemmas.Bool.Decides.{nat_tests}
use Rattle.ber_core.specs.Views.{parts}
use Rattle.tcap_explain.specs.declared.line.Line.{Line}
use Rattle.tcap_explain.specs.declared.line.Line.TheVariants as line
use Rattle.tcap_explain.specs.declared.line.ListLine.TheVariants as list
use Rattle.tcap_explain.specs.Walk.{walk}
use Rattle.tcap_explain.proofs.ListedLemmas.{listed-none}
use Rattle.tcap_explain.proofs.walk.is_listed.Goals as goal

pub returns : goal.returns
returns c more =
    let e = parts c.args.element.now in
    let less : length e.content < length e.whole - c.head_len.result = grind (arith, nat_tests, more) in
    let is : c.args.line ≡ line.List list.Elements = search rules in
    ap (λ (l : Line). walk l e.content) is ∙ listed-none e c.requires (omega (arith, less, c.head_len.ensures.value))
