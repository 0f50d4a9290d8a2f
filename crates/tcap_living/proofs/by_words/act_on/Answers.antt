use Rattle.std.proofs.Common.{false, refl, subst, string_bytes}
use Rattle.tcap_living.specs.Asking.{DoesIf}
use Rattle.tcap_living.proofs.WordNumbers.{other_words}
use Rattle.tcap_living.proofs.by_words.act_on.Goals as goal

pub returns-else-count-eq8 : goal.returns-else-count-eq8
returns-else-count-eq8 g c h stands =
    let none = other_words c.args.words.now c.if-count-eq1.false c.if-count-eq2.false c.if-count-eq3.false c.if-count-eq4.false c.if-count-eq5.false c.if-count-eq8.false in
    subst (λ l. DoesIf c.args.format h c.args.number l false c.args.engine.now (string_bytes c.args.text.now) (string_bytes c.args.text.now)) none (refl, stands, refl)
