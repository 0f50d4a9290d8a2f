use Rattle.std.proofs.Common.{false, refl, subst, string_bytes}
use Rattle.std.specs.Option.{option_and_then}
use Rattle.tcap_play.specs.Play.{step}
use Rattle.tcap_play.specs.PlayViews.{Does}
use Rattle.tcap_play.proofs.WordCounts.{other_words}
use Rattle.tcap_play.proofs.by_words.act_on.Goals as goal

pub returns-else-count-eq9 : goal.returns-else-count-eq9
returns-else-count-eq9 g c p at =
    let none = other_words c.args.words.now c.if-count-eq2.false c.if-count-eq3.false c.if-count-eq4.false c.if-count-eq5.false c.if-count-eq6.false c.if-count-eq9.false in
    subst (λ l. Does (option_and_then (step p) l) false c.args.a.now c.args.b.now (string_bytes c.args.text.now) (string_bytes c.args.text.now)) none (refl, refl)
