use Rattle.std.proofs.Common.{rules, sym, ap, ◌≡◌, ◌∙◌, nat_eq, option_copied}
use Rattle.std.specs.Map.{lookup}
use Rattle.tcap_model.specs.Table.EngineMove.{dialogue_in}
use Rattle.tcap_model.specs.Table.World.{World}
use Rattle.tcap_engine.proofs.TableLemmas.{found-in}
use Rattle.tcap_engine.proofs.engine.Engine.dialogue_at.Goals as goal

pub returns : goal.returns
returns g c =
    let ps = c.self.inside.table in
    let found : option_copied c.get.result ≡ lookup (nat_eq c.args.dialogue) ps = search rules in
    found ∙ sym (found-in c.args.dialogue 0 ps c.self.invariant.from) ∙ ap (λ (w : World). dialogue_in c.args.dialogue w.dialogues) c.self.view_is
