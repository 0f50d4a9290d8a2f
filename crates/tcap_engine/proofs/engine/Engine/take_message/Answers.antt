use Rattle.std.proofs.Common.{rules, ◌≡◌, inl, inr, None}
use Rattle.tcap_engine.proofs.NamedEngine.{none-named, told-one}
use Rattle.tcap_engine.proofs.engine.Engine.take_message.Goals as goal
use Rattle.tcap_engine.proofs.engine.Engine.take_message.Goals.{in-Continue, in-End2}
use Rattle.tcap_model.specs.Procedures.Reception.{addressed}
use Rattle.tcap_model.specs.Table.EngineMove.{is_live_in}

pub returns-in-Some : goal.returns-in-Some
returns-in-Some g c =
    let n = none-named _ _ _ _ _ _ (rw c.if-branch.false at c.in_ok-deliver.ensures) in
    elim c.match-frame.branch [
      | in-Continue w ↦
          let named : addressed (is_live_in c.args.self.now.dialogues) w.in-Continue.dtid ≡ None = search (rules, n.0) in
          let who : c.in-Some.origin.now ≡ w.in-Continue.otid = search rules in
          rw (w.in-Continue.is, named, n.1.1)
          (told-one _ _ _ _ _ (rw (n.1.0, who) at c.abort_by_cause-in-Some.ensures.ok) (rw n.1.0 at c.abort_by_cause-in-Some.ensures.still))
      | in-End2 w ↦ search rules
    ]

pub returns-in-None : goal.returns-in-None
returns-in-None g c =
    let n = none-named _ _ _ _ _ _ (rw c.if-branch.false at c.in_ok-deliver.ensures) in
    elim c.match-frame.branch [
      | in-Continue w ↦ search rules
      | in-End2 w ↦
          let named : addressed (is_live_in c.args.self.now.dialogues) w.in-End.dtid ≡ None = search (rules, n.0) in
          elim w.in-End.is [
            | inl p ↦
                rw (p.2, named, n.1.1)
                (told-one _ _ _ _ _ (rw n.1.0 at c.drop_message.ensures.ok) (rw n.1.0 at c.drop_message.ensures.still))
            | inr p ↦
                rw (p.1, named, n.1.1)
                (told-one _ _ _ _ _ (rw n.1.0 at c.drop_message.ensures.ok) (rw n.1.0 at c.drop_message.ensures.still))
          ]
    ]
