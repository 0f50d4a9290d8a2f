use Rattle.std.proofs.Common.{◌≡◌, ◌∙◌, ◌+◌, ℕ, ap, rules, sym}
use Rattle.tcap_engine.specs.MessageLength.{ended_by, message_count, sent_length}
use Rattle.tcap_model.specs.Table.EngineMove.{engine_move}
use Rattle.tcap_model.specs.Words.Event.{Event}
use Rattle.tcap_primitives.specs.RequestViews.{request_view}
use Rattle.tcap_engine.proofs.MessageLengthLemmas.{ended-told}
use Rattle.tcap_engine.proofs.engine.Engine.ended_by.Goals as goal

pub returns-then-ends_dialogue-clause-told : goal.returns-then-ends_dialogue-clause-told
returns-then-ends_dialogue-clause-told g c = λ kind is.
    let r = request_view c.args.request.now in
    let value : c.open_in.result ≡ ended_by c.args.self.now c.args.dialogue r = search rules in
    ended-told c.args.self.now c.args.dialogue r kind is
    ∙ ap (λ (n : ℕ). message_count (sent_length (engine_move c.args.self.now (Event.on_dialogue c.args.dialogue r)).answer) + n) (sym value)

pub returns-else-ends_dialogue-clause-told : goal.returns-else-ends_dialogue-clause-told
returns-else-ends_dialogue-clause-told g c = λ kind is.
    let r = request_view c.args.request.now in
    let value : 0 ≡ ended_by c.args.self.now c.args.dialogue r = search rules in
    ended-told c.args.self.now c.args.dialogue r kind is
    ∙ ap (λ (n : ℕ). message_count (sent_length (engine_move c.args.self.now (Event.on_dialogue c.args.dialogue r)).answer) + n) (sym value)
