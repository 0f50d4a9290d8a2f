use Rattle.std.proofs.Common.{refl, sym, string_bytes}
use Rattle.tcap_living.specs.LiveText.{history_from}
use Rattle.tcap_living.proofs.Takings.{answers_held}
use Rattle.tcap_living.proofs.session.Session.answer.Goals as goal

pub returns-clause-answered : goal.returns-clause-answered
returns-clause-answered g c start lines has =
    let told = c.in_ok-good.ensures.answered (history_from start lines) has.stands in
    answers_held start lines c.args.self.now _ c.in_ok-good.good (string_bytes c.answer_line.new.text) _ _ has
    (rw (sym c.deref.ensures.value, sym c.new-text.ensures.bytes) told)
    refl refl c.clear.ensures.items (rw (sym c.as_bytes.ensures.value) c.in_ok-write_answer.ensures)
