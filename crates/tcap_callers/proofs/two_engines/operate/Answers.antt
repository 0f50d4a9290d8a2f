use Rattle.std.proofs.Common.{refl, subst, []}
use Rattle.std.proofs.lemmas.Option.{IfSome_then}
use Rattle.tcap_engine.specs.EventViews.{answers_view, events_view}
use Rattle.tcap_model.specs.Statements.Net.{Net}
use Rattle.tcap_callers.specs.TwoEngines.{Hears, TellsResult, two_places}
use Rattle.tcap_callers.proofs.BothLemmas.{comes-back}
use Rattle.tcap_callers.proofs.two_engines.operate.Goals as goal

pub returns : goal.returns
returns g c =
    let asked = answers_view c.answered-asked.result.items in
    let heard = answers_view c.hand_on-heard.result.items in
    let replied = answers_view c.answered-replied.result.items in
    let told = answers_view c.hand_on-told.result.items in
    let heard_it = subst (λ xs. Hears (answers_view xs) c.in_ok-here.here c.in_ok-there.there heard c.new-other.result c.hand_on-heard.new.engine) c.as_slice.ensures.value c.hand_on-heard.ensures in
    let told_it = subst (λ xs. Hears (answers_view xs) c.in_ok-there.there c.in_ok-here.here told c.answered-asked.new.engine c.hand_on-told.new.engine) c.as_slice-2.ensures.value c.hand_on-told.ensures in
    IfSome_then c.told_result.result c.told_result.ensures
    (λ r tells. comes-back c.several_engines.ensures.begin c.several_engines.ensures.rely
    (record { max_dialogues = 1; reject_ms = 0; idle_ms = 0; next_dialogue = 1; next_number = 1 }) refl
    c.new-one.result c.new-other.result c.answered-asked.new.engine c.hand_on-heard.new.engine c.answered-replied.new.engine c.hand_on-told.new.engine
    c.new-one.ensures.value c.new-other.ensures.value
    (events_view c.asked_events.result) (events_view c.answering_events.result) asked heard replied told c.in_ok-here.here c.in_ok-there.there c.in_ok-here.ensures.value c.in_ok-there.ensures.value
    c.answered-asked.ensures (c.asked_events.ensures two_places 0 []) heard_it c.answered-replied.ensures (λ (net : Net). c.answering_events.ensures net.places 1 net.trace) told_it
    r.0 r.1 (subst (λ xs. TellsResult r.0 r.1 (answers_view xs)) c.as_slice-3.ensures.value tells))
