-- What is told without a request of the far user has no origin.
use Rattle.std.proofs.Common.{◌≡◌, ℕ, pos, Bool, false, List, [], ◌∷◌, Option, Some, None, refl, sym, ap, subst, ◌∙◌}
use Rattle.std.specs.Prelude.{bytes_eq, drop}
use Rattle.std.proofs.lemmas.Bool.{false≢true}
use Rattle.tcap_examples.proofs.LegalHistories.{legal}
use Rattle.tcap_examples.proofs.PlaceLemmas.{Everywhere, at_happening}
use Rattle.tcap_examples.proofs.TwoEngines.{from_a, from_b, hears_none, heard_is_b}
use Rattle.tcap_examples.specs.Computing.{computing}
use Rattle.tcap_examples.specs.Nets.PlayedNets.{answer}
use Rattle.tcap_examples.specs.Nets.WrongNets.{crossed_queues, crossed_told, empty_at_a_lapse, empty_told}
use Rattle.tcap_examples.specs.Values.HistoryWords.{continued, empty_result}
use Rattle.tcap_model.specs.Histories.Life.{life}
use Rattle.tcap_model.specs.Histories.Pair.{Past}
use Rattle.tcap_model.specs.Replies.Legal.{IsLegal}
use Rattle.tcap_model.specs.Statements.FarAnswer.{ComesFromFar, IsAnswer, peer_in}
use Rattle.tcap_model.specs.Statements.Net.{Engine, Marked, Trace, IsCarried, history_in, side}
use Rattle.tcap_model.specs.Statements.TwoEnds.{Origin}
use Rattle.tcap_model.specs.Words.Event.{Event}
use Rattle.tcap_model.specs.Words.LocalId.{local_id}
use Rattle.tcap_model.specs.Words.Output.{Output, ComponentIndication}
use Rattle.tcap_model.specs.Words.Request.{Request, ComponentRequest}
use Rattle.tcap_examples.specs.Nets.Engines.{engine_a, engine_b, two_places}

-- The empty result that is told in a dialogue, of the invocation with its number.
abbrev closes : ℕ → Output
closes dialogue = Output.component (ComponentIndication.closed dialogue dialogue (pos 1) empty_result)

-- ---- an empty result at a lapse

-- it is told at a moment, which hears nobody
not_from_far : ComesFromFar two_places engine_a 1 answer empty_told.event (drop 1 empty_at_a_lapse.trace) → ⊥
not_from_far from = hears_none from.far 1000 from.hears

pub empty-no_origin : Origin two_places empty_at_a_lapse.trace → ⊥
empty-no_origin origin = not_from_far (origin (record {
  engine = engine_a;
  pair = empty_told;
  before = drop 1 empty_at_a_lapse.trace;
  dialogue = 1;
  number = 1;
  id = pos 1;
  output = closes 1;
  request = answer;
  happens = record { later = []; is_trace = refl };
  tells = record { earlier = []; later = []; is_answer = refl };
  is_answer = IsAnswer.a_result_last None;
}))

-- ---- crossed queues

-- The peer, if a request is a last result.
abbrev if_result : Request → Option (List ℕ) → Option (List ℕ)
if_result (Request.component (ComponentRequest.invoke id class code parameter linked timeout)) peer = None
if_result (Request.component (ComponentRequest.result_last id body)) peer = peer
if_result (Request.component (ComponentRequest.result_more id body)) peer = None
if_result (Request.component (ComponentRequest.error_back id code parameter)) peer = None
if_result (Request.component (ComponentRequest.u_reject id problem)) peer = None
if_result (Request.component (ComponentRequest.u_cancel id)) peer = None
if_result (Request.dialogue asked) peer = None

-- The peer of the dialogue that an event asks to answer.
abbrev peer_answered : Event → Past → Option (List ℕ)
peer_answered Event.new_dialogue past = None
peer_answered (Event.on_dialogue dialogue request) past = if_result request (peer_in (life dialogue past))
peer_answered (Event.received from bytes) past = None
peer_answered (Event.moment now) past = None

-- Whether it is the second dialogue of the first engine.
abbrev is_second : Option (List ℕ) → Bool
is_second None = false
is_second (Some octets) = bytes_eq octets (local_id 2)

pub crossed-carried : IsCarried two_places crossed_queues.trace
unfolding computing
crossed-carried = (from_b refl, (tt, (tt, (from_a refl, (from_a refl, (tt, (tt, (tt, (tt, (tt, (tt, tt)))))))))))

pub crossed-legal : IsLegal (history_in crossed_queues engine_a crossed_queues.trace)
unfolding computing
crossed-legal = legal (history_in crossed_queues engine_a crossed_queues.trace) refl refl refl refl

-- No last result is asked for in a dialogue whose peer is the second of the first engine.
abbrev Other : Marked → Trace → Type 0
Other m before = is_second (peer_answered m.pair.event (side engine_b before)) ≡ false

others : Everywhere Other (drop 1 crossed_queues.trace)
unfolding computing
others = (refl, (refl, (refl, (refl, (refl, (refl, (refl, (refl, (refl, (refl, tt))))))))))

not_to_second : ComesFromFar two_places engine_a 2 answer crossed_told.event (drop 1 crossed_queues.trace) → ⊥
not_to_second from =
    let past = side engine_b from.before in
    let is_b = heard_is_b from.far from.hears in
    let peer : peer_in (life from.is_request.far_dialogue past) ≡ Some (local_id 2) =
    subst (λ (far : Engine). peer_in (life from.is_request.far_dialogue (side far from.before)) ≡ Some (local_id 2)) is_b from.is_request.is_peer in
    false≢true (sym (at_happening Other (drop 1 crossed_queues.trace) others from.far from.pair from.before from.happens)
    ∙ (ap (λ (event : Event). is_second (peer_answered event past)) from.is_request.is_event
    ∙ ap is_second peer))

pub crossed-no_origin : Origin two_places crossed_queues.trace → ⊥
crossed-no_origin origin = not_to_second (origin (record {
  engine = engine_a;
  pair = crossed_told;
  before = drop 1 crossed_queues.trace;
  dialogue = 2;
  number = 2;
  id = pos 1;
  output = closes 2;
  request = answer;
  happens = record { later = []; is_trace = refl };
  tells = record { earlier = continued 2 ∷ []; later = []; is_answer = refl };
  is_answer = IsAnswer.a_result_last None;
}))
