-- Each answer that is told of an invocation names it: by its number, its dialogue and its identifier.
use Rattle.std.proofs.Common.{◌≡◌, ℕ, ℤ, List, ◌∷◌, Option, Some, subst}
use Rattle.tcap_component.specs.declared.problem.Kind.{Kind}
use Rattle.tcap_component.specs.declared.problem.Kind.TheVariants as kind
use Rattle.tcap_model.specs.Words.Answer.{Answer}
use Rattle.tcap_model.specs.Histories.Birth.{born_on_message}
use Rattle.tcap_model.specs.Statements.ToldFrom.{ToldFromOne}
use Rattle.tcap_model.specs.Words.Event.{Event}
use Rattle.tcap_model.specs.Histories.History.{History}
use Rattle.tcap_model.specs.Invocations.Invocation.{invocation_of}
use Rattle.tcap_model.specs.Replies.Legal.{AreReplies}
use Rattle.tcap_model.specs.Statements.Net.{side, history_in, Net, IsNet}
use Rattle.tcap_model.specs.Words.Output.{Output}
use Rattle.tcap_model.specs.Histories.Pair.{Past}
use Rattle.tcap_model.specs.Statements.Places.{Tells}
use Rattle.tcap_model.specs.Replies.Reply.{reply}
use Rattle.tcap_model.specs.Words.Request.{Request, ComponentRequest}
use Rattle.tcap_model.specs.Statements.TwoEnds.{AnswersInvoke, Named}
use Rattle.tcap_model.specs.Statements.FarAnswer.{FarAnswer, IsAnswer}
use Rattle.tcap_laws.proofs.Peers.NetPlaces.{happens-stands}
use Rattle.tcap_laws.proofs.FarEnds.AnswersNamed.{answer-indicates}
use Rattle.tcap_laws.proofs.FarEnds.PlacedTellings.{IsOf, RejectsInvoke, Placed, reply-placed}
use Rattle.tcap_laws.proofs.Receptions.ToldFromOctets.{legal-before, told-from}

-- ---- what is told of an answer

answer-of : (past : Past) (bytes : List ℕ) (born : Option ℕ) {dialogue number : ℕ} {id : ℤ} {output : Output}
    {request : Request}
    → IsAnswer dialogue number id output request → Placed past bytes born output
    → IsOf past dialogue number id × AnswersInvoke id request
answer-of past bytes born (IsAnswer.a_result_last body) placed = (placed, AnswersInvoke.a_result_last body)
answer-of past bytes born (IsAnswer.a_result_more body) placed = (placed, AnswersInvoke.a_result_more body)
answer-of past bytes born (IsAnswer.an_error code parameter) placed = (placed, AnswersInvoke.an_error code parameter)
answer-of past bytes born {id = id} (IsAnswer.a_reject problem) placed = (placed.0, rejects problem.kind placed.1)
  where
    rejects : (k : Kind) → RejectsInvoke k → AnswersInvoke id
        (Request.component (ComponentRequest.u_reject (Some id) (record { kind = k; code = problem.code })))
    rejects kind.General is = AnswersInvoke.a_general_reject problem.code
    rejects kind.Invoke is = AnswersInvoke.an_invoke_reject problem.code
    rejects kind.Result is = absurd is
    rejects kind.Error is = absurd is

module _ (net : Net) (is : IsNet net) (answer : FarAnswer net.trace) where
  -- the invocation and the request
  pub answered : IsOf (side answer.engine answer.before) answer.dialogue answer.number answer.id
      × AnswersInvoke answer.id answer.request
  answered =
      let stands = happens-stands answer.engine answer.pair answer.before net.trace answer.happens in
      let legal = legal-before (net.start answer.engine) stands.later (answer.pair ∷ side answer.engine answer.before)
      (subst (AreReplies (net.start answer.engine)) stands.is_past (is.is_legal answer.engine).1) in
      let h : History = record { start = net.start answer.engine; pairs = side answer.engine answer.before } in
      let told : ToldFromOne answer.pair.event answer.output =
      told-from (history_in net answer.engine net.trace) (is.is_legal answer.engine) (record {
        pair = answer.pair;
        before = side answer.engine answer.before;
        output = answer.output;
        stands = stands;
        tells = answer.tells;
        is_of_component = answer-indicates answer.is_answer;
      }) in
      let placed = reply-placed h legal.2 told.from told.bytes answer.output
      (subst (λ (e : Event). Tells (reply h e) answer.output) told.is_event
      (subst (λ (a : Answer). Tells a answer.output) legal.1 answer.tells)) in
      answer-of (side answer.engine answer.before) told.bytes (born_on_message (reply h (Event.received told.from told.bytes)))
      answer.is_answer placed

pub named : (net : Net) → IsNet net → Named net.trace
named net is answer =
    let of = (answered net is answer).0 in
    record {
      invocation = of.invocation;
      is_found =
          subst (λ (n : ℕ). invocation_of n (side answer.engine answer.before) ≡ Some of.invocation) of.number_is
          of.is_found;
      is_of_dialogue = of.dialogue_is;
      has_id = of.id_is;
    }
