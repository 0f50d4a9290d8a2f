-- Every request that an answer may come from was made after the Invoke was sent.
use Rattle.std.proofs.Common.{◌≡◌, ℕ, ◌==◌, Bool, true, false, List, [], ◌∷◌, ◌++◌, Option, Some, None, refl, sym, ap, subst, ◌∙◌, append_assoc}
use Rattle.std.specs.Prelude.{cond, find, option_to_list}
use Rattle.std.specs.Option.{option_or}
use Rattle.tcap_model.specs.Words.Event.{Event}
use Rattle.tcap_model.specs.Invocations.Invocation.{Invocation, invocation_of, invoked_by, invoked_of}
use Rattle.tcap_model.specs.Histories.Life.{Life, life}
use Rattle.tcap_model.specs.Words.LocalId.{local_id}
use Rattle.tcap_model.specs.Statements.Net.{Engine, side, Net, IsNet}
use Rattle.tcap_model.specs.Words.Output.{Output, ComponentIndication}
use Rattle.tcap_model.specs.Histories.Pair.{Pair, Past}
use Rattle.tcap_model.specs.Statements.Places.{StandsIn}
use Rattle.tcap_model.specs.Words.Request.{Request, ComponentRequest}
use Rattle.tcap_model.specs.Statements.TwoEnds.{AcceptedInvoke, IsOrderly, ToldInvoke, WasInvoked, WasSent, AfterInvoke, EachIsTwoEnded}
use Rattle.tcap_model.specs.Statements.FarAnswer.{FarAnswer, FarSource, peer_in}
use Rattle.tcap_laws.proofs.Peers.CarriedComponents.{Carried, stands-before}
use Rattle.tcap_laws.proofs.Spans.DrawnInvocations.{invocation_step}
use Rattle.tcap_laws.proofs.FarEnds.ClosedOnce.{once}
use Rattle.tcap_laws.proofs.FarEnds.FarInvokes.{Facing, invoke-told, invoke-from}
use Rattle.tcap_laws.proofs.FarEnds.FarOrigins.{origin}
use Rattle.tcap_laws.proofs.Peers.HeardPeers.{IsPeered}
use Rattle.tcap_laws.proofs.Peers.NetPlaces.{happens-rest, happens-stands, IsAt, stands-happens}
use Rattle.tcap_laws.proofs.Peers.OpenedApart.{NeverBegun, earlier_net, net-before, never-before}
use Rattle.tcap_laws.proofs.Peers.OwnDialogues.{opened-never, opened-short}
use Rattle.tcap_laws.proofs.FarEnds.NamedAnswers.{answered, named}
use Rattle.tcap_laws.proofs.FarEnds.SentInvokes.{HasSource, stands-for-invoke, source, invoke-sent, sent-later, operations}
use Rattle.tcap_laws.proofs.FarEnds.WaitingInvokes.{invocation_as}
use Rattle.tcap_laws.proofs.FarEnds.BeginsSent.{IsIn, in-in}

-- ---- the pair that made an invocation

record IsMade (i : Invocation) (past : Past) : Type 0 where
  pair : Pair
  before : Past
  stands : StandsIn pair before past
  makes : invoked_by pair ≡ Some i

made-later : (i : Invocation) (last : Pair) (past : Past) → IsMade i past → IsMade i (last ∷ past)
made-later i last past made = record {
  pair = made.pair;
  before = made.before;
  stands = record { later = last ∷ made.stands.later; is_past = ap (λ (w : Past). last ∷ w) made.stands.is_past };
  makes = made.makes;
}

made-here : (n : ℕ) (i : Invocation) (last : Pair) (past : Past) (o p : Option Invocation)
    → (o ≡ Some i → IsMade i past) → invoked_by last ≡ p
    → option_or o (find (λ (x : Invocation). x.number == n) (option_to_list p)) ≡ Some i → IsMade i (last ∷ past)
made-here n i last past (Some j) p again q e = made-later i last past (again e)
made-here n i last past None None again q e = absurd cc
made-here n i last past None (Some new) again q e = go (new.number == n) e
  where
    go : (b : Bool) → cond b (Some new) None ≡ Some i → IsMade i (last ∷ past)
    go true e = record { pair = last; before = past; stands = record { later = []; is_past = refl }; makes = q ∙ e }
    go false e = absurd cc

made : (n : ℕ) (i : Invocation) (past : Past) → invocation_of n past ≡ Some i → IsMade i past
made n i [] e = absurd cc
made n i (last ∷ past) e =
    made-here n i last past (invocation_of n past) (invoked_by last) (λ q. made n i past q) refl
    (sym (invocation_step n last past) ∙ e)

-- ---- the two ends

is-peered : (peer : List ℕ) (l : Life) → peer_in l ≡ Some peer → IsPeered peer l
is-peered peer Life.unborn e = absurd cc
is-peered peer (Life.standing state context) e = e
is-peered peer Life.over e = absurd cc

stands-within : (pair : Pair) (before past whole : Past) → StandsIn pair before past → IsIn past whole
    → StandsIn pair before whole
stands-within pair before past whole stands part = record {
  later = part.0 ++ stands.later;
  is_past = part.1 ∙ (ap (λ (w : Past). part.0 ++ w) stands.is_past
      ∙ sym (append_assoc part.0 stands.later (pair ∷ before)));
}

module _ (net : Net) (is : IsNet net) (answer : FarAnswer net.trace)
    (asking : FarSource net.places answer)
    (orderly : IsOrderly answer.engine answer.dialogue asking.far net.trace) where
  abbrev other : Engine
  other = asking.far

  abbrev f : ℕ
  f = asking.is_request.far_dialogue

  here-in : (e : Engine) → IsIn (side e answer.before) (side e net.trace)
  here-in e = happens-rest e answer.engine answer.pair answer.before net.trace answer.happens

  earlier-in : (e : Engine) → IsIn (side e asking.before) (side e answer.before)
  earlier-in e = happens-rest e other asking.pair asking.before answer.before asking.happens

  -- the Invoke that the far user was told
  was : WasInvoked f answer.id (side other asking.before)
  was =
      let stands = stands-within asking.pair (side other asking.before) (side other answer.before)
      (side other net.trace) (happens-stands other asking.pair asking.before answer.before asking.happens)
      (here-in other) in
      orderly.answers_told (record {
        pair = asking.pair;
        before = side other asking.before;
        dialogue = f;
        id = answer.id;
        request = answer.request;
        stands = stands;
        is_event = asking.is_request.is_event;
        accepted = asking.is_request.accepted;
        answers = (answered net is answer).1;
      })

  at : IsAt other was.pair was.before asking.before
  at = stands-happens other was.pair was.before asking.before was.stands

  abbrev then : Net
  then = earlier_net net asking.before

  then-is : IsNet then
  then-is = net-before (earlier_net net answer.before)
      (net-before net is answer.engine answer.pair answer.before answer.happens) other asking.pair asking.before
      asking.happens

  never : NeverBegun answer.dialogue (side answer.engine asking.before)
  never = never-before answer.dialogue answer.engine other asking.pair asking.before answer.before asking.happens
      (never-before answer.dialogue answer.engine answer.engine answer.pair answer.before net.trace answer.happens
      (opened-never net is answer.engine answer.dialogue orderly.opened))

  peered : IsPeered (local_id answer.dialogue) (life f (side other asking.before))
  peered = is-peered (local_id answer.dialogue) (life f (side other asking.before)) asking.is_request.is_peer

  abbrev facing : Facing then
  facing = record {
    engine = answer.engine;
    other = other;
    dialogue = answer.dialogue;
    far_dialogue = f;
    is_short = opened-short net is answer.engine answer.dialogue orderly.opened;
    never_begun = never;
    is_peered = peered;
    is_kept = asking.is_request.is_kept;
  }

  abbrev told_invoke : ToldInvoke other (Some f) asking.before
  told_invoke = record {
    pair = was.pair;
    before = at.before;
    id = answer.id;
    linked = was.linked;
    code = was.code;
    parameter = was.parameter;
    happens = at.happens;
    tells = was.tells;
  }

  abbrev told : Output
  told = Output.component (ComponentIndication.invoked (Some f) answer.id was.linked was.code was.parameter)

  it : Carried then other at.before was.pair.event told
  it = invoke-told then then-is facing told_invoke

  from-here : (it.far ≡ answer.engine) × (it.sent.dialogue ≡ answer.dialogue)
  unfolding it
  from-here = invoke-from then then-is facing told_invoke

  from : HasSource it.sent.dialogue it.past answer.id was.linked was.code was.parameter
  from = source then then-is other was.pair at.before at.happens told it answer.id was.linked was.code was.parameter
      (stands-for-invoke told it.told.component it.told.stands_for (Some f) answer.id was.linked was.code was.parameter
      refl)

  at-in : IsIn (side answer.engine at.before) (side answer.engine asking.before)
  at-in = happens-rest answer.engine other was.pair at.before asking.before at.happens

  was-sent : WasSent from.number (side answer.engine asking.before)
  was-sent =
      let sent : WasSent from.number (side it.far at.before) =
      invoke-sent then then-is other was.pair at.before at.happens told it answer.id was.linked was.code
      was.parameter from in
      subst (WasSent from.number) (sym at-in.1) (sent-later from.number at-in.0 (side answer.engine at.before)
      (subst (λ (e : Engine). WasSent from.number (side e at.before)) from-here.0 sent))

  -- it is the Invoke of the invocation that is answered
  same : from.number ≡ answer.number
  same =
      let a = from.asked in
      let i : Invocation = invocation_as from.number it.sent.dialogue a.id a.class a.timeout in
      let makes : invoked_by a.pair ≡ Some i =
      ap (λ (e : Event). invoked_of e a.pair.answer) a.is_event
      ∙ ap (invoked_of (Event.on_dialogue it.sent.dialogue
      (Request.component (ComponentRequest.invoke a.id a.class a.code a.parameter a.linked a.timeout)))) a.is_answer
      in
      let stands-at : StandsIn a.pair a.before (side answer.engine at.before) =
      subst (λ (e : Engine). StandsIn a.pair a.before (side e at.before)) from-here.0
      (stands-before a.pair it.sender a.before it.past (side it.far at.before) a.stands it.stands) in
      let within = in-in (side answer.engine at.before) (side answer.engine asking.before)
      (side answer.engine net.trace) at-in (in-in (side answer.engine asking.before)
      (side answer.engine answer.before) (side answer.engine net.trace) (earlier-in answer.engine)
      (here-in answer.engine)) in
      let of = (answered net is answer).0 in
      let m : IsMade of.invocation (side answer.engine answer.before) =
      made of.invocation.number of.invocation (side answer.engine answer.before) of.is_found in
      let new : AcceptedInvoke (side answer.engine net.trace) = record {
        pair = a.pair;
        before = a.before;
        invocation = i;
        stands = stands-within a.pair a.before (side answer.engine at.before) (side answer.engine net.trace) stands-at
            within;
        makes = makes;
      } in
      let old : AcceptedInvoke (side answer.engine net.trace) = record {
        pair = m.pair;
        before = m.before;
        invocation = of.invocation;
        stands = stands-within m.pair m.before (side answer.engine answer.before) (side answer.engine net.trace)
            m.stands (here-in answer.engine);
        makes = m.makes;
      } in
      orderly.uses_once new old from-here.1 of.dialogue_is (from.is_id ∙ sym of.id_is) ∙ of.number_is

  pub sent-before : WasSent answer.number (side answer.engine asking.before)
  sent-before = subst (λ (n : ℕ). WasSent n (side answer.engine asking.before)) same was-sent

pub after-invoke : (net : Net) → IsNet net → AfterInvoke net.places net.trace
after-invoke net is answer asking orderly = sent-before net is answer asking orderly

-- ---- the whole

pub two_ends : EachIsTwoEnded
two_ends net is = record {
  origin = origin net is;
  named = named net is;
  after_invoke = after-invoke net is;
  once = once net is;
  operations =
      operations net is;
}
