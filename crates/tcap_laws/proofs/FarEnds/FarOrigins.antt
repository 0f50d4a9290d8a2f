-- Each answer that is told of an invocation comes from a request of the far user, in a dialogue that keeps
-- an address of here.
use Rattle.std.proofs.Common.{◌≡◌, ◌≢◌, ℕ, ℤ, true, false, not, List, [], ◌∷◌, ◌++◌, Option, Some, refl, sym, ap, subst, ◌∙◌, inl, inr, append_assoc, IsTrue}
use Rattle.std.proofs.lemmas.Bool.{and_parts, true≢false}
use Rattle.tcap_pdu.specs.FrameSpelling.{Message}
use Rattle.tcap_component.specs.Component.{ComponentParts}
use Rattle.tcap_component.specs.Problem.{ProblemParts, is_by_provider}
use Rattle.tcap_model.specs.Words.Address.{Address}
use Rattle.tcap_model.specs.Words.Answer.{Answer, is_accepted}
use Rattle.tcap_model.specs.Statements.SentFrom.{SentPortion, ComesFrom, IsLocalReject, WasRequested, WasFormed}
use Rattle.tcap_model.specs.Procedures.ComponentRequest.{component_of}
use Rattle.tcap_model.specs.Procedures.Destination.{destination}
use Rattle.tcap_model.specs.Replies.Due.{due}
use Rattle.tcap_model.specs.Words.Event.{Event}
use Rattle.tcap_model.specs.Histories.History.{History, Start}
use Rattle.tcap_model.specs.Words.InRange.{is_address, is_in_range, are_octets}
use Rattle.tcap_model.specs.Replies.Legal.{AreReplies, IsLegal}
use Rattle.tcap_model.specs.Histories.Kept.{kept_address}
use Rattle.tcap_model.specs.Histories.Life.{Life, life}
use Rattle.tcap_model.specs.Words.LocalId.{local_id}
use Rattle.tcap_model.specs.Statements.Net.{Engine, side, is_at, ComesFromOther, Net, IsNet}
use Rattle.tcap_model.specs.Words.Output.{Output}
use Rattle.tcap_model.specs.Histories.Pair.{Pair, Past}
use Rattle.tcap_model.specs.Statements.Places.{StandsIn, Tells}
use Rattle.tcap_model.specs.Replies.Reply.{reply}
use Rattle.tcap_model.specs.Words.Request.{Request}
use Rattle.tcap_model.specs.Words.State.{State, peer_of}
use Rattle.tcap_model.specs.Procedures.States.{has_peer}
use Rattle.tcap_model.specs.Statements.TwoEnds.{Origin}
use Rattle.tcap_model.specs.Statements.FarAnswer.{FarAnswer, FarSource, peer_in}
use Rattle.tcap_laws.proofs.Peers.CarriedComponents.{Carried, carried, comes-there, hears-far, some_components, stands-before}
use Rattle.tcap_laws.proofs.FarEnds.FairTellings.{Fair, reply-fair}
use Rattle.tcap_laws.proofs.Peers.FarPeers.{HasPeer, peer-stays, destination-octets, octets-of}
use Rattle.tcap_laws.proofs.Peers.KeptAddresses.{kept-stays}
use Rattle.tcap_laws.proofs.Peers.NetPlaces.{happens-stands, stands-happens}
use Rattle.tcap_laws.proofs.Queues.QueuedComponents.{accepted-parts}
use Rattle.tcap_laws.proofs.Queues.SentComponents.{sent-from}
use Rattle.tcap_laws.proofs.Receptions.ToldFromOctets.{legal-before}
use Rattle.tcap_laws.proofs.ListLemmas.{one-of}
use Rattle.tcap_laws.proofs.FarEnds.AnswersNamed.{stands-told, answer-told, answer-indicates, answer-named, answer-by-user, answer-needs, some-peer, request-as, answer-no-invoke, named-destined, destined-octets}

-- ---- the origin

-- a request that was accepted on a dialogue which has a peer when the component is sent
module _ (start : Start) (past : Past) (legal : AreReplies start past) (d : ℕ) (request : Request) (peer : List ℕ)
    (state : State) (context : Option (List ℕ)) (lives : life d past ≡ Life.standing state context)
    (is_peer : peer_of state ≡ Some peer) where
  peer-then : (asked : Pair) (before : Past) → StandsIn asked before past → asked.event ≡ Event.on_dialogue d request
      → is_accepted asked.answer ≡ true →
      ((s : State) (c : Option (List ℕ)) → life d before ≡ Life.standing s c
      → is_accepted (reply (record { start = start; pairs = before }) (Event.on_dialogue d request)) ≡ true
      → not (has_peer s) ≡ false)
      → (peer_in (life d before) ≡ Some peer) × (kept_address d past ≡ kept_address d before)
  peer-then asked before stands is accepted needs =
      let h : History = record { start = start; pairs = before } in
      let there = legal-before start stands.later (asked ∷ before) (subst (AreReplies start) stands.is_past legal) in
      let taken : is_accepted (reply h (Event.on_dialogue d request)) ≡ true =
      ap (λ (e : Event). is_accepted (reply h e)) (sym is) ∙ (ap is_accepted (sym there.1) ∙ accepted) in
      let parts = accepted-parts h d request (life d before) (due h d request) taken in
      let some = some-peer parts.0 (needs parts.0 parts.1 parts.2 taken) in
      let between : past ≡ (stands.later ++ asked ∷ []) ++ before =
      stands.is_past ∙ sym (append_assoc stands.later (asked ∷ []) before) in
      let has : HasPeer some.0 (life d before) = subst (HasPeer some.0) (sym parts.2) some.1 in
      let whole = subst (AreReplies start) between legal in
      let kept : HasPeer some.0 (life d past) =
      subst (λ (p : Past). HasPeer some.0 (life d p)) (sym between)
      (peer-stays start d some.0 (stands.later ++ asked ∷ []) before whole has)
      in
      let then : peer_of state ≡ Some some.0 = subst (HasPeer some.0) lives kept in (
        ap peer_in parts.2 ∙ (some.1 ∙ (sym then ∙ is_peer)),
        ap (kept_address d) between ∙ kept-stays start d some.0 (stands.later ++ asked ∷ []) before whole has,
      )

module _ (net : Net) (is : IsNet net) (answer : FarAnswer net.trace) where
  it : Carried net answer.engine answer.before answer.pair.event answer.output
  it = carried net is answer.engine answer.pair answer.before answer.happens answer.output answer.tells
      (answer-indicates answer.is_answer)

  abbrev d : ℕ
  d = it.sent.dialogue

  -- the engine that sent it
  abbrev other : Engine
  other = it.far

  is_component : component_of answer.request ≡ Some it.told.component
  is_component = sym (answer-told answer.is_answer) ∙ stands-told answer.output it.told.component it.told.stands_for

  -- the pair is a legal one
  legal-here : AreReplies (net.start answer.engine) (answer.pair ∷ side answer.engine answer.before)
  legal-here =
      let stands = happens-stands answer.engine answer.pair answer.before net.trace answer.happens in
      legal-before (net.start answer.engine) stands.later (answer.pair ∷ side answer.engine answer.before)
      (subst (AreReplies (net.start answer.engine)) stands.is_past (is.is_legal answer.engine).1)

  fair : Fair it.told.bytes answer.output
  fair = reply-fair (record { start = net.start answer.engine; pairs = side answer.engine answer.before }) legal-here.2
      it.told.from it.told.bytes answer.output
      (subst (λ (e : Event). Tells (reply (record {
        start = net.start answer.engine;
        pairs =
            side answer.engine answer.before;
      }) e) answer.output) it.told.is_event
      (subst (λ (a : Answer). Tells a answer.output) legal-here.1 answer.tells))

  octets-here : are_octets it.told.bytes ≡ true
  octets-here = (and_parts (is_address it.told.from) (are_octets it.told.bytes)
      (subst (λ (e : Event). is_in_range e ≡ true) it.told.is_event legal-here.0.in_range)).1

  -- it went to the address that the sender keeps
  far-kept : IsTrue (is_at net.places answer.engine (kept_address d it.past))
  far-kept =
      let m : Message = it.told.message in
      let to = destined-octets answer.dialogue (destination m)
      (named-destined answer.dialogue it.told.bytes m it.told.spelled
      (answer-named it.told.bytes answer.is_answer fair)) in
      subst (λ (a : Address). IsTrue (is_at net.places answer.engine a)) (it.sent.to_kept to.0 to.1) it.is_to

  -- the sender's peer is this dialogue
  far-peer : peer_of it.sent.state ≡ Some (local_id answer.dialogue)
  far-peer =
      let m : Message = it.told.message in
      let to = destined-octets answer.dialogue (destination m)
      (named-destined answer.dialogue it.told.bytes m it.told.spelled
      (answer-named it.told.bytes answer.is_answer fair)) in
      let range = destination-octets m to.0 (subst (λ (w : List ℕ). are_octets w ≡ true) it.sent.is_written octets-here)
      to.1 in
      it.sent.takes.to_peer to.0 to.1 ∙ ap (λ (w : List ℕ). Some w) (octets-of answer.dialogue to.0 range to.2)

  source : ComesFrom d it.past it.told.component
  source =
      let h : History = record { start = net.start other; pairs = it.sender ∷ it.past } in
      let legal : IsLegal h = ((is.is_legal other).0, it.is_legal) in
      let sent : SentPortion h.pairs = record {
        pair = it.sender;
        before = it.past;
        to = it.to;
        bytes = it.told.bytes;
        message = it.told.message;
        components = it.told.earlier ++ it.told.component ∷ it.told.later;
        fault = it.told.fault;
        stands = record { later = []; is_past = refl };
        tells = it.tells;
        spelled = it.told.spelled;
        read = it.told.read;
      } in
      elim (sent-from h legal sent) [
        | inl none ↦ absurd (some_components it.told none)
        | inr one ↦
            let events : Event.on_dialogue one.dialogue one.request ≡ Event.on_dialogue d it.sent.request =
            sym one.is_event ∙ it.sent.is_event in
            let same : one.dialogue ≡ d = cc in
            subst (λ (x : ℕ). ComesFrom x it.past it.told.component) same
            (one-of (ComesFrom one.dialogue it.past) it.told.earlier it.told.later it.told.component one.each)
      ]

  from-request : WasRequested d it.told.component it.past → FarSource net.places answer
  from-request was =
      let none = answer-no-invoke answer.is_answer it.told.component is_component in
      let same : was.request ≡ answer.request =
      request-as was.request it.told.component none was.is_component
      ∙ sym (request-as answer.request it.told.component none is_component) in
      let is_event : was.pair.event ≡ Event.on_dialogue d answer.request =
      was.is_event ∙ ap (λ (r : Request). Event.on_dialogue d r) same in
      let at = stands-happens other was.pair was.before answer.before
      (stands-before was.pair it.sender was.before it.past (side other answer.before) was.stands
      it.stands) in
      let then = peer-then (net.start other) it.past it.is_legal.2 d answer.request
      (local_id answer.dialogue) it.sent.state it.sent.context it.sent.is_life far-peer was.pair was.before
      was.stands is_event was.accepted
      (λ s c lives accepted. answer-needs (record { start = net.start other; pairs = was.before }) d s c
      lives answer.is_answer accepted) in
      record {
        far = other;
        hears = hears-far net answer.engine answer.before answer.pair.event answer.output it;
        pair = was.pair;
        before = at.before;
        happens = at.happens;
        is_request = record {
          far_dialogue = d;
          is_event = is_event;
          accepted = was.accepted;
          is_peer = ap (λ (p : Past). peer_in (life d p)) at.is_side ∙ then.0;
          is_kept = subst (λ (a : Address). IsTrue (is_at net.places answer.engine a))
              (then.1 ∙ sym (ap (kept_address d) at.is_side)) far-kept;
        };
      }

  -- a Reject that was formed by the far component sublayer has a problem of that
  not-formed : WasFormed d it.told.component it.past → ⊥
  not-formed was =
      let there = legal-before (net.start other) was.stands.later (was.pair ∷ was.before)
      (subst (AreReplies (net.start other)) was.stands.is_past it.is_legal.2) in
      let h : History = record { start = net.start other; pairs = was.before } in
      let told = reply-fair h there.2 was.from was.bytes was.output
      (subst (λ (e : Event). Tells (reply h e) was.output) was.is_event
      (subst (λ (a : Answer). Tells a was.output) there.1 was.tells)) in
      let by_user = answer-by-user it.told.bytes answer.is_answer fair was.id was.problem
      (is_component ∙ ap (λ (c : ComponentParts). Some c) was.is_component) in
      true≢false (sym (by-provider was.bytes was.output was.id was.problem was.is_told told) ∙ by_user)
    where
      by-provider : (bytes : List ℕ) (told : Output) (named : Option ℤ) (problem : ProblemParts)
          → IsLocalReject d named problem told → Fair bytes told → is_by_provider problem ≡ true
      by-provider bytes told named problem (inl local) told-fair = subst (Fair bytes) local told-fair
      by-provider bytes told named problem (inr closed) told-fair = subst (Fair bytes) closed.3 told-fair

  pub comes-from-far : FarSource net.places answer
  comes-from-far = elim source [ inl was ↦ from-request was | inr was ↦ absurd (not-formed was) ]

pub origin : (net : Net) → IsNet net → Origin net.places net.trace
origin net is answer = comes-from-far net is answer

-- it is another engine
pub far-other : (net : Net) → IsNet net → (answer : FarAnswer net.trace) → (source : FarSource net.places answer)
    → source.far ≢ answer.engine
far-other net is answer source =
    let hears = source.hears in
    let comes : ComesFromOther net.places answer.engine hears.from hears.bytes answer.before =
    comes-there net is answer.engine answer.pair answer.before answer.happens hears.from hears.bytes hears.is_event in
    let same : comes.sender ≡ source.far =
    is.are_apart comes.sender source.far hears.from comes.is_from hears.is_from in
    subst (λ (e : Engine). e ≢ answer.engine) same comes.is_other
