-- Each Invoke that the far user is told in a dialogue whose peer is a dialogue which was opened here, and
-- which keeps an address of here, was sent by that.
use Rattle.std.proofs.Common.{◌≡◌, ◌⊎◌, ℕ, ◌<◌, ◌^◌, true, List, ◌∷◌, length, Option, Some, None, Ok, refl, sym, ap, subst, ◌∙◌, inl, inr, arith, IsTrue}
use Rattle.tcap_pdu.specs.FrameReading.{frame_at}
use Rattle.tcap_pdu.specs.FrameSpelling.{Message}
use Rattle.tcap_pdu.proofs.CallerLemmas.{frame_takes}
use Rattle.tcap_model.specs.Words.Address.{Address}
use Rattle.tcap_model.specs.Words.Answer.{Answer, is_accepted}
use Rattle.tcap_model.specs.Histories.Birth.{born_of, born_on_message, is_birth_of}
use Rattle.tcap_model.specs.Statements.ToldFrom.{IsOfComponent}
use Rattle.tcap_model.specs.Procedures.Destination.{destination}
use Rattle.tcap_model.specs.Replies.Due.{standing_of}
use Rattle.tcap_model.specs.Words.Event.{Event}
use Rattle.tcap_model.specs.Histories.History.{History}
use Rattle.tcap_model.specs.Replies.Legal.{AreReplies}
use Rattle.tcap_model.specs.Histories.Kept.{kept_address}
use Rattle.tcap_model.specs.Histories.Life.{Life, life}
use Rattle.tcap_model.specs.Words.LocalId.{dialogue_named, local_id, is_that}
use Rattle.tcap_model.specs.Statements.Net.{Engine, side, is_at, Net, IsNet}
use Rattle.tcap_model.specs.Words.Output.{Output, ComponentIndication}
use Rattle.tcap_model.specs.Histories.Pair.{Pair, Past}
use Rattle.tcap_model.specs.Statements.Places.{StandsIn, Tells}
use Rattle.tcap_model.specs.Replies.Reply.{reply}
use Rattle.tcap_model.specs.Words.State.{State, peer_of}
use Rattle.tcap_laws.proofs.Peers.CarriedComponents.{Carried, carried, stands-before}
use Rattle.tcap_laws.proofs.FarEnds.FairTellings.{IsNamedBy}
use Rattle.tcap_laws.proofs.FarEnds.PlacedTellings.{reply-placed}
use Rattle.tcap_model.specs.Statements.TwoEnds.{ToldInvoke}
use Rattle.tcap_laws.proofs.Peers.FarPeers.{HasPeer, peer-stays, no-begin}
use Rattle.tcap_laws.proofs.Peers.FarSenders.{IsNoAbort, SentAs, sent-as, FarSender, far-sender, same-id, born-short}
use Rattle.tcap_laws.proofs.Peers.HeardPeers.{IsPeered, HeardOf, peer-heard, heard-kept}
use Rattle.tcap_laws.proofs.Peers.KeptAddresses.{kept-stays}
use Rattle.tcap_laws.proofs.Peers.NetPlaces.{happens-rest, happens-stands, IsAt, stands-happens}
use Rattle.tcap_laws.proofs.Peers.OpenedApart.{NeverBegun, KeepsOf, earlier_net, net-before, never-peers, own-name, continue-names}
use Rattle.tcap_laws.proofs.Peers.OwnDialogues.{IsBegun, birth-begun, never-begun}
use Rattle.tcap_laws.proofs.Receptions.ToldFromOctets.{legal-before}
use Rattle.tcap_laws.proofs.FarEnds.BeginsSent.{IsIn, in-in, stands-in, same-peer, IsAnyBegin, IfAnyBegin, IsBeginRequest, begin-request}
use Rattle.tcap_laws.proofs.FarEnds.AnswersNamed.{destined-octets, named-destined}

-- ---- the far dialogue

-- a dialogue of one engine that no Begin created, and one of another whose peer it is, and which keeps
-- an address of the one
pub record Facing (net : Net) : Type 0 where
  pub engine : Engine
  pub other : Engine
  pub dialogue : ℕ
  pub far_dialogue : ℕ
  pub is_short : dialogue < 2 ^ 32
  pub never_begun : NeverBegun dialogue (side engine net.trace)
  pub is_peered : IsPeered (local_id dialogue) (life far_dialogue (side other net.trace))
  pub is_kept : KeepsOf net engine far_dialogue (side other net.trace)

module _ (net : Net) (is : IsNet net) (facing : Facing net) where
  abbrev engine : Engine
  engine = facing.engine

  abbrev other : Engine
  other = facing.other

  abbrev d : ℕ
  d = facing.dialogue

  abbrev f : ℕ
  f = facing.far_dialogue

  legal-far : AreReplies (net.start other) (side other net.trace)
  legal-far = (is.is_legal other).1

  -- its peer is known from its birth on
  f-known : (past : Past) (state : State) (context : Option (List ℕ)) → IsIn past (side other net.trace)
      → life f past ≡ Life.standing state context → peer_of state ≡ None → ⊥
  f-known past state context part lives unknown =
      let never-f : NeverBegun f (side other net.trace) =
      subst (NeverBegun f) (sym part.1) (never-begun (net.start other) f part.0 past state context
      (subst (AreReplies (net.start other)) part.1 legal-far) lives unknown) in
      never-peers (length net.trace) net is engine other d f (local_id d) (omega arith)
      (record {
        is_named = own-name d facing.is_short;
        never_here = facing.never_begun;
        never_there = never-f;
        is_peered = facing.is_peered;
        is_kept = facing.is_kept;
      })

  -- and stays
  f-peer : (past : Past) (peer : List ℕ) → IsIn past (side other net.trace) → HasPeer peer (life f past)
      → peer ≡ local_id d
  f-peer past peer part has =
      same-peer (local_id d) peer (life f (side other net.trace)) facing.is_peered
      (subst (λ (w : Past). HasPeer peer (life f w)) (sym part.1)
      (peer-stays (net.start other) f peer part.0 past (subst (AreReplies (net.start other)) part.1 legal-far) has))

  -- and so does what it keeps
  f-kept : (past : Past) (peer : List ℕ) → IsIn past (side other net.trace) → HasPeer peer (life f past)
      → KeepsOf net engine f past
  f-kept past peer part has =
      subst (λ (a : Address). IsTrue (is_at net.places engine a))
      (ap (kept_address f) part.1
      ∙ kept-stays (net.start other) f peer part.0 past (subst (AreReplies (net.start other)) part.1 legal-far) has)
      facing.is_kept

  -- it began none
  f-begins : (past : Past) (sender : Pair) (to : Address) (m : Message) → IsIn past (side other net.trace)
      → AreReplies (net.start other) (sender ∷ past) → is_accepted sender.answer ≡ true → IsAnyBegin m
      → (sent : SentAs past sender.event to m) → sent.dialogue ≡ f → ⊥
  f-begins past sender to m part legal accepted begins sent same = go (peer_of sent.state) refl
    where
      h : History
      h = record { start = net.start other; pairs = past }

      asks : IsBeginRequest sent.request
      asks = begin-request (standing_of sent.dialogue past sent.state sent.context) sent.request
          (subst IfAnyBegin (sym sent.is_asked) begins)

      taken : is_accepted (reply h (Event.on_dialogue sent.dialogue sent.request)) ≡ true
      taken = ap (λ (e : Event). is_accepted (reply h e)) (sym sent.is_event)
          ∙ (ap is_accepted (sym legal.1) ∙ accepted)

      go : (known : Option (List ℕ)) → peer_of sent.state ≡ known → ⊥
      go None e = f-known past sent.state sent.context part (ap (λ (x : ℕ). life x past) (sym same) ∙ sent.is_life) e
      go (Some peer) e = no-begin h sent.dialogue peer sent.state sent.context sent.is_life e sent.request taken asks.0
          asks.1 asks.2 asks.3

  -- ---- an Invoke that is told in it

  module _ (told_invoke : ToldInvoke other (Some f) net.trace) where
    abbrev told : Output
    told = Output.component (ComponentIndication.invoked (Some f) told_invoke.id told_invoke.linked told_invoke.code
        told_invoke.parameter)

    pub invoke-told : Carried net other told_invoke.before told_invoke.pair.event told
    invoke-told = carried net is other told_invoke.pair told_invoke.before told_invoke.happens told told_invoke.tells
        (IsOfComponent.invoke (Some f) told_invoke.id told_invoke.linked told_invoke.code told_invoke.parameter)

    abbrev x : ℕ
    x = invoke-told.sent.dialogue

    -- it comes from the dialogue that the far one faces
    abbrev IsFromHere : Type 0
    IsFromHere = (invoke-told.far ≡ engine) × (x ≡ d)

    abbrev h : History
    h = record { start = net.start other; pairs = side other told_invoke.before }

    stands : StandsIn told_invoke.pair (side other told_invoke.before) (side other net.trace)
    stands = happens-stands other told_invoke.pair told_invoke.before net.trace told_invoke.happens

    legal-here : AreReplies (net.start other) (told_invoke.pair ∷ side other told_invoke.before)
    legal-here = legal-before (net.start other) stands.later (told_invoke.pair ∷ side other told_invoke.before)
        (subst (AreReplies (net.start other)) stands.is_past legal-far)

    placed : IsNamedBy invoke-told.told.bytes f ⊎ (is_that f
        (born_on_message (reply h (Event.received invoke-told.told.from invoke-told.told.bytes))) ≡ true)
    placed = reply-placed h legal-here.2 invoke-told.told.from invoke-told.told.bytes told
        (subst (λ (e : Event). Tells (reply h e) told) invoke-told.told.is_event
        (subst (λ (a : Answer). Tells a told) legal-here.1 told_invoke.tells))

    -- it creates the dialogue
    by-birth : is_that f (born_on_message (reply h (Event.received invoke-told.told.from invoke-told.told.bytes)))
        ≡ true → IsFromHere
    by-birth birth =
        let born : is_birth_of f told_invoke.pair ≡ true =
        ap (λ (e : Event). is_that f (born_of e told_invoke.pair.answer)) invoke-told.told.is_event
        ∙ (ap (λ (a : Answer). is_that f (born_on_message a)) (legal-here.1 ∙ ap (reply h) invoke-told.told.is_event)
        ∙ birth) in
        let begun : IsBegun f invoke-told.told.from invoke-told.told.bytes told_invoke.pair
        (side other told_invoke.before) =
        birth-begun (net.start other) f told_invoke.pair (side other told_invoke.before) legal-here born
        invoke-told.told.from invoke-told.told.bytes invoke-told.told.is_event in
        let from-d : begun.origin ≡ local_id d =
        f-peer (told_invoke.pair ∷ side other told_invoke.before) begun.origin (stands.later, stands.is_past)
        begun.has_peer in
        let near : invoke-told.far ≡ engine =
        is.are_apart invoke-told.far engine invoke-told.told.from invoke-told.is_from
        (subst (λ (a : Address). IsTrue (is_at net.places engine a)) begun.is_kept
        (f-kept (told_invoke.pair ∷ side other told_invoke.before) begun.origin (stands.later, stands.is_past)
        begun.has_peer)) in
        let m : Message = Message.begin begun.origin begun.portion begun.components in
        let there : History = record { start = net.start invoke-told.far; pairs = invoke-told.past } in
        let sent : SentAs invoke-told.past invoke-told.sender.event invoke-told.to m =
        sent-as there invoke-told.told.bytes m (frame_takes invoke-told.told.bytes m begun.is_begin) tt
        invoke-told.sender.event invoke-told.to
        (subst (λ (a : Answer). Tells a (Output.send invoke-told.to invoke-told.told.bytes))
        invoke-told.is_legal.1 invoke-told.tells) in
        let events : Event.on_dialogue x invoke-told.sent.request ≡ Event.on_dialogue sent.dialogue sent.request =
        sym invoke-told.sent.is_event ∙ sent.is_event in
        let same : x ≡ sent.dialogue = cc in
        let sent_short = born-short (net.start invoke-told.far) invoke-told.past sent.dialogue
        (is.is_legal invoke-told.far).0 invoke-told.is_legal.2
        (λ unborn. let not : Life.standing sent.state sent.context ≡ Life.unborn =
        sym sent.is_life ∙ unborn in absurd cc) in
        (near, same ∙ same-id sent.dialogue d sent_short facing.is_short (sym sent.source ∙ from-d))

    -- it names the dialogue: what the sender heard of that it heard by a Continue
    module _ (octets : List ℕ) (names-f : dialogue_named octets ≡ Some f) (heard : HeardOf x octets invoke-told.past)
        (keeps : KeepsOf net other x invoke-told.past) where
      at : IsAt invoke-told.far heard.pair heard.before told_invoke.before
      at = stands-happens invoke-told.far heard.pair heard.before told_invoke.before
          (stands-before heard.pair invoke-told.sender heard.before invoke-told.past
          (side invoke-told.far told_invoke.before) heard.stands invoke-told.stands)

      abbrev first : Net
      first = earlier_net net told_invoke.before

      abbrev Sender : Message → Type 0
      Sender m = FarSender first invoke-told.far at.before heard.hears.from m

      from : (m : Message) → frame_at heard.hears.bytes ≡ Ok m → IsNoAbort m → Sender m
      from m e no_abort = far-sender first (net-before net is other told_invoke.pair told_invoke.before
          told_invoke.happens) invoke-told.far heard.pair at.before at.happens heard.hears.from heard.hears.bytes m
          heard.hears.is_event (frame_takes heard.hears.bytes m e) no_abort

      module _ (m : Message) (s : Sender m) where
        -- it heard of it from its engine
        back : s.far ≡ other
        back = is.are_apart s.far other heard.hears.from s.is_from
            (subst (λ (a : Address). IsTrue (is_at net.places other a))
            (heard-kept (net.start invoke-told.far) x octets invoke-told.past invoke-told.is_legal.2 heard) keeps)

        part : IsIn s.past (side other net.trace)
        part =
            in-in s.past (side other at.before) (side other net.trace)
            (stands-in s.sender s.past (side other at.before)
            (subst (λ (e : Engine). StandsIn s.sender s.past (side e at.before)) back s.stands))
            (in-in (side other at.before) (side other told_invoke.before) (side other net.trace)
            (happens-rest other invoke-told.far heard.pair at.before told_invoke.before at.happens)
            (happens-rest other other told_invoke.pair told_invoke.before net.trace told_invoke.happens))

        legal-there : AreReplies (net.start other) (s.sender ∷ s.past)
        legal-there = subst (λ (e : Engine). AreReplies (net.start e) (s.sender ∷ s.past)) back s.is_legal

        is-f : octets ≡ local_id s.sent.dialogue → s.sent.dialogue ≡ f
        is-f source =
            let sent_short = born-short (net.start other) s.past s.sent.dialogue (is.is_legal other).0 legal-there.2
            (λ unborn. let not : Life.standing s.sent.state s.sent.context ≡ Life.unborn =
            sym s.sent.is_life ∙ unborn in absurd cc) in
            let some : Some s.sent.dialogue ≡ Some f =
            sym (own-name s.sent.dialogue sent_short) ∙ (ap dialogue_named (sym source) ∙ names-f) in
            cc

      by-heard : IsFromHere
      by-heard = elim heard.hears.how [
        | inl begun ↦
            let b = begun.2 in
            let m : Message = Message.begin octets b.0 b.1 in
            let s : Sender m = from m b.2 tt in
            absurd (f-begins s.past s.sender s.to m (part m s) (legal-there m s) s.accepted tt s.sent
            (is-f m s s.sent.source))
        | inr continued ↦
            let c = continued.3 in
            let m : Message = Message.go_on octets c.0 c.1 c.2 in
            let s : Sender m = from m c.3 tt in
            let is_f : s.sent.dialogue ≡ f = is-f m s s.sent.source.0 in
            let has : HasPeer c.0 (life f s.past) =
            subst (λ (y : ℕ). HasPeer c.0 (life y s.past)) is_f
            (subst (HasPeer c.0) (sym s.sent.is_life) s.sent.source.1) in
            let to-d : c.0 ≡ local_id d = f-peer s.past c.0 (part m s) has in
            let goes : s.to ≡ kept_address f s.past =
            s.sent.to_kept c.0 refl ∙ ap (λ (y : ℕ). kept_address y s.past) is_f in
            let near : invoke-told.far ≡ engine =
            is.are_apart invoke-told.far engine s.to s.is_to
            (subst (λ (a : Address). IsTrue (is_at net.places engine a)) (sym goes)
            (f-kept s.past c.0 (part m s) has)) in
            let to-x : dialogue_named c.0 ≡ Some x =
            continue-names x heard.hears.from heard.hears.bytes octets c.0 c.2 c.1 continued.2 c.3 in
            let some : Some x ≡ Some d = sym to-x ∙ (ap dialogue_named to-d ∙ own-name d facing.is_short) in
            let same : x ≡ d = cc in
            (near, same)
      ]

    by-name : IsNamedBy invoke-told.told.bytes f → IsFromHere
    by-name named =
        let to = destined-octets f (destination invoke-told.told.message)
        (named-destined f invoke-told.told.bytes invoke-told.told.message invoke-told.told.spelled named) in
        by-heard to.0 to.2 (peer-heard x to.0 invoke-told.past
        (subst (IsPeered to.0) (sym invoke-told.sent.is_life) (invoke-told.sent.takes.to_peer to.0 to.1)))
        (subst (λ (a : Address). IsTrue (is_at net.places other a)) (invoke-told.sent.to_kept to.0 to.1)
        invoke-told.is_to)

    pub invoke-from : (invoke-told.far ≡ engine) × (invoke-told.sent.dialogue ≡ d)
    invoke-from = elim placed [ inl named ↦ by-name named | inr birth ↦ by-birth birth ]
