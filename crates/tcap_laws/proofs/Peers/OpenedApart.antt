-- Of two dialogues that both were opened by their users neither is the other's peer, where the address that
-- the one keeps is the other's.
use Rattle.std.proofs.Common.{◌≡◌, ℕ, zero, suc, ◌<◌, ◌≤◌, Bool, true, false, List, [], ◌∷◌, ◌++◌, length, Option, Some, Ok, refl, sym, ap, subst, ◌∙◌, inl, inr, arith, nat_le, length-append, append_assoc, ◌^◌, IsTrue}
use Rattle.std.proofs.lemmas.Nat.{from_be_bytes-to_be_bytes_4}
use Rattle.tcap_pdu.specs.FrameReading.{frame_at}
use Rattle.tcap_pdu.specs.FrameSpelling.{Message}
use Rattle.tcap_pdu.specs.FrameWritten.{message_limit}
use Rattle.tcap_pdu.proofs.CallerLemmas.{frame_takes}
use Rattle.tcap_model.specs.Words.Address.{Address}
use Rattle.tcap_model.specs.Histories.Birth.{is_birth_of}
use Rattle.tcap_model.specs.Procedures.Destination.{destination_by, destination_of}
use Rattle.tcap_model.specs.Words.Event.{Event}
use Rattle.tcap_model.specs.Histories.Kept.{kept_address}
use Rattle.tcap_model.specs.Histories.Life.{Life, life}
use Rattle.tcap_model.specs.Words.LocalId.{dialogue_named, local_id}
use Rattle.tcap_model.specs.Histories.Names.{is_destined, named_within, names}
use Rattle.tcap_model.specs.Statements.Net.{Engine, Marked, Trace, side, Places, is_at, Net, IsNet, IsCarried}
use Rattle.tcap_model.specs.Histories.Pair.{Pair, Past}
use Rattle.tcap_model.specs.Statements.Places.{StandsIn}
use Rattle.tcap_model.specs.Words.State.{State, peer_of}
use Rattle.tcap_model.specs.Statements.FarAnswer.{Happens}
use Rattle.tcap_laws.proofs.Peers.CarriedComponents.{legal-there}
use Rattle.tcap_laws.proofs.Peers.FarSenders.{FarSender, far-sender, born-short}
use Rattle.tcap_laws.proofs.Peers.HeardPeers.{IsPeered, peer-heard, heard-kept}
use Rattle.tcap_laws.proofs.Receptions.NamedReceptions.{that-is}
use Rattle.tcap_laws.proofs.Peers.NetPlaces.{happens-rest, stands-happens}

-- ---- what came before is a net

carried-rest : (places : Places) (later : Trace) (m : Marked) (before : Trace)
    → IsCarried places (later ++ m ∷ before) → IsCarried places before
carried-rest places [] m before all = all.1
carried-rest places (other ∷ later) m before all = carried-rest places later m before all.1

-- what happened before something, between the same engines
abbrev pub earlier_net : Net → Trace → Net
earlier_net net before = record { start = net.start; places = net.places; trace = before }

pub net-before : (net : Net) → IsNet net → (engine : Engine) (pair : Pair) (before : Trace)
    → Happens engine pair before net.trace → IsNet (earlier_net net before)
net-before net is engine pair before happens = record {
  is_legal = λ other. ((is.is_legal other).0, legal-there net is engine pair before happens other);
  are_apart = is.are_apart;
  is_carried = carried-rest net.places happens.later (record { engine = engine; pair = pair }) before
      (subst (IsCarried net.places) happens.is_trace is.is_carried);
}

shorter : (engine : Engine) (pair : Pair) (before trace : Trace) → Happens engine pair before trace
    → length before < length trace
shorter engine pair before trace happens =
    let whole = ap length happens.is_trace in
    let parts = length-append happens.later (record { engine = engine; pair = pair } ∷ before) in
    omega (arith, whole, parts)

-- ---- names of dialogues

pub own-name : (dialogue : ℕ) → dialogue < 2 ^ 32 → dialogue_named (local_id dialogue) ≡ Some dialogue
own-name dialogue short = ap (λ (d : ℕ). Some d) (from_be_bytes-to_be_bytes_4 dialogue short)

pub continue-names : (dialogue : ℕ) (from : Address) (bytes origin to components : List ℕ)
    (portion : Option (List ℕ)) → names (Event.received from bytes) dialogue ≡ true
    → frame_at bytes ≡ Ok (Message.go_on origin to portion components)
    → dialogue_named to ≡ Some dialogue
continue-names dialogue from bytes origin to components portion named read =
    that-is dialogue (dialogue_named to) (ap (λ r. is_destined dialogue (destination_by bytes r)) (sym read)
    ∙ within (nat_le (length bytes) message_limit) named)
  where
    within : (short : Bool) → named_within short dialogue bytes ≡ true
        → is_destined dialogue (destination_of bytes) ≡ true
    within true e = e
    within false e = absurd cc

-- ---- opened on both sides

-- no message of the peer created the dialogue
abbrev pub NeverBegun : ℕ → Past → Type 0
NeverBegun dialogue past =
    (pair : Pair) (before : Past) (from : Address) (bytes : List ℕ) → StandsIn pair before past
    → pair.event ≡ Event.received from bytes → is_birth_of dialogue pair ≡ true → ⊥

pub never-before : (dialogue : ℕ) (other engine : Engine) (pair : Pair) (before trace : Trace)
    → Happens engine pair before trace → NeverBegun dialogue (side other trace)
    → NeverBegun dialogue (side other before)
never-before dialogue other engine pair before trace happens never asked past from bytes stands =
    let rest = happens-rest other engine pair before trace happens in
    never asked past from bytes (record {
      later = rest.0 ++ stands.later;
      is_past =
          rest.1 ∙ (ap (λ (p : Past). rest.0 ++ p) stands.is_past ∙ sym (append_assoc rest.0 stands.later (asked ∷ past)));
    })

-- a dialogue of an engine keeps an address of this one
abbrev pub KeepsOf : Net → Engine → ℕ → Past → Type 0
KeepsOf net engine dialogue past = IsTrue (is_at net.places engine (kept_address dialogue past))

-- a dialogue of each engine that no Begin created, and the other's has this one's identifier as its
-- peer's and keeps an address of this one's engine: it never is so
pub record BothOpened (net : Net) (engine other : Engine) (c d : ℕ) (peer : List ℕ) : Type 0 where
  pub is_named : dialogue_named peer ≡ Some c
  pub never_here : NeverBegun c (side engine net.trace)
  pub never_there : NeverBegun d (side other net.trace)
  pub is_peered : IsPeered peer (life d (side other net.trace))
  pub is_kept : KeepsOf net engine d (side other net.trace)

-- what a dialogue of this engine is that sent a message to its peer: at the place where it did
sender-keeps : (net : Net) (far engine other : Engine) (trace : Trace) (past : Past) (x c : ℕ) (peer : List ℕ)
    (state : State) (context : Option (List ℕ)) (to : Address) → far ≡ engine → side far trace ≡ past → x ≡ c
    → life x past ≡ Life.standing state context → peer_of state ≡ Some peer → to ≡ kept_address x past
    → IsTrue (is_at net.places other to)
    → IsPeered peer (life c (side engine trace)) × KeepsOf net other c (side engine trace)
sender-keeps net far engine other trace past x c peer state context to is_far is_side same lives known goes is_to =
    let there : past ≡ side engine trace = sym is_side ∙ ap (λ (e : Engine). side e trace) is_far in
    let peered : IsPeered peer (life x past) = subst (IsPeered peer) (sym lives) known in
    let keeps : KeepsOf net other x past = subst (λ (a : Address). IsTrue (is_at net.places other a)) goes is_to in
    subst (λ (p : Past). IsPeered peer (life c p) × KeepsOf net other c p) there
    (subst (λ (d : ℕ). IsPeered peer (life d past) × KeepsOf net other d past) same (peered, keeps))

-- the step: where it holds of all that is shorter
module _ (n : ℕ) (net : Net) (is : IsNet net) (engine other : Engine) (c d : ℕ) (within : length net.trace ≤ n) where
  step-peers : (peer : List ℕ) →
      ((trace : Trace) (to : List ℕ) → IsNet (earlier_net net trace) → length trace < n →
      BothOpened (earlier_net net trace) other engine d c to → ⊥) →
      BothOpened net engine other c d peer → ⊥
  step-peers peer again opened =
      let heard = peer-heard d peer (side other net.trace) opened.is_peered in
      let hears = heard.hears in
      let at = stands-happens other heard.pair heard.before net.trace heard.stands in
      let is_here : IsTrue (is_at net.places engine hears.from) =
      subst (λ (a : Address). IsTrue (is_at net.places engine a))
      (heard-kept (net.start other) d peer (side other net.trace) (is.is_legal other).1 heard) opened.is_kept in
      elim hears.how [
        | inl begun ↦
            opened.never_there heard.pair heard.before hears.from hears.bytes heard.stands hears.is_event begun.1
        | inr continued ↦
            let hears_it = continued.3 in
            let m : Message = Message.go_on peer hears_it.0 hears_it.1 hears_it.2 in
            let from : FarSender net other at.before hears.from m =
            far-sender net is other heard.pair at.before at.happens hears.from hears.bytes m hears.is_event
            (frame_takes hears.bytes m hears_it.3) tt in
            let back : from.far ≡ engine = is.are_apart from.far engine hears.from from.is_from is_here in
            let sent = from.sent in
            let short = born-short (net.start from.far) from.past sent.dialogue (is.is_legal from.far).0
            from.is_legal.2 (λ unborn. let never : Life.standing sent.state sent.context ≡ Life.unborn =
            sym sent.is_life ∙ unborn in absurd cc) in
            let same_name : Some sent.dialogue ≡ Some c =
            sym (own-name sent.dialogue short) ∙ (ap dialogue_named (sym sent.source.0) ∙ opened.is_named) in
            let same : sent.dialogue ≡ c = cc in
            let to_d = continue-names d hears.from hears.bytes peer hears_it.0 hears_it.2 hears_it.1 continued.2
            hears_it.3 in
            let before-it = stands-happens from.far from.sender from.past at.before from.stands in
            let first_is : IsNet (earlier_net net at.before) = net-before net is other heard.pair at.before at.happens in
            let second_is = net-before (earlier_net net at.before) first_is from.far from.sender before-it.before
            before-it.happens in
            let less = shorter other heard.pair at.before net.trace at.happens in
            let lesser = shorter from.far from.sender before-it.before at.before before-it.happens in
            let there = sender-keeps net from.far engine other before-it.before from.past sent.dialogue c hears_it.0
            sent.state sent.context from.to back before-it.is_side same sent.is_life sent.source.1
            (sent.to_kept hears_it.0 refl) from.is_to in
            again before-it.before hears_it.0 second_is (omega (arith, within, less, lesser)) (record {
              is_named = to_d;
              never_here = never-before d other from.far from.sender before-it.before at.before before-it.happens
                  (never-before d other other heard.pair at.before net.trace at.happens opened.never_there);
              never_there = never-before c engine from.far from.sender before-it.before at.before before-it.happens
                  (never-before c engine other heard.pair at.before net.trace at.happens opened.never_here);
              is_peered = there.0;
              is_kept = there.1;
            })
      ]

pub never-peers : (n : ℕ) (net : Net) → IsNet net → (engine other : Engine) (c d : ℕ) (peer : List ℕ)
    → length net.trace ≤ n → BothOpened net engine other c d peer → ⊥
never-peers zero net is engine other c d peer within =
    step-peers zero net is engine other c d within peer (λ trace to net_is less. absurd (omega (arith, less)))
never-peers (suc n) net is engine other c d peer within =
    step-peers (suc n) net is engine other c d within peer
    (λ trace to net_is less. never-peers n (earlier_net net trace) net_is other engine d c to (omega (arith, less)))
