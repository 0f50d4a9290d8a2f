-- A dialogue that its user opened, or whose peer wasn't known once, was never begun by a message; one that a
-- Begin created keeps the address of its sender.
use Rattle.std.proofs.Common.{◌≡◌, ◌≢◌, ◌⊎◌, ℕ, ◌+◌, ◌<◌, ◌^◌, Bool, true, List, [], ◌∷◌, ◌++◌, Option, Some, None, Result, Ok, Err, refl, sym, ap, subst, ◌∙◌, inl, inr, arith, if◌then◌else◌}
use Rattle.std.proofs.lemmas.Bool.{eq-eqb}
use Rattle.tcap_pdu.specs.declared.fault.FrameFault.{FrameFault}
use Rattle.tcap_pdu.specs.FrameReading.{frame_at}
use Rattle.tcap_pdu.specs.FrameSpelling.{Message}
use Rattle.tcap_model.specs.Words.Address.{Address}
use Rattle.tcap_model.specs.Histories.Birth.{born_of, born_by, births, is_birth_of}
use Rattle.tcap_model.specs.Replies.Due.{birth_due}
use Rattle.tcap_model.specs.Words.Event.{Event}
use Rattle.tcap_model.specs.Histories.History.{Start}
use Rattle.tcap_model.specs.Histories.Kept.{kept_at_birth, kept_after, kept_address}
use Rattle.tcap_model.specs.Replies.Legal.{AreReplies}
use Rattle.tcap_model.specs.Histories.Life.{Life, life, life_at_birth, life_after, born_life, begun_life, touched}
use Rattle.tcap_model.specs.Words.LocalId.{is_that}
use Rattle.tcap_model.specs.Statements.Net.{Engine, side, Net, IsNet}
use Rattle.tcap_model.specs.Words.Answer.{Answer}
use Rattle.tcap_model.specs.Histories.Pair.{Pair, Past}
use Rattle.tcap_model.specs.Statements.Places.{StandsIn}
use Rattle.tcap_model.specs.Words.State.{State, peer_of}
use Rattle.tcap_model.specs.Statements.TwoEnds.{WasOpened}
use Rattle.tcap_laws.proofs.Births.DrawnDialogues.{pair-born, beyond-unborn, unborn-life}
use Rattle.tcap_laws.proofs.Births.BirthReplies.{IsBornNext, IsBirth}
use Rattle.tcap_laws.proofs.Peers.FarPeers.{HasPeer, peer-stays}
use Rattle.tcap_laws.proofs.Peers.FarSenders.{born-short}
use Rattle.tcap_laws.proofs.Births.Lives.{born-stays}
use Rattle.tcap_laws.proofs.Receptions.NamedReceptions.{that-is}
use Rattle.tcap_laws.proofs.Peers.OpenedApart.{NeverBegun}
use Rattle.tcap_laws.proofs.Receptions.ToldFromOctets.{legal-before}

-- ---- a birth

-- the Begin that created a dialogue
pub record IsBegun (dialogue : ℕ) (from : Address) (bytes : List ℕ) (pair : Pair) (past : Past) : Type 0 where
  pub origin : List ℕ
  pub portion : Option (List ℕ)
  pub components : List ℕ
  pub is_begin : frame_at bytes ≡ Ok (Message.begin origin portion components)
  pub has_peer : HasPeer origin (life dialogue (pair ∷ past))
  pub is_kept : kept_address dialogue (pair ∷ past) ≡ from

module _ (start : Start) (dialogue : ℕ) (pair : Pair) (past : Past) (legal : AreReplies start (pair ∷ past))
    (birth : is_birth_of dialogue pair ≡ true) where
  drawn : IsBirth (start.next_dialogue + births past) (birth_due (record { start = start; pairs = past }))
      (Some dialogue) (born_life pair.event)
  drawn = elim (subst (λ (born : Option ℕ). IsBornNext (start.next_dialogue + births past)
      (birth_due (record { start = start; pairs = past })) born (born_life pair.event))
      (that-is dialogue (born_by pair) birth) (pair-born start pair past legal)) [
        | inl none ↦ absurd cc
        | inr is ↦ is
      ]

  pub birth-unborn : life dialogue past ≡ Life.unborn
  birth-unborn =
      let some = drawn.is_next in
      let next : dialogue ≡ start.next_dialogue + births past = cc in
      unborn-life dialogue past (beyond-unborn start past legal.2 dialogue (omega (arith, next)))

  pub birth-life : life dialogue (pair ∷ past) ≡ born_life pair.event
  birth-life = ap (λ (l : Life). life_after dialogue (touched dialogue past) l pair) birth-unborn
      ∙ ap (λ (b : Bool). life_at_birth b pair.event) birth

  birth-kept : (from : Address) (bytes : List ℕ) → pair.event ≡ Event.received from bytes
      → kept_address dialogue (pair ∷ past) ≡ from
  birth-kept from bytes is =
      let kept : Address = kept_address dialogue past in
      ap (λ (l : Life). kept_after dialogue l kept pair) birth-unborn
      ∙ (ap (λ (b : Bool). if b then kept_at_birth pair.event else kept) birth ∙ ap kept_at_birth is)

  pub birth-begun : (from : Address) (bytes : List ℕ) → pair.event ≡ Event.received from bytes
      → IsBegun dialogue from bytes pair past
  birth-begun from bytes is = begun (frame_at bytes) refl (sym (ap born_life is) ∙ drawn.is_life)
    where
      begun : (read : Result Message FrameFault) → frame_at bytes ≡ read
          → begun_life read ≡ Life.standing drawn.state drawn.context → IsBegun dialogue from bytes pair past
      begun (Ok (Message.begin origin portion components)) e made = record {
        origin = origin;
        portion = portion;
        components = components;
        is_begin = e;
        has_peer = subst (HasPeer origin) (sym (birth-life ∙ (ap born_life is ∙ ap begun_life e))) refl;
        is_kept = birth-kept from bytes is;
      }
      begun (Ok (Message.unidirectional portion components)) e made = absurd cc
      begun (Ok (Message.end to portion components)) e made = absurd cc
      begun (Ok (Message.go_on origin to portion components)) e made = absurd cc
      begun (Ok (Message.abort to reason)) e made = absurd cc
      begun (Err fault) e made = absurd cc

-- ---- never begun

-- not up to where its peer isn't known
never-yet : (start : Start) (dialogue : ℕ) (past : Past) (state : State) (context : Option (List ℕ))
    → AreReplies start past → life dialogue past ≡ Life.standing state context → peer_of state ≡ None
    → NeverBegun dialogue past
never-yet start dialogue past state context legal lives unknown pair before from bytes stands is birth =
    let whole = subst (AreReplies start) stands.is_past legal in
    let begun = birth-begun start dialogue pair before (legal-before start stands.later (pair ∷ before) whole) birth
    from bytes is in
    let has : HasPeer begun.origin (life dialogue (stands.later ++ pair ∷ before)) =
    peer-stays start dialogue begun.origin stands.later (pair ∷ before) whole begun.has_peer in
    let known : peer_of state ≡ Some begun.origin =
    subst (HasPeer begun.origin) (ap (life dialogue) (sym stands.is_past) ∙ lives) has in
    absurd cc

-- a pair is the last one, or stands before it
first-or : (last pair : Pair) (rest before l : Past) → last ∷ rest ≡ l ++ pair ∷ before
    → (last ≡ pair) ⊎ StandsIn pair before rest
first-or last pair rest before [] e = let first : last ≡ pair = cc in inl first
first-or last pair rest before (p ∷ l) e = let others : rest ≡ l ++ pair ∷ before =
    cc in inr (record { later = l; is_past = others })

-- nor after that
never-after : (start : Start) (dialogue : ℕ) (later past : Past) → AreReplies start (later ++ past)
    → life dialogue past ≢ Life.unborn → NeverBegun dialogue past → NeverBegun dialogue (later ++ past)
never-after start dialogue [] past legal born never pair before from bytes stands is birth =
    never pair before from bytes stands is birth
never-after start dialogue (last ∷ later) past legal born never pair before from bytes stands is birth =
    elim (first-or last pair (later ++ past) before stands.later stands.is_past) [
      | inl first ↦ born-stays dialogue later past born
          (birth-unborn start dialogue last (later ++ past) legal (ap (is_birth_of dialogue) first ∙ birth))
      | inr others ↦ never-after start dialogue later past legal.2 born never pair before from bytes others is birth
    ]

pub never-begun : (start : Start) (dialogue : ℕ) (later past : Past) (state : State) (context : Option (List ℕ))
    → AreReplies start (later ++ past) → life dialogue past ≡ Life.standing state context → peer_of state ≡ None
    → NeverBegun dialogue (later ++ past)
never-begun start dialogue later past state context legal lives unknown =
    never-after start dialogue later past legal (λ unborn. let never : Life.standing state context ≡ Life.unborn =
    sym lives ∙ unborn in absurd cc)
    (never-yet start dialogue past state context (legal-before start later past legal) lives unknown)

-- ---- opened by its user

module _ (net : Net) (is : IsNet net) (engine : Engine) (dialogue : ℕ) (opened : WasOpened engine dialogue net.trace)
  where
    whole : AreReplies (net.start engine) (opened.stands.later ++ opened.pair ∷ opened.before)
    whole = subst (AreReplies (net.start engine)) opened.stands.is_past (is.is_legal engine).1

    here : AreReplies (net.start engine) (opened.pair ∷ opened.before)
    here = legal-before (net.start engine) opened.stands.later (opened.pair ∷ opened.before) whole

    lives-fresh : life dialogue (opened.pair ∷ opened.before) ≡ Life.standing State.fresh None
    lives-fresh =
        let born : is_birth_of dialogue opened.pair ≡ true =
        ap (λ (e : Event). is_that dialogue (born_of e opened.pair.answer)) opened.is_event
        ∙ (ap (λ (a : Answer). is_that dialogue (born_of Event.new_dialogue a)) opened.is_answer
        ∙ eq-eqb dialogue dialogue refl) in
        birth-life (net.start engine) dialogue opened.pair opened.before here born ∙ ap born_life opened.is_event

    pub opened-never : NeverBegun dialogue (side engine net.trace)
    opened-never = subst (NeverBegun dialogue) (sym opened.stands.is_past)
        (never-begun (net.start engine) dialogue opened.stands.later (opened.pair ∷ opened.before) State.fresh None whole
        lives-fresh refl)

    pub opened-short : dialogue < 2 ^ 32
    opened-short = born-short (net.start engine) (opened.pair ∷ opened.before) dialogue (is.is_legal engine).0 here
        (λ unborn. let never : Life.standing State.fresh None ≡ Life.unborn = sym lives-fresh ∙ unborn in absurd cc)
