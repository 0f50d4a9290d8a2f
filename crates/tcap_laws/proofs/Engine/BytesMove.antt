-- Received bytes move the engine as the history says.
use Rattle.std.proofs.Common.{◌≡◌, ℕ, Bool, true, false, nat_eq, List, [], ◌∷◌, is_some, Option, Some}
use Rattle.std.proofs.Common.{None, Result, Ok, Err, refl, sym, ap, subst, ◌∙◌}
use Rattle.std.proofs.lemmas.Bool.{eq-eqb, true≢false}
use Rattle.tcap_component.specs.ComponentReading.{components_of}
use Rattle.tcap_laws.proofs.Births.BirthReplies.{told-begun, sent_first-begun, taken-begun}
use Rattle.tcap_laws.proofs.Engine.DialoguesFound.{looked-up, live-alike, births-alike}
use Rattle.tcap_laws.proofs.Engine.ReceptionsAlike.{reception-alike}
use Rattle.tcap_laws.proofs.Engine.RequestsMove.{dialogue-moves}
use Rattle.tcap_laws.proofs.Engine.StayingDialogues.{deaf-stays}
use Rattle.tcap_laws.proofs.Engine.WorldAfter.{here, before, later, each-stays, moved-made, none-born, next-kept}
use Rattle.tcap_laws.proofs.Engine.WorldAfter.{dialogues-kept, world-stays, world-born}
use Rattle.tcap_laws.proofs.Receptions.NamedReceptions.{IsNamed, named-taken, named-broken, reception-named}
use Rattle.tcap_laws.proofs.Receptions.SoundReceptions.{IsSound, reception-sound}
use Rattle.tcap_laws.proofs.Receptions.ToldOutputKinds.{uni-told, ended-told}
use Rattle.tcap_laws.proofs.Table.BegunAlike.{begun-answered, begun-born}
use Rattle.tcap_laws.proofs.Table.EndMessagesAlike.{end-answered}
use Rattle.tcap_laws.proofs.Table.LastAnswersAlike.{abort-agrees, continue-agrees, fault-agrees}
use Rattle.tcap_laws.proofs.Table.MessagesMovedAlike.{by_life, taken-moves, broken-moves}
use Rattle.tcap_laws.proofs.Table.OtherDialogues.{unnamed-stays}
use Rattle.tcap_laws.proofs.Table.RequestsJudgedAlike.{standing_dialogue}
use Rattle.tcap_model.specs.Histories.Birth.{born_by, born_of, next_dialogue}
use Rattle.tcap_model.specs.Histories.History.{History}
use Rattle.tcap_model.specs.Histories.Life.{Life, life, live_in}
use Rattle.tcap_model.specs.Histories.Names.{names}
use Rattle.tcap_model.specs.Procedures.ComponentHandling.{uni_told}
use Rattle.tcap_model.specs.Procedures.Reception.{Reception, reception}
use Rattle.tcap_model.specs.Replies.Due.{birth_due}
use Rattle.tcap_model.specs.Replies.Legal.{IsLegal}
use Rattle.tcap_model.specs.Replies.Reply.{ended_in, reception_outputs, reply, taken_outputs}
use Rattle.tcap_model.specs.Statements.EngineMoves.{moved_at}
use Rattle.tcap_model.specs.Table.Agreement.{setting_at}
use Rattle.tcap_model.specs.Table.Dialogue.{Dialogue}
use Rattle.tcap_model.specs.Table.EngineMove.{birth_fault_in, is_live_in, reached_in, received_in, told_first, sending_first}
use Rattle.tcap_model.specs.Table.TableMove.{DialogueEvent, Moved, born, table_move}
use Rattle.tcap_model.specs.Table.World.{dialogue_by, world_of}
use Rattle.tcap_model.specs.Words.Answer.{Answer}
use Rattle.tcap_model.specs.Words.Event.{Event}
use Rattle.tcap_model.specs.Words.Output.{AbortCause, DialogueIndication, Output}
use Rattle.tcap_model.specs.Words.State.{is_live}
use Rattle.tcap_pdu.specs.declared.fault.FrameFault.{FrameFault}
use Rattle.tcap_pdu.specs.FrameReading.{frame_at}
use Rattle.tcap_pdu.specs.FrameSpelling.{Message}
use Rattle.tcap_model.specs.Words.Address.{Address}
use Rattle.tcap_model.specs.Procedures.AbortRules.{sent_if_any}

-- the dialogue that bytes reach
abbrev reaches : Reception → Option ℕ
reaches (Reception.dropped why) = None
reaches (Reception.aborted aborting) = None
reaches (Reception.unidirectional context info components) = None
reaches (Reception.begun origin context info components) = None
reaches (Reception.taken dialogue message) = Some dialogue
reaches (Reception.broken dialogue aborting cause) = Some dialogue

module _ (h : History) (legal : IsLegal h) where
  -- ---- what a dialogue that takes a message answers

  nothing_taken : (dialogue : ℕ) (l : Life) (from : Address) (portion : Option (List ℕ)) (components : List ℕ)
      → taken_outputs dialogue h.pairs l from (Message.unidirectional portion components) ≡ []
  nothing_taken dialogue Life.unborn from portion components = refl
  nothing_taken dialogue (Life.standing state context) from portion components = refl
  nothing_taken dialogue Life.over from portion components = refl

  nothing_begun : (dialogue : ℕ) (l : Life) (from : Address) (origin : List ℕ) (portion : Option (List ℕ))
      (components : List ℕ)
      → taken_outputs dialogue h.pairs l from (Message.begin origin portion components) ≡ []
  nothing_begun dialogue Life.unborn from origin portion components = refl
  nothing_begun dialogue (Life.standing state context) from origin portion components = refl
  nothing_begun dialogue Life.over from origin portion components = refl

  message_answers : (dialogue : ℕ) (d : Dialogue) (from : Address) (m : Message)
      → dialogue_by h.start.reject_ms h.start.idle_ms dialogue h.pairs (life dialogue h.pairs) ≡ Some d
      → (table_move (setting_at h) d (DialogueEvent.frame from m)).answer ≡ Answer.outputs
      (taken_outputs dialogue h.pairs (life dialogue h.pairs) from m)
  unfolding table_move
  message_answers dialogue d from (Message.unidirectional portion components) e =
      ap Answer.outputs (sym (nothing_taken dialogue (life dialogue h.pairs) from portion components))
  message_answers dialogue d from (Message.begin origin portion components) e =
      ap Answer.outputs (sym (nothing_begun dialogue (life dialogue h.pairs) from origin portion components))
  message_answers dialogue d from (Message.go_on origin to portion components) e =
      continue-agrees h dialogue legal d from origin to portion components e
  message_answers dialogue d from (Message.end to portion components) e =
      end-answered h dialogue legal d from to portion components e
  message_answers dialogue d from (Message.abort to reason) e = abort-agrees h dialogue legal d from to reason e

  -- ---- the dialogues that are live

  stands : (i : ℕ) (l : Life) → live_in l ≡ true → (d : Dialogue)
      × (dialogue_by h.start.reject_ms h.start.idle_ms i h.pairs l ≡ Some d) × (is_live d.standing.state ≡ true)
  stands i Life.unborn e = absurd (true≢false (sym e))
  stands i (Life.standing state context) e = (standing_dialogue h i state context, refl, e)
  stands i Life.over e = absurd (true≢false (sym e))

  module _ (from : Address) (bytes : List ℕ) where
    abbrev event : Event
    event = Event.received from bytes

    abbrev live : ℕ → Bool
    live dialogue = live_in (life dialogue h.pairs)

    abbrev full : Bool
    full = is_some (birth_due h)

    reached : (i : ℕ) → names event i ≡ true → live i ≡ true → reaches (reception live full bytes) ≡ Some i
    reached i named lives = go (frame_at bytes) refl
      where
        go : (read : Result Message FrameFault) → frame_at bytes ≡ read → reaches (reception live full bytes) ≡ Some i
        go (Ok m) e = ap reaches (named-taken live full i bytes named lives m e)
        go (Err f) e = ap reaches (named-broken live full i bytes named lives f e)

    module _ (r : Reception) (e : reception live full bytes ≡ r) where
      answered : reply h event ≡ Answer.outputs (reception_outputs h from r)
      answered = ap (λ z. Answer.outputs (reception_outputs h from z)) e

      -- all that aren't reached stay
      stays : (i : ℕ) (d : Dialogue) → before h event i ≡ Some d → (reaches r ≡ Some i → ⊥) → later h event i ≡ Some d
      stays i d there apart = go (names event i) refl (is_live d.standing.state) refl
        where
          alive : live i ≡ is_live d.standing.state
          alive = by_life (λ d. live i ≡ is_live d.standing.state) h i d (λ state context q. ap live_in q) there

          go : (n : Bool) → names event i ≡ n → (l : Bool) → is_live d.standing.state ≡ l → later h event i ≡ Some d
          go false p l q = unnamed-stays h i d event legal there p
          go true p false q = deaf-stays h i d from bytes legal there p q
          go true p true q = absurd (apart (sym (ap reaches e) ∙ reached i p (alive ∙ q)))

      others : born_by (here h event) ≡ None → (dialogue : ℕ) → reaches r ≡ Some dialogue → (i : ℕ)
          → nat_eq dialogue i ≡ false → later h event i ≡ before h event i
      others none dialogue reach i other =
          each-stays h event i (none-born h event none i) (λ x there. stays i x there apart)
        where
          apart : reaches r ≡ Some i → ⊥
          apart same =
              let is : dialogue ≡ i = inside dialogue i (sym reach ∙ same) in true≢false
              (sym (eq-eqb dialogue i is) ∙ other)
            where
              inside : (x y : ℕ) → Some x ≡ Some y → x ≡ y
              inside x y q = cc

      -- bytes that reach none
      none_moves : reaches r ≡ None → born_of event (Answer.outputs (reception_outputs h from r)) ≡ None
          → record { answer = Answer.outputs (reception_outputs h from r); after = world_of h } ≡ moved_at h event
      none_moves none unborn =
          moved-made h event (Answer.outputs (reception_outputs h from r)) (world_of h) (sym answered)
          (world-stays h event (ap (born_of event) answered ∙ unborn) refl refl
          (λ i d there. stays i d there (λ some. let never : None ≡ Some i = sym none ∙ some in absurd cc)))

    -- a message that a dialogue takes
    taken_moves : (dialogue : ℕ) (m : Message) → reception live full bytes ≡ Reception.taken dialogue m
        → received_in (world_of h) from (Reception.taken dialogue m) ≡ moved_at h event
    taken_moves dialogue m e =
        let reached_it : IsNamed live bytes (Reception.taken dialogue m) =
        subst (λ (z : Reception). IsNamed live bytes z) e (reception-named live full bytes) in
        let it = stands dialogue (life dialogue h.pairs) reached_it.1 in
        let none : born_by (here h event) ≡ None =
        ap (born_of event) (answered (Reception.taken dialogue m) e)
        ∙ taken-begun dialogue h.pairs (life dialogue h.pairs) from m in
        ap (reached_in (world_of h) dialogue [] (DialogueEvent.frame from m))
        (looked-up h legal dialogue (Some it.0) it.1)
        ∙ dialogue-moves h event dialogue it.0 it.1
        (sending_first [] (table_move (setting_at h) it.0 (DialogueEvent.frame from m)))
        (ap (told_first []) (message_answers dialogue it.0 from m it.1) ∙ sym (answered (Reception.taken dialogue m) e))
        (next-kept h event none) refl (dialogues-kept h event none)
        (taken-moves h dialogue it.0 from bytes m legal it.1 reached_it.0 it.2 reached_it.2)
        (others (Reception.taken dialogue m) e none dialogue refl)

    -- a faulty message that ends a dialogue
    broken_moves : (dialogue : ℕ) (aborting : Option Message) (cause : ℕ)
        → reception live full bytes ≡ Reception.broken dialogue aborting cause
        → received_in (world_of h) from (Reception.broken dialogue aborting cause) ≡ moved_at h event
    broken_moves dialogue aborting cause e =
        let reached_it : IsNamed live bytes (Reception.broken dialogue aborting cause) =
        subst (λ (z : Reception). IsNamed live bytes z) e (reception-named live full bytes) in
        let it = stands dialogue (life dialogue h.pairs) reached_it.1 in
        let none : born_by (here h event) ≡ None =
        ap (born_of event) (answered (Reception.broken dialogue aborting cause) e)
        ∙ sent_first-begun from aborting (Output.dialogue (DialogueIndication.p_abort dialogue (AbortCause.cause cause))
        ∷ ended_in dialogue h.pairs [])
        (told-begun (ended_in dialogue h.pairs []) (ended-told dialogue h.pairs [])) in
        ap (reached_in (world_of h) dialogue (sent_if_any from aborting) (DialogueEvent.fault cause))
        (looked-up h legal dialogue (Some it.0) it.1)
        ∙ dialogue-moves h event dialogue it.0 it.1
        (sending_first (sent_if_any from aborting) (table_move (setting_at h) it.0 (DialogueEvent.fault cause)))
        (ap (told_first (sent_if_any from aborting)) (fault-agrees h dialogue legal it.0 cause it.1)
        ∙ sym (answered (Reception.broken dialogue aborting cause) e))
        (next-kept h event none) refl (dialogues-kept h event none)
        (broken-moves h dialogue it.0 from bytes reached_it.2 cause legal it.1 reached_it.0 it.2 reached_it.3)
        (others (Reception.broken dialogue aborting cause) e none dialogue refl)

    -- a Begin that is accepted
    begun_moves : (origin : List ℕ) (context : Option (List ℕ)) (info components : List ℕ)
        → reception live full bytes ≡ Reception.begun origin context info components
        → received_in (world_of h) from (Reception.begun origin context info components) ≡ moved_at h event
    begun_moves origin context info components e =
        let sound : IsSound full bytes (Reception.begun origin context info components) =
        subst (λ (z : Reception). IsSound full bytes z) e (reception-sound live full bytes) in
        let m : Moved =
        born (setting_at h) (next_dialogue h) h.start.reject_ms h.start.idle_ms from origin context info components in
        moved-made h event m.answer
        (received_in (world_of h) from (Reception.begun origin context info components)).after
        (begun-answered h legal from bytes origin context info components e)
        (world-born h event legal (ap (born_of event)
        (answered (Reception.begun origin context info components) e)) m.after refl refl
        (begun-born h legal from bytes origin context info components e sound.0 sound.1)
        (λ i d there. stays (Reception.begun origin context info components) e i d there (λ some. absurd cc)))

    by_reception : (r : Reception) → reception live full bytes ≡ r → received_in (world_of h) from r ≡ moved_at h event
    by_reception (Reception.dropped why) e = none_moves (Reception.dropped why) e refl refl
    by_reception (Reception.aborted aborting) e = none_moves (Reception.aborted aborting) e refl refl
    by_reception (Reception.unidirectional context info components) e =
        none_moves (Reception.unidirectional context info components) e refl
        (told-begun (uni_told (components_of components)) (uni-told (components_of components)))
    by_reception (Reception.begun origin context info components) e = begun_moves origin context info components e
    by_reception (Reception.taken dialogue m) e = taken_moves dialogue m e
    by_reception (Reception.broken dialogue aborting cause) e = broken_moves dialogue aborting cause e

    pub bytes-move : received_in (world_of h) from
        (reception (is_live_in (world_of h).dialogues) (is_some (birth_fault_in (world_of h))) bytes) ≡ moved_at h event
    bytes-move =
        ap (received_in (world_of h) from)
        (reception-alike (is_live_in (world_of h).dialogues) live (live-alike h legal)
        (is_some (birth_fault_in (world_of h))) bytes
        ∙ ap (λ f. reception live (is_some f) bytes) (births-alike h))
        ∙ by_reception (reception live full bytes) refl
