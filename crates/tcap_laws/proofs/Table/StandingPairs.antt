-- What a dialogue that stands is after an event that names it.
use Rattle.std.proofs.Common.{◌≡◌, ℕ, ◌+◌, ◌≤◌, ◌&&◌, Bool, true, false, cond, List, ◌∷◌, Option, Some, refl, ap, sym, ◌∙◌, arith}
use Rattle.tcap_invocation.specs.Invocations.{Row}
use Rattle.tcap_laws.proofs.Births.DrawnDialogues.{dialogue-next, beyond-unborn, unborn-life}
use Rattle.tcap_laws.proofs.Receptions.NamedReceptions.{that-is}
use Rattle.tcap_model.specs.Table.Agreement.{due_pair}
use Rattle.tcap_model.specs.Words.Answer.{is_accepted}
use Rattle.tcap_model.specs.Histories.Birth.{born_of, is_birth_of, births, next_dialogue}
use Rattle.tcap_model.specs.Table.Dialogue.{Dialogue}
use Rattle.tcap_model.specs.Words.Event.{Event}
use Rattle.tcap_model.specs.Histories.History.{History}
use Rattle.tcap_model.specs.Replies.Legal.{IsLegal}
use Rattle.tcap_model.specs.Histories.Clock.{clock}
use Rattle.tcap_model.specs.Histories.Life.{Life, life, touched, life_after, life_by_event, life_if_named, touches, touches_as_event}
use Rattle.tcap_model.specs.Histories.Names.{names}
use Rattle.tcap_model.specs.Histories.Pair.{Pair}
use Rattle.tcap_model.specs.Replies.Queue.{queue, queue_by_event, queue_born}
use Rattle.tcap_model.specs.Procedures.QueueRules.{Queued}
use Rattle.tcap_model.specs.Replies.Reply.{reply}
use Rattle.tcap_model.specs.Words.State.{State}
use Rattle.tcap_model.specs.Table.World.{dialogue_at, dialogue_by, rows_of}
use Rattle.tcap_model.specs.Words.Address.{Address}
use Rattle.tcap_model.specs.Histories.Kept.{kept_address, kept_after, kept_by_event}

module _ (h : History) (dialogue : ℕ) (legal : IsLegal h) (state : State) (context : Option (List ℕ))
    (stands : life dialogue h.pairs ≡ Life.standing state context) (event : Event) where
  abbrev pub here : Pair
  here = due_pair h event

  -- a dialogue that stands isn't born
  pub not_born : is_birth_of dialogue here ≡ false
  not_born = go (is_birth_of dialogue here) refl
    where
      go : (b : Bool) → is_birth_of dialogue here ≡ b → is_birth_of dialogue here ≡ false
      go false e = e
      go true e =
          let next : dialogue ≡ next_dialogue h =
          dialogue-next h event dialogue (that-is dialogue (born_of event (reply h event)) e) in
          let beyond : h.start.next_dialogue + births h.pairs ≤ dialogue = omega arith in
          let unborn : life dialogue h.pairs ≡ Life.unborn =
          unborn-life dialogue h.pairs (beyond-unborn h.start h.pairs legal.1 dialogue beyond) in
          let never : Life.unborn ≡ Life.standing state context = sym unborn ∙ stands in
          absurd cc

  -- the clock at its last activity
  abbrev pub last : ℕ
  last = touched dialogue h.pairs

  -- the dialogue after the event, by its life then
  abbrev later_by : Life → Option Dialogue
  later_by l = dialogue_by h.start.reject_ms h.start.idle_ms dialogue (here ∷ h.pairs) l

  pub life_named : names event dialogue ≡ true → (l : Life)
      → life_by_event h.start.idle_ms last state context event (is_accepted (reply h event)) ≡ l
      → dialogue_at h.start.reject_ms h.start.idle_ms (here ∷ h.pairs) dialogue
      ≡ dialogue_by h.start.reject_ms h.start.idle_ms dialogue (here ∷ h.pairs) l
  life_named named l e =
      ap (λ x. later_by (life_after dialogue last x here)) stands
      ∙ (ap (λ b. later_by (life_if_named b last state context here)) named ∙ ap later_by e)

  pub life_unnamed : names event dialogue ≡ false
      → dialogue_at h.start.reject_ms h.start.idle_ms (here ∷ h.pairs) dialogue
      ≡ dialogue_by h.start.reject_ms h.start.idle_ms dialogue (here ∷ h.pairs) (Life.standing state context)
  life_unnamed named =
      ap (λ x. later_by (life_after dialogue last x here)) stands
      ∙ ap (λ b. later_by (life_if_named b last state context here)) named

  touched_by : (b : Bool) → names event dialogue ≡ b → touched dialogue (here ∷ h.pairs)
      ≡ cond (b && touches_as_event state context event (is_accepted (reply h event))) (clock h.pairs) last
  touched_by b named =
      ap (λ x. cond (touches dialogue x here) (clock h.pairs) last) stands
      ∙ ap (λ b. cond (b && touches_as_event state context event (is_accepted (reply h event))) (clock h.pairs) last)
      named

  pub touched_named : names event dialogue ≡ true → (b : Bool)
      → touches_as_event state context event (is_accepted (reply h event)) ≡ b
      → touched dialogue (here ∷ h.pairs) ≡ cond b (clock h.pairs) last
  touched_named named b e = touched_by true named ∙ ap (λ b. cond b (clock h.pairs) last) e

  pub touched_unnamed : names event dialogue ≡ false → touched dialogue (here ∷ h.pairs) ≡ last
  touched_unnamed named = touched_by false named

  -- the address that is kept, by whether the event names it
  kept_by : (b : Bool) → names event dialogue ≡ b → kept_address dialogue (here ∷ h.pairs)
      ≡ cond b (kept_by_event (kept_address dialogue h.pairs) state context event (is_accepted (reply h event)))
      (kept_address dialogue h.pairs)
  kept_by b named =
      ap (λ x. kept_after dialogue x (kept_address dialogue h.pairs) here) stands
      ∙ ap (λ b. cond b
      (kept_by_event (kept_address dialogue h.pairs) state context event (is_accepted (reply h event)))
      (kept_address dialogue h.pairs)) named

  pub kept_named : names event dialogue ≡ true → kept_address dialogue (here ∷ h.pairs)
      ≡ kept_by_event (kept_address dialogue h.pairs) state context event (is_accepted (reply h event))
  kept_named named = kept_by true named

  pub kept_unnamed : names event dialogue ≡ false
      → kept_address dialogue (here ∷ h.pairs) ≡ kept_address dialogue h.pairs
  kept_unnamed named = kept_by false named

  queue_by : (a b : Bool) → is_birth_of dialogue here ≡ a → names event dialogue ≡ b → queue dialogue (here ∷ h.pairs)
      ≡ cond a (queue_born dialogue h.pairs event)
      (cond b (queue_by_event dialogue h.pairs (queue dialogue h.pairs) event (reply h event))
      (queue dialogue h.pairs))
  queue_by a b p q =
      ap (λ a. cond a (queue_born dialogue h.pairs event)
      (cond (names event dialogue) (queue_by_event dialogue h.pairs (queue dialogue h.pairs) event (reply h event))
      (queue dialogue h.pairs))) p
      ∙ ap (λ b. cond a (queue_born dialogue h.pairs event)
      (cond b (queue_by_event dialogue h.pairs (queue dialogue h.pairs) event (reply h event))
      (queue dialogue h.pairs))) q

  pub queue_named : names event dialogue ≡ true
      → queue dialogue (here ∷ h.pairs) ≡ queue_by_event dialogue h.pairs (queue dialogue h.pairs) event (reply h event)
  queue_named named = queue_by false true not_born named

  pub queue_unnamed : names event dialogue ≡ false → queue dialogue (here ∷ h.pairs) ≡ queue dialogue h.pairs
  queue_unnamed named = queue_by false false not_born named

  -- a dialogue of these parts
  abbrev pub made_of : State → Option (List ℕ) → List Queued → List Row → ℕ → Address → Dialogue
  made_of s c q rows t address =
      record {
        standing = record { identifier = dialogue; state = s; context = c; queue = q };
        invocations =
            record { reject_ms = h.start.reject_ms; rows = rows };
        idle_ms = h.start.idle_ms;
        touched = t;
        kept = address;
      }

  pub assembled : (s : State) (c : Option (List ℕ)) (q : List Queued) (rows : List Row) (t : ℕ) (address : Address)
      → queue dialogue (here ∷ h.pairs) ≡ q → rows_of h.start.reject_ms dialogue (here ∷ h.pairs) ≡ rows
      → touched dialogue (here ∷ h.pairs) ≡ t → kept_address dialogue (here ∷ h.pairs) ≡ address
      → dialogue_by h.start.reject_ms h.start.idle_ms dialogue (here ∷ h.pairs) (Life.standing s c)
      ≡ Some (made_of s c q rows t address)
  assembled s c q rows t address e w v u =
      ap (λ q. Some (made_of s c q (rows_of h.start.reject_ms dialogue (here ∷ h.pairs))
      (touched dialogue (here ∷ h.pairs)) (kept_address dialogue (here ∷ h.pairs)))) e
      ∙ (ap (λ rows. Some (made_of s c q rows (touched dialogue (here ∷ h.pairs))
      (kept_address dialogue (here ∷ h.pairs)))) w
      ∙ (ap (λ t. Some (made_of s c q rows t (kept_address dialogue (here ∷ h.pairs)))) v
      ∙ ap (λ kept. Some (made_of s c q rows t kept)) u))
