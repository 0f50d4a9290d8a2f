-- A request on a dialogue is answered by what the dialogue sees, but for the number that it draws.
use Rattle.std.proofs.Common.{◌≡◌, ◌≢◌, ℕ, ℤ, ◌+◌, ◌≤◌, ◌⊎◌, ◌==◌, Bool, true, false, cond, ◌&&◌, ◌||◌, List, [], ◌∷◌, ◌++◌, Contains, Option, Some, None, refl, ap, ap₂, sym, ◌∙◌, subst, inl, inr, arith, if◌then◌else◌}
use Rattle.std.proofs.lemmas.Bool.{eqb-false, ne_eqb}
use Rattle.std.proofs.lemmas.List.Elements.{Contains-append_right}
use Rattle.std.specs.List.{cons_option}
use Rattle.std.specs.Prelude.{filter, filter_map, is_none, is_some}
use Rattle.tcap_laws.proofs.Births.NumbersFound.{invocation_of-found, numbers-below}
use Rattle.tcap_laws.proofs.Isolation.SeenDecisions.{only_held, only_pending}
use Rattle.tcap_laws.proofs.Isolation.SeenLives.{seen_or_not, invoked_within, only_life, only_kept}
use Rattle.tcap_laws.proofs.Isolation.SeenQueues.{marks_same, only_queue}
use Rattle.tcap_laws.proofs.Births.StartCounters.{start_number-within}
use Rattle.tcap_model.specs.Procedures.AbortRules.{sent_if_any}
use Rattle.tcap_model.specs.Words.Answer.{Answer}
use Rattle.tcap_model.specs.Procedures.ComponentHandling.{Item}
use Rattle.tcap_model.specs.Procedures.ComponentRequest.{identifier_of, queued_for}
use Rattle.tcap_model.specs.Replies.Due.{standing_of, held_if_any, pending_if_any, situation_of, due_by, due}
use Rattle.tcap_model.specs.Words.Event.{Event}
use Rattle.tcap_model.specs.Words.Fault.{Fault}
use Rattle.tcap_model.specs.Histories.History.{History, Start}
use Rattle.tcap_model.specs.Words.Identifiers.{last_number, are_numbers_spent}
use Rattle.tcap_model.specs.Invocations.Invocation.{Invocation, invoked_by, invokes, invocations, next_number}
use Rattle.tcap_model.specs.Statements.Isolation.{history_of, without_number, IsAlone}
use Rattle.tcap_model.specs.Replies.Legal.{AreReplies, IsLegal}
use Rattle.tcap_model.specs.Histories.Life.{Life, life}
use Rattle.tcap_model.specs.Statements.Only.{pair_within, is_seen_by, only}
use Rattle.tcap_model.specs.Invocations.Outcome.{first_closing}
use Rattle.tcap_model.specs.Words.Output.{Output, Closing, ComponentIndication}
use Rattle.tcap_model.specs.Histories.Pair.{Past}
use Rattle.tcap_model.specs.Invocations.SentThere.{marks_up_to}
use Rattle.tcap_model.specs.Procedures.QueueRules.{Queued, queue_limit}
use Rattle.tcap_model.specs.Procedures.Refusals.{Situation, first_that, holds, faults_of, due_on, passes_queue, passes_message}
use Rattle.tcap_model.specs.Replies.Reply.{ended_of, ended_in, given_up_answer, last_answer, accepted_answer, request_answer, reply, request_sent}
use Rattle.tcap_model.specs.Words.Request.{Request, ComponentRequest, DialogueRequest}
use Rattle.tcap_model.specs.Procedures.RequestMessage.{message_of, request_address}
use Rattle.tcap_model.specs.Procedures.Standing.{Standing}
use Rattle.tcap_model.specs.Words.State.{State}
use Rattle.tcap_laws.proofs.Isolation.OwnInvocations.{is_of_dialogue, only_invocations, own_true}

-- ---- what the end of a dialogue tells

pub filter_map_own : {X Y : Type 0} (own : X → Bool) (f g : X → Option Y) (xs : List X)
    → ((x : X) → Contains xs x → own x ≡ true → g x ≡ f x) → ((x : X) → own x ≡ false → f x ≡ None)
    → filter_map g (filter own xs) ≡ filter_map f xs
filter_map_own own f g [] same none = refl
filter_map_own {X = X} {Y = Y} own f g (x ∷ xs) same none =
    go (own x) refl (filter_map_own own f g xs (λ y at e. same y (Contains-append_right (x ∷ []) xs y at) e) none)
  where
    here : Contains (x ∷ xs) x
    here = (0, omega arith, refl)

    go : (b : Bool) → own x ≡ b → filter_map g (filter own xs) ≡ filter_map f xs
        → filter_map g (cond b (x ∷ filter own xs) (filter own xs)) ≡ cons_option (f x) (filter_map f xs)
    go true e ih = ap (λ (o : Option Y). cons_option o (filter_map g (filter own xs))) (same x here e)
        ∙ ap (cons_option (f x)) ih
    go false e ih = ih ∙ ap (λ (o : Option Y). cons_option o (filter_map f xs)) (sym (none x e))

module _ (start : Start) (dialogue : ℕ) (past : Past) (legal : AreReplies start past) where
  ended_same : (items : List Item) (i : Invocation) → Contains (invocations past) i → is_of_dialogue dialogue i ≡ true
      → ended_of dialogue (only dialogue past) items i ≡ ended_of dialogue past items i
  ended_same items i at own =
      ap (λ ms. if (i.dialogue == dialogue) && is_none (first_closing i.class i.timeout ms) then Some
      (Output.component (ComponentIndication.closed dialogue i.number i.id Closing.ended)) else None)
      (marks_same start dialogue past legal items i (invocation_of-found start past legal i at)
      (own_true dialogue i own))

  pub only_ended : (items : List Item) → ended_in dialogue (only dialogue past) items ≡ ended_in dialogue past items
  only_ended items =
      ap (filter_map (ended_of dialogue (only dialogue past) items)) (only_invocations start dialogue past legal)
      ∙ filter_map_own (is_of_dialogue dialogue) (ended_of dialogue past items)
      (ended_of dialogue (only dialogue past) items) (invocations past) (ended_same items)
      (λ i e. ap (λ b. if b && is_none (first_closing i.class i.timeout (marks_up_to past items i)) then Some
      (Output.component (ComponentIndication.closed dialogue i.number i.id Closing.ended)) else None) e)

-- ---- faults

-- two tests agree but where no number is left
first_same : (p q : Fault → Bool) → ((f : Fault) → (p f ≡ q f) ⊎ (f ≡ Fault.numbers_spent))
    → (p Fault.numbers_spent ≡ false → q Fault.numbers_spent ≡ false) → (fs : List Fault)
    → first_that p fs ≢ Some Fault.numbers_spent → first_that p fs ≡ first_that q fs
first_same p q same spent [] not = refl
first_same p q same spent (f ∷ fs) not = go (same f) (p f) refl not (first_same p q same spent fs)
  where
    go : (s : (p f ≡ q f) ⊎ (f ≡ Fault.numbers_spent)) (b : Bool) → p f ≡ b
        → cond b (Some f) (first_that p fs) ≢ Some Fault.numbers_spent
        → (first_that p fs ≢ Some Fault.numbers_spent → first_that p fs ≡ first_that q fs)
        → cond b (Some f) (first_that p fs) ≡ cond (q f) (Some f) (first_that q fs)
    go (inl e) true w not ih = sym (ap (λ b. cond b (Some f) (first_that q fs)) (sym e ∙ w))
    go (inl e) false w not ih = ih not ∙ sym (ap (λ b. cond b (Some f) (first_that q fs)) (sym e ∙ w))
    go (inr is) true w not ih = absurd (not (ap (λ (f : Fault). Some f) is))
    go (inr is) false w not ih =
        ih not ∙ sym (ap (λ b. cond b (Some f) (first_that q fs)) (ap q is ∙ spent (ap p (sym is) ∙ w)))

abbrev situated : Standing → Bool → Option ℕ → ℕ → Bool → Situation
situated d in_use pending number spent =
    record {
      standing = d;
      limit = queue_limit;
      is_in_use = in_use;
      pending = pending;
      number = number;
      is_spent =
          spent;
    }

passes_same : (limit : ℕ) (queue : List Queued) (m n : ℕ) (r : Request)
    → passes_queue limit queue (queued_for m r) ≡ passes_queue limit queue (queued_for n r)
passes_same limit queue m n (Request.component (ComponentRequest.invoke id class code parameter linked timeout)) = refl
passes_same limit queue m n (Request.component (ComponentRequest.result_last id body)) = refl
passes_same limit queue m n (Request.component (ComponentRequest.result_more id body)) = refl
passes_same limit queue m n (Request.component (ComponentRequest.error_back id code parameter)) = refl
passes_same limit queue m n (Request.component (ComponentRequest.u_reject id problem)) = refl
passes_same limit queue m n (Request.component (ComponentRequest.u_cancel id)) = refl
passes_same limit queue m n (Request.dialogue (DialogueRequest.uni to context info)) = refl
passes_same limit queue m n (Request.dialogue (DialogueRequest.begin to context info)) = refl
passes_same limit queue m n (Request.dialogue (DialogueRequest.go_on context info)) = refl
passes_same limit queue m n (Request.dialogue (DialogueRequest.finish ending context info)) = refl
passes_same limit queue m n (Request.dialogue (DialogueRequest.u_abort why info)) = refl

holds_same : (d : Standing) (in_use : Bool) (pending : Option ℕ) (m n : ℕ) (b c : Bool) (r : Request) (f : Fault)
    → (holds (situated d in_use pending m b) r f ≡ holds (situated d in_use pending n c) r f)
    ⊎ (f ≡ Fault.numbers_spent)
holds_same d in_use pending m n b c r Fault.out_of_memory = inl refl
holds_same d in_use pending m n b c r Fault.unknown_dialogue = inl refl
holds_same d in_use pending m n b c r Fault.wrong_state = inl refl
holds_same d in_use pending m n b c r Fault.invoke_id_in_use = inl refl
holds_same d in_use pending m n b c r Fault.no_such_invocation = inl refl
holds_same d in_use pending m n b c r Fault.bad_timeout = inl refl
holds_same d in_use pending m n b c r Fault.too_long =
    inl (ap (λ z. z || passes_message (message_of d r)) (passes_same queue_limit d.queue m n r))
holds_same d in_use pending m n b c r Fault.dialogues_full = inl refl
holds_same d in_use pending m n b c r Fault.dialogue_ids_spent = inl refl
holds_same d in_use pending m n b c r Fault.numbers_spent = inr refl
holds_same d in_use pending m n b c r Fault.bad_oid = inl refl
holds_same d in_use pending m n b c r Fault.bad_parameter = inl refl
holds_same d in_use pending m n b c r Fault.not_class_four = inl refl
holds_same d in_use pending m n b c r Fault.moment_too_late = inl refl
holds_same d in_use pending m n b c r Fault.no_context = inl refl

-- ---- numbers

fewer_invokes : (dialogue : ℕ) (past : Past) → invokes (only dialogue past) ≤ invokes past
fewer_invokes dialogue [] = omega arith
fewer_invokes dialogue (pair ∷ past) =
    go (is_seen_by dialogue pair past) (is_some (invoked_by pair)) (fewer_invokes dialogue past)
    (ap is_some (invoked_within dialogue pair.event pair.answer pair.idle_ms))
  where
    more : (b : Bool) (m n : ℕ) → m ≤ n → cond b (m + 1) m ≤ cond b (n + 1) n
    more true m n le = omega arith
    more false m n le = le

    up : (b : Bool) (m n : ℕ) → m ≤ n → m ≤ cond b (n + 1) n
    up true m n le = omega arith
    up false m n le = le

    go : (b some : Bool) → invokes (only dialogue past) ≤ invokes past
        → is_some (invoked_by (pair_within dialogue pair.event pair.answer pair.idle_ms)) ≡ some
        → invokes (seen_or_not dialogue b pair past) ≤ cond some (invokes past + 1) (invokes past)
    go true some le e = subst (λ c. cond c (invokes (only dialogue past) + 1) (invokes (only dialogue past))
        ≤ cond some (invokes past + 1) (invokes past)) (sym e)
        (more some (invokes (only dialogue past)) (invokes past) le)
    go false some le e = up some (invokes (only dialogue past)) (invokes past) le

module _ (h : History) (dialogue : ℕ) (legal : IsLegal h) where
  unspent_alone : are_numbers_spent (next_number h) ≡ false
      → are_numbers_spent (next_number (history_of dialogue h)) ≡ false
  unspent_alone e =
      let below = numbers-below h.start h.pairs legal.1 (start_number-within h.start legal.0) in
      let apart = eqb-false (next_number h) last_number e in
      let fewer = fewer_invokes dialogue h.pairs in
      ne_eqb (next_number (history_of dialogue h)) last_number (λ same. omega (arith, below, apart, fewer, same))

  -- ---- what is due

  held_same : (id : Option ℤ) → held_if_any h.start.reject_ms dialogue (only dialogue h.pairs) id
      ≡ held_if_any h.start.reject_ms dialogue h.pairs id
  held_same None = refl
  held_same (Some id) = only_held h.start dialogue h.start.reject_ms id h.pairs legal.1

  pending_same : (id : Option ℤ) → pending_if_any dialogue (only dialogue h.pairs) id
      ≡ pending_if_any dialogue h.pairs id
  pending_same None = refl
  pending_same (Some id) = only_pending h.start dialogue id h.pairs legal.1

  standing_same : (state : State) (context : Option (List ℕ))
      → standing_of dialogue (only dialogue h.pairs) state context ≡ standing_of dialogue h.pairs state context
  standing_same state context =
      ap (λ q. record { identifier = dialogue; state = state; context = context; queue = q })
      (only_queue h.start dialogue h.pairs legal.1)

  module _ (r : Request) where
    abbrev number : ℕ
    number = next_number (history_of dialogue h)

    situation_same : (state : State) (context : Option (List ℕ))
        → situation_of (history_of dialogue h) dialogue (standing_of dialogue (only dialogue h.pairs) state context) r
        ≡ situated (standing_of dialogue h.pairs state context)
        (held_if_any h.start.reject_ms dialogue h.pairs (identifier_of r))
        (pending_if_any dialogue h.pairs (identifier_of r)) number (are_numbers_spent number)
    situation_same state context =
        ap (λ d. situation_of (history_of dialogue h) dialogue d r) (standing_same state context)
        ∙ (ap (λ b. situated (standing_of dialogue h.pairs state context) b
        (pending_if_any dialogue (only dialogue h.pairs) (identifier_of r)) number (are_numbers_spent number))
        (held_same (identifier_of r))
        ∙ ap (λ p. situated (standing_of dialogue h.pairs state context)
        (held_if_any h.start.reject_ms dialogue h.pairs (identifier_of r)) p number (are_numbers_spent number))
        (pending_same (identifier_of r)))

    due_same : (l : Life) → due_by h dialogue r l ≢ Some Fault.numbers_spent
        → due_by (history_of dialogue h) dialogue r l ≡ due_by h dialogue r l
    due_same Life.unborn not = refl
    due_same Life.over not = refl
    due_same (Life.standing state context) not =
        let d = standing_of dialogue h.pairs state context in
        let in_use = held_if_any h.start.reject_ms dialogue h.pairs (identifier_of r) in
        let pending = pending_if_any dialogue h.pairs (identifier_of r) in
        ap (λ s. due_on s r) (situation_same state context)
        ∙ sym (first_same (holds (situated d in_use pending (next_number h) (are_numbers_spent (next_number h))) r)
        (holds (situated d in_use pending number (are_numbers_spent number)) r)
        (holds_same d in_use pending (next_number h) number (are_numbers_spent (next_number h))
        (are_numbers_spent number) r) unspent_alone (faults_of r) not)

    pub only_due : due h dialogue r ≢ Some Fault.numbers_spent
        → due (history_of dialogue h) dialogue r ≡ due h dialogue r
    only_due not = ap (due_by (history_of dialogue h) dialogue r) (only_life dialogue h.pairs)
        ∙ due_same (life dialogue h.pairs) not

  -- ---- the answer

  -- the dialogue, by its parts
  abbrev of_parts : State → Option (List ℕ) → List Queued → Standing
  of_parts state context q = record { identifier = dialogue; state = state; context = context; queue = q }

  sent_same : (state : State) (context : Option (List ℕ)) (q : List Queued) (r : Request)
      → request_sent h.pairs (of_parts state context q) r
      ≡ request_sent (only dialogue h.pairs) (of_parts state context q) r
  sent_same state context q r =
      ap (λ kept. sent_if_any (request_address kept r) (message_of (of_parts state context q) r))
      (sym (only_kept dialogue h.pairs))

  last_same : (state : State) (context : Option (List ℕ)) (q : List Queued) (r : Request)
      → without_number (last_answer h.pairs (of_parts state context q) r)
      ≡ without_number (last_answer (only dialogue h.pairs) (of_parts state context q) r)
  last_same state context q r =
      ap (λ os. Answer.outputs (request_sent h.pairs (of_parts state context q) r ++ os))
      (sym (only_ended h.start dialogue h.pairs legal.1 []))
      ∙ ap (λ os. Answer.outputs (os ++ ended_in dialogue (only dialogue h.pairs) [])) (sent_same state context q r)

  accepted_same : (state : State) (context : Option (List ℕ)) (q : List Queued) (r : Request)
      → without_number (accepted_answer h (record {
        identifier = dialogue;
        state = state;
        context = context;
        queue =
            q;
      }) r)
      ≡ without_number (accepted_answer (history_of dialogue h)
      (record { identifier = dialogue; state = state; context = context; queue = q }) r)
  accepted_same state context q (Request.component (ComponentRequest.invoke id class code parameter linked timeout)) =
      refl
  accepted_same state context q (Request.component (ComponentRequest.result_last id body)) = refl
  accepted_same state context q (Request.component (ComponentRequest.result_more id body)) = refl
  accepted_same state context q (Request.component (ComponentRequest.error_back id code parameter)) = refl
  accepted_same state context q (Request.component (ComponentRequest.u_reject id problem)) = refl
  accepted_same state context q (Request.component (ComponentRequest.u_cancel id)) =
      ap (λ o. without_number (given_up_answer o)) (sym (only_pending h.start dialogue id h.pairs legal.1))
  accepted_same state context q (Request.dialogue (DialogueRequest.uni to asked info)) =
      last_same state context q (Request.dialogue (DialogueRequest.uni to asked info))
  accepted_same state context q (Request.dialogue (DialogueRequest.begin to asked info)) = refl
  accepted_same state context q (Request.dialogue (DialogueRequest.go_on asked info)) =
      ap Answer.outputs (sent_same state context q (Request.dialogue (DialogueRequest.go_on asked info)))
  accepted_same state context q (Request.dialogue (DialogueRequest.finish ending asked info)) =
      last_same state context q (Request.dialogue (DialogueRequest.finish ending asked info))
  accepted_same state context q (Request.dialogue (DialogueRequest.u_abort why info)) =
      last_same state context q (Request.dialogue (DialogueRequest.u_abort why info))

  answer_same : (r : Request) (l : Life) (f : Option Fault)
      → without_number (request_answer h dialogue r l f)
      ≡ without_number (request_answer (history_of dialogue h) dialogue r l f)
  answer_same r l (Some f) = refl
  answer_same r Life.unborn None = refl
  answer_same r Life.over None = refl
  answer_same r (Life.standing state context) None =
      accepted_same state context (standing_of dialogue h.pairs state context).queue r
      ∙ ap (λ d. without_number (accepted_answer (history_of dialogue h) d r)) (sym (standing_same state context))

  pub alone_request : (r : Request) → reply h (Event.on_dialogue dialogue r) ≢ Answer.refused Fault.numbers_spent
      → IsAlone h dialogue (Event.on_dialogue dialogue r)
  alone_request r not =
      answer_same r (life dialogue h.pairs) (due h dialogue r)
      ∙ ap₂ (λ l f. without_number (request_answer (history_of dialogue h) dialogue r l f))
      (sym (only_life dialogue h.pairs))
      (sym (only_due r (λ e. not (ap (request_answer h dialogue r (life dialogue h.pairs)) e))))
