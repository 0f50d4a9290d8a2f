-- A dialogue that is created has no invocations.
use Rattle.std.proofs.Common.{◌≡◌, ℕ, ◌==◌, ◌&&◌, Bool, true, false, cond, List, [], ◌∷◌, ◌++◌, Option, Some, None, refl, ap, sym, ◌∙◌, arith}
use Rattle.std.proofs.lemmas.Bool.Decides.{nat_tests}
use Rattle.std.proofs.lemmas.List.{append-nil}
use Rattle.std.specs.Prelude.{filter_map, option_to_list}
use Rattle.std.specs.List.{AllByRecursion, cons_option}
use Rattle.tcap_invocation.specs.Invocations.{Row}
use Rattle.tcap_laws.proofs.Receptions.AcceptedRequests.{IsAccepted, accepted-request, IsInvoke, invoke-made}
use Rattle.tcap_laws.proofs.Births.DrawnDialogues.{beyond-unborn, unborn-life}
use Rattle.tcap_laws.proofs.Births.Lives.{unborn-untouched}
use Rattle.tcap_laws.proofs.Spans.MarksAfterBirth.{was_alive, stays_alive}
use Rattle.tcap_model.specs.Table.Agreement.{due_pair}
use Rattle.tcap_model.specs.Words.Answer.{Answer, is_accepted}
use Rattle.tcap_model.specs.Histories.Birth.{is_birth_of, next_dialogue, born_of}
use Rattle.tcap_model.specs.Invocations.Decision.{decision}
use Rattle.tcap_model.specs.Table.Dialogue.{Dialogue, fresh_dialogue}
use Rattle.tcap_model.specs.Replies.Due.{birth_due}
use Rattle.tcap_model.specs.Words.Event.{Event}
use Rattle.tcap_model.specs.Histories.History.{Start, History}
use Rattle.tcap_model.specs.Invocations.Invocation.{Invocation, invoked_by, invocations, latest}
use Rattle.tcap_model.specs.Replies.Legal.{AreReplies, IsLegal}
use Rattle.tcap_model.specs.Histories.Clock.{clock}
use Rattle.tcap_model.specs.Histories.Life.{Life, life, touched, life_after, life_at_birth, touches}
use Rattle.tcap_model.specs.Words.LocalId.{is_that}
use Rattle.tcap_model.specs.Histories.Pair.{Pair, Past}
use Rattle.tcap_model.specs.Replies.Queue.{queue}
use Rattle.tcap_model.specs.Procedures.QueueRules.{Queued}
use Rattle.tcap_model.specs.Replies.Reply.{reply, birth_answer}
use Rattle.tcap_model.specs.Words.Request.{Request, ComponentRequest}
use Rattle.tcap_model.specs.Words.State.{State}
use Rattle.tcap_model.specs.Table.World.{stage_by, row_by, is_number, row_of, rows_of, dialogue_at, dialogue_by}
use Rattle.tcap_model.specs.Words.Address.{Address}
use Rattle.tcap_model.specs.Histories.Kept.{kept_address, kept_after}

-- ---- each invocation is of a dialogue that was created

abbrev IsOfBorn : Past → Invocation → Type 0
IsOfBorn past i = was_alive (life i.dialogue past) ≡ true

alive : (l : Life) (state : State) (context : Option (List ℕ)) → l ≡ Life.standing state context → was_alive l ≡ true
alive l state context e = ap was_alive e

made_alive : (start : Start) (pair : Pair) (past : Past) (i : Invocation) → AreReplies start (pair ∷ past)
    → invoked_by pair ≡ Some i → IsOfBorn past i
made_alive start pair past i legal e =
    let h : History = record { start = start; pairs = past } in
    let made : IsInvoke pair i = invoke-made pair i e in
    let asked : Request =
    Request.component (ComponentRequest.invoke i.id i.class made.code made.parameter made.linked i.timeout) in
    let answered : Answer.number i.number ≡ reply h (Event.on_dialogue i.dialogue asked) =
    sym made.answer ∙ (legal.1 ∙ ap (reply h) made.event) in
    let a : IsAccepted h i.dialogue asked = accepted-request h i.dialogue asked (sym (ap is_accepted answered)) in
    alive (life i.dialogue past) a.state a.context a.stands

each-alive : (start : Start) (past : Past) → AreReplies start past → AllByRecursion (IsOfBorn past) (invocations past)
each-alive start [] legal = tt
each-alive start (pair ∷ past) legal = both (invocations past) (each-alive start past legal.2) (invoked_by pair) refl
  where
    later : (i : Invocation) → IsOfBorn past i → IsOfBorn (pair ∷ past) i
    later i a = stays_alive i.dialogue (touched i.dialogue past) (life i.dialogue past) pair a

    last : (o : Option Invocation) → invoked_by pair ≡ o → AllByRecursion (IsOfBorn (pair ∷ past)) (option_to_list o)
    last None e = tt
    last (Some i) e = (later i (made_alive start pair past i legal e), tt)

    both : (xs : List Invocation) → AllByRecursion (IsOfBorn past) xs → (o : Option Invocation) → invoked_by pair ≡ o
        → AllByRecursion (IsOfBorn (pair ∷ past)) (xs ++ option_to_list o)
    both [] a o e = last o e
    both (x ∷ xs) a o e = (later x a.0, both xs a.1 o e)

-- ---- so one that wasn't has no rows

module _ (start : Start) (past : Past) (legal : AreReplies start past) (dialogue : ℕ)
    (unborn : life dialogue past ≡ Life.unborn) (test : Invocation → Bool) (made : Invocation → Option Row) where
  abbrev row_by_test : Invocation → Option Row
  row_by_test i = cond ((i.dialogue == dialogue) && test i) (made i) None

  no_row : (i : Invocation) → IsOfBorn past i → row_by_test i ≡ None
  no_row i a = go (i.dialogue == dialogue) refl
    where
      go : (b : Bool) → (i.dialogue == dialogue) ≡ b → cond (b && test i) (made i) None ≡ None
      go false e = refl
      go true e =
          let same : i.dialogue ≡ dialogue = grind (arith, nat_tests) in
          let never : true ≡ false = sym a ∙ (ap (λ n. was_alive (life n past)) same ∙ ap was_alive unborn) in
          absurd cc

  no_listed : (is : List Invocation) → AllByRecursion (IsOfBorn past) is
      → filter_map (λ i. cond ((i.dialogue == dialogue) && test i) (made i) None) is ≡ []
  no_listed [] a = refl
  no_listed (i ∷ is) a =
      ap (λ o. cons_option o (filter_map (λ i. cond ((i.dialogue == dialogue) && test i) (made i) None) is))
      (no_row i a.0) ∙ no_listed is a.1

  pub none_listed : filter_map (λ i. cond ((i.dialogue == dialogue) && test i) (made i) None) (invocations past) ≡ []
  none_listed = no_listed (invocations past) (each-alive start past legal)

module _ (reject_ms : ℕ) (start : Start) (pair : Pair) (past : Past) (legal : AreReplies start past)
    (none : invoked_by pair ≡ None) (dialogue : ℕ) (unborn : life dialogue past ≡ Life.unborn) where
  pub rows_born : rows_of reject_ms dialogue (pair ∷ past) ≡ []
  rows_born =
      ap (λ o. filter_map (row_of reject_ms dialogue (pair ∷ past)) (invocations past ++ option_to_list o)) none
      ∙ (ap (filter_map (row_of reject_ms dialogue (pair ∷ past))) (append-nil (invocations past))
      ∙ none_listed start past legal dialogue unborn
      (λ i. is_number i.number (latest i.dialogue i.id (pair ∷ past)))
      (λ i. row_by i (stage_by reject_ms (pair ∷ past) i (decision i.number (pair ∷ past)))))

-- ---- a dialogue that is asked for

module _ (h : History) (legal : IsLegal h) where
  abbrev pub next : ℕ
  next = next_dialogue h

  pub next_unborn : life next h.pairs ≡ Life.unborn
  next_unborn = unborn-life next h.pairs (beyond-unborn h.start h.pairs legal.1 next (omega arith))

  -- one that is created had no activity yet
  pub next_untouched : (event : Event) → touched next (due_pair h event ∷ h.pairs) ≡ 0
  next_untouched event =
      ap (λ l. cond (touches next l (due_pair h event)) (clock h.pairs) (touched next h.pairs)) next_unborn
      ∙ unborn-untouched next h.pairs next_unborn

  pub fresh-born : birth_due h ≡ None
      → dialogue_at h.start.reject_ms h.start.idle_ms (due_pair h Event.new_dialogue ∷ h.pairs) next
      ≡ Some (fresh_dialogue next h.start.reject_ms h.start.idle_ms)
  fresh-born e =
      let here : Pair = due_pair h Event.new_dialogue in
      let own : (next == next) ≡ true = grind (arith, nat_tests) in
      let birth : is_birth_of next here ≡ true =
      ap (λ f. is_that next (born_of Event.new_dialogue (birth_answer h f))) e ∙ own in
      ap (λ l. dialogue_by h.start.reject_ms h.start.idle_ms next (here ∷ h.pairs)
      (life_after next (touched next h.pairs) l here)) next_unborn
      ∙ (ap (λ b. dialogue_by h.start.reject_ms h.start.idle_ms next (here ∷ h.pairs)
      (life_at_birth b Event.new_dialogue)) birth
      ∙ (ap (λ q. Some (made q (rows_of h.start.reject_ms next (here ∷ h.pairs)) (touched next (here ∷ h.pairs))
      (kept_address next (here ∷ h.pairs))))
      (ap (λ b. cond b [] (queue next h.pairs)) birth)
      ∙ (ap (λ rows. Some (made [] rows (touched next (here ∷ h.pairs)) (kept_address next (here ∷ h.pairs))))
      (rows_born h.start.reject_ms h.start here h.pairs legal.1 refl next next_unborn)
      ∙ (ap (λ t. Some (made [] [] t (kept_address next (here ∷ h.pairs)))) (next_untouched Event.new_dialogue)
      ∙ ap (λ kept. Some (made [] [] 0 kept))
      (ap (λ l. kept_after next l (kept_address next h.pairs) here) next_unborn
      ∙ ap (λ b. cond b [] (kept_address next h.pairs)) birth)))))
    where
      made : List Queued → List Row → ℕ → Address → Dialogue
      made q rows t address = record {
        standing =
            record { identifier = next; state = State.fresh; context = None; queue = q };
        invocations =
            record { reject_ms = h.start.reject_ms; rows = rows };
        idle_ms = h.start.idle_ms;
        touched = t;
        kept = address;
      }
