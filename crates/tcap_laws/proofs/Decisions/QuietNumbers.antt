-- Of a number whose invocation is decided, or that no invocation has, no answer tells anything.
use Rattle.std.proofs.Common.{◌≡◌, ℕ, ℤ, ◌==◌, Bool, true, false, cond, ◌&&◌, nat_lt, List, [], ◌∷◌, ◌++◌, Option, Some, None, refl, ap, sym, ◌∙◌, arith}
use Rattle.std.proofs.lemmas.Bool.Decides.{nat_tests}
use Rattle.std.specs.Prelude.{flat_map, is_none, is_some}
use Rattle.std.specs.Option.{option_or}
use Rattle.tcap_laws.proofs.Spans.MarksAfterBirth.{noted_at_clock}
use Rattle.tcap_laws.proofs.Spans.DecisionSteps.{first_closing-append}
use Rattle.tcap_laws.proofs.Spans.LatestInvocations.{IsLatest, latest_is}
use Rattle.tcap_laws.proofs.Decisions.QuietDialogues.{IsQuiet, taken_quiet, request_quiet}
use Rattle.tcap_laws.proofs.Decisions.ToldDialogues.{told_by_idle, idle_of, idle_number}
use Rattle.tcap_laws.proofs.Decisions.ToldInvocations.{told_one, ended_told, ended_number, lapse_of, lapses_number}
use Rattle.tcap_laws.proofs.Decisions.ToldOutputs.{told, told-append, IsOther}
use Rattle.tcap_laws.proofs.Decisions.ToldReceptions.{Wants, reception_tells}
use Rattle.tcap_model.specs.Histories.Birth.{next_dialogue}
use Rattle.tcap_model.specs.Histories.Clock.{clock}
use Rattle.tcap_model.specs.Invocations.Closings.{told_by_answer}
use Rattle.tcap_model.specs.Procedures.ComponentHandling.{Item, SentInvocation}
use Rattle.tcap_model.specs.Invocations.Deadline.{sent_clock, deadline}
use Rattle.tcap_model.specs.Replies.Due.{due, birth_due}
use Rattle.tcap_model.specs.Words.Event.{Event}
use Rattle.tcap_model.specs.Words.Fault.{Fault}
use Rattle.tcap_model.specs.Replies.Held.{pending, if_pending}
use Rattle.tcap_model.specs.Histories.History.{History, Start}
use Rattle.tcap_model.specs.Invocations.Invocation.{Invocation, invocation_of, latest}
use Rattle.tcap_model.specs.Replies.Legal.{AreReplies}
use Rattle.tcap_model.specs.Histories.Life.{life}
use Rattle.tcap_model.specs.Invocations.Marks.{Mark, Noted, component_marks}
use Rattle.tcap_model.specs.Invocations.Outcome.{closing_after, first_closing, is_sent_in, outcome_of, outcome}
use Rattle.tcap_model.specs.Words.Output.{Closing}
use Rattle.tcap_model.specs.Histories.Pair.{Past}
use Rattle.tcap_model.specs.Invocations.SentThere.{marks_up_to, if_sent}
use Rattle.tcap_model.specs.Replies.Reply.{birth_answer, ended_in, lapses, is_idle_by, idle_dialogues, marks_up_to_moment, idle_told, moment_answer, reply}
use Rattle.tcap_model.specs.Invocations.Span.{span}
use Rattle.tcap_model.specs.Words.Time.{moment_fault}
use Rattle.tcap_model.specs.Words.Address.{Address}

-- whatever invocation has the number is decided
abbrev pub IsSettled : ℕ → Past → Type 0
IsSettled n past = (i : Invocation) → invocation_of n past ≡ Some i
    → (c : Closing) × (first_closing i.class i.timeout (span i past) ≡ Some c)

no_and : (b : Bool) → (b && false) ≡ false
no_and true = refl
no_and false = refl

module _ (start : Start) (past place : Past) (n : ℕ) (legal : AreReplies start past) (settled : IsSettled n past) where
  abbrev h : History
  h = record { start = start; pairs = past }

  closed_up_to : (i : Invocation) (earlier : List Item) → invocation_of n past ≡ Some i
      → is_none (first_closing i.class i.timeout (marks_up_to past earlier i)) ≡ false
  closed_up_to i earlier found =
      let closed = settled i found in
      ap is_none (first_closing-append i.class i.timeout (span i past)
      (noted_at_clock (clock past) (component_marks i.id earlier))
      ∙ ap (λ o. option_or o (closing_after i.class i.timeout (span i past)
      (noted_at_clock (clock past) (component_marks i.id earlier)))) closed.1)

  -- the latest invocation of an identifier, where it has the number
  found_latest : (dialogue : ℕ) (id : ℤ) (j : Invocation) → latest dialogue id past ≡ Some j → (j.number == n) ≡ true
      → invocation_of n past ≡ Some j
  found_latest dialogue id j p q =
      let l : IsLatest dialogue id past j = latest_is start past dialogue id j legal p in
      let number : j.number ≡ n = grind (arith, nat_tests) in
      ap (λ m. invocation_of m past) (sym number) ∙ l.is_found

  subjects_quiet : (dialogue : ℕ) (id : ℤ) (earlier : List Item)
      → IsOther n (if_sent past earlier (latest dialogue id past))
  subjects_quiet dialogue id earlier s e = go (latest dialogue id past) refl e
    where
      one : (j : Invocation) (b : Bool) → (j.number == n) ≡ b → latest dialogue id past ≡ Some j
          → if_sent past earlier (Some j) ≡ Some s → (s.number == n) ≡ false
      one j true q p e =
          let found = found_latest dialogue id j p q in
          let not_sent : is_sent_in j.class j.timeout (marks_up_to past earlier j) ≡ false =
          ap (λ b. is_some (sent_clock (marks_up_to past earlier j)) && b) (closed_up_to j earlier found)
          ∙ no_and (is_some (sent_clock (marks_up_to past earlier j))) in
          let never : None ≡ Some s =
          ap (λ b. cond b (Some (record { dialogue = j.dialogue; number = j.number; class = j.class })) None)
          (sym not_sent) ∙ e in
          absurd cc
      one j false q p e = sent (is_sent_in j.class j.timeout (marks_up_to past earlier j)) e
        where
          sent : (b : Bool) → cond b (Some (record { dialogue = j.dialogue; number = j.number; class = j.class })) None
              ≡ Some s → (s.number == n) ≡ false
          sent false e = absurd cc
          sent true e =
              let same : record { dialogue = j.dialogue; number = j.number; class = j.class } ≡ s = cc in
              ap (λ (s : SentInvocation). s.number == n) (sym same) ∙ q

      go : (o : Option Invocation) → latest dialogue id past ≡ o → if_sent past earlier o ≡ Some s
          → (s.number == n) ≡ false
      go None p e = absurd cc
      go (Some j) p e = one j (j.number == n) refl p e

  ends_quiet : (dialogue : ℕ) (items : List Item) → told n place (ended_in dialogue past items) ≡ []
  ends_quiet dialogue items = ended_number n place past dialogue items start legal ∙ go (invocation_of n past) refl
    where
      go : (o : Option Invocation) → invocation_of n past ≡ o → told_one (ended_told n place past dialogue items) o ≡ []
      go None q = refl
      go (Some i) q =
          let none : ((i.dialogue == dialogue) && is_none (first_closing i.class i.timeout (marks_up_to past items i)))
          ≡ false = ap (λ b. (i.dialogue == dialogue) && b) (closed_up_to i items q)
          ∙ no_and (i.dialogue == dialogue) in
          rw none refl

  cancels_quiet : (dialogue : ℕ) (id : ℤ) (m : ℕ) → pending dialogue id past ≡ Some m → (m == n) ≡ false
  cancels_quiet dialogue id m e = go (latest dialogue id past) refl e
    where
      one : (j : Invocation) (b c : Bool) → (j.number == n) ≡ b → is_none (outcome j.number past) ≡ c
          → latest dialogue id past ≡ Some j → cond c (Some j.number) None ≡ Some m → (m == n) ≡ false
      one j b false q w p e = absurd cc
      one j false true q w p e = let same : j.number ≡ m = cc in ap (λ k. k == n) (sym same) ∙ q
      one j true true q w p e =
          let found = found_latest dialogue id j p q in
          let closed = settled j found in
          let number : j.number ≡ n = grind (arith, nat_tests) in
          let decided : outcome j.number past ≡ Some closed.0 =
          ap (λ k. outcome k past) number ∙ (ap (λ o. outcome_of o past) found ∙ closed.1) in
          let never : false ≡ true = ap is_none (sym decided) ∙ w in
          absurd cc

      go : (o : Option Invocation) → latest dialogue id past ≡ o → if_pending past o ≡ Some m → (m == n) ≡ false
      go None p e = absurd cc
      go (Some j) p e = one j (j.number == n) (is_none (outcome j.number past)) refl refl p e

  pub all_quiet : (dialogue : ℕ) → IsQuiet n place past dialogue
  all_quiet dialogue =
      record { subjects = subjects_quiet dialogue; ends = ends_quiet dialogue; cancels = cancels_quiet dialogue }

  lapses_quiet : (now : ℕ) → told n place (lapses past now) ≡ []
  lapses_quiet now = lapses_number n place past now start legal ∙ go (invocation_of n past) refl
    where
      one : (i : Invocation) (o : Option ℕ) → is_sent_in i.class i.timeout (span i past) ≡ false → deadline i past ≡ o
          → lapse_of n place past now i ≡ []
      one i None q w = rw w refl
      one i (Some t) q w = rw (w, q) refl

      go : (o : Option Invocation) → invocation_of n past ≡ o → told_one (lapse_of n place past now) o ≡ []
      go None q = refl
      go (Some i) q =
          let closed = settled i q in
          one i (deadline i past) (ap (λ o. is_some (sent_clock (span i past)) && is_none o) closed.1
          ∙ no_and (is_some (sent_clock (span i past)))) refl

  -- ---- the answers

  birth_quiet : (f : Option Fault) → told_by_answer n place Event.new_dialogue (birth_answer h f) ≡ []
  birth_quiet None = refl
  birth_quiet (Some f) = refl

  closed_at_moment : (now : ℕ) (i : Invocation) → invocation_of n past ≡ Some i
      → is_none (first_closing i.class i.timeout (marks_up_to_moment past now i)) ≡ false
  closed_at_moment now i found =
      let closed = settled i found in
      let added : List Noted = noted_at_clock (clock past) (Mark.moment now ∷ []) in
      ap is_none (first_closing-append i.class i.timeout (span i past) added
      ∙ ap (λ o. option_or o (closing_after i.class i.timeout (span i past) added)) closed.1)

  idles_quiet : (idle_ms now : ℕ)
      → told n place (flat_map (idle_told past now) (idle_dialogues idle_ms past now)) ≡ []
  idles_quiet idle_ms now = idle_number n place past now start legal idle_ms ∙ go (invocation_of n past) refl
    where
      go : (o : Option Invocation) → invocation_of n past ≡ o → told_one (idle_of n place past now idle_ms) o ≡ []
      go None q = refl
      go (Some i) q = one (is_idle_by idle_ms past now i.dialogue)
        where
          one : (b : Bool) → cond b (told_by_idle n place past now i.dialogue i) [] ≡ []
          one false = refl
          one true =
              let none : ((i.dialogue == i.dialogue)
              && is_none (first_closing i.class i.timeout (marks_up_to_moment past now i))) ≡ false =
              ap (λ b. (i.dialogue == i.dialogue) && b) (closed_at_moment now i q) ∙ no_and (i.dialogue == i.dialogue) in
              rw none refl

  moment_quiet : (idle_ms now : ℕ) (f : Option Fault)
      → told_by_answer n place (Event.moment now) (moment_answer idle_ms past now f) ≡ []
  moment_quiet idle_ms now (Some f) = refl
  moment_quiet idle_ms now None = go (nat_lt now (clock past)) refl
    where
      go : (b : Bool) → nat_lt now (clock past) ≡ b
          → told_by_answer n place (Event.moment now) (moment_answer idle_ms past now None) ≡ []
      go true q = rw q refl
      go false q = rw q
          (told-append n place (lapses past now) (flat_map (idle_told past now) (idle_dialogues idle_ms past now))
          ∙ (ap (λ z. z ++ told n place (flat_map (idle_told past now) (idle_dialogues idle_ms past now)))
          (lapses_quiet now) ∙ idles_quiet idle_ms now))

  bytes_wanted : (from : Address) (bytes : List ℕ) → Wants n place h 0 from bytes []
  bytes_wanted from bytes = record {
    elsewhere = λ d e. all_quiet d;
    next = all_quiet (next_dialogue h);
    unnamed = λ e. refl;
    dead = λ e. refl;
    taken = λ m e live q. taken_quiet n place past 0 (all_quiet 0) (life 0 past) from m;
    broken = λ f e live q. ends_quiet 0 [];
  }

  pub reply_quiet : (event : Event) → told_by_answer n place event (reply h event) ≡ []
  reply_quiet Event.new_dialogue = birth_quiet (birth_due h)
  reply_quiet (Event.on_dialogue d r) = request_quiet n place h d (all_quiet d) r (life d past) (due h d r)
  reply_quiet (Event.received from bytes) = reception_tells n place h 0 from bytes [] (bytes_wanted from bytes)
      (is_some (birth_due h))
  reply_quiet (Event.moment now) = moment_quiet start.idle_ms now (moment_fault now)
