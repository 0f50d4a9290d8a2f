-- What received bytes, and so every event, tell of an open invocation is what their marks decide.
use Rattle.std.proofs.Common.{◌≡◌, ℕ, ◌==◌, Bool, true, false, List, [], Option, Some, None, Ok, Err, refl, ap, sym, ◌∙◌, arith}
use Rattle.std.proofs.lemmas.Bool.Decides.{nat_tests}
use Rattle.std.specs.Prelude.{is_some, unwrap_or}
use Rattle.tcap_laws.proofs.Births.DrawnDialogues.{beyond-unborn, unborn-life}
use Rattle.tcap_laws.proofs.Spans.MarksAfterBirth.{was_alive, noted_at_clock}
use Rattle.tcap_laws.proofs.Spans.EventMarks.{unnamed_marks, standing_marks, over_marks, unborn_marks}
use Rattle.tcap_laws.proofs.Decisions.OpenMoments.{on_moment}
use Rattle.tcap_laws.proofs.Decisions.OpenNumbers.{wanted, nothing_wanted, ended_only, quiet_elsewhere, message_here}
use Rattle.tcap_laws.proofs.Decisions.OpenReplies.{found_alive, Answers, silent, on_any_dialogue}
use Rattle.tcap_laws.proofs.Decisions.ToldOutputs.{told}
use Rattle.tcap_laws.proofs.Decisions.ToldReceptions.{is_live_in, Wants, reception_tells}
use Rattle.tcap_model.specs.Words.Answer.{Answer}
use Rattle.tcap_model.specs.Histories.Birth.{next_dialogue}
use Rattle.tcap_model.specs.Histories.Clock.{clock}
use Rattle.tcap_model.specs.Invocations.Closings.{told_by_answer}
use Rattle.tcap_model.specs.Replies.Due.{birth_due}
use Rattle.tcap_model.specs.Words.Event.{Event}
use Rattle.tcap_model.specs.Words.Fault.{Fault}
use Rattle.tcap_model.specs.Histories.History.{History, Start}
use Rattle.tcap_model.specs.Invocations.Invocation.{Invocation, invocation_of, latest}
use Rattle.tcap_model.specs.Replies.Legal.{AreReplies}
use Rattle.tcap_model.specs.Histories.Life.{Life, life, live_in, life_by_message, life_if_live}
use Rattle.tcap_model.specs.Invocations.Marks.{Mark, Noted, marks, marks_of_message, marks_if_live, end_if_over}
use Rattle.tcap_model.specs.Histories.Names.{names}
use Rattle.tcap_model.specs.Histories.Pair.{Past}
use Rattle.tcap_model.specs.Replies.Reply.{birth_answer, reply, taken_outputs, ended_in}
use Rattle.tcap_model.specs.Words.State.{State, is_live}
use Rattle.tcap_model.specs.Words.Time.{moment_fault}
use Rattle.tcap_pdu.specs.declared.fault.FrameFault.{FrameFault}
use Rattle.tcap_pdu.specs.FrameReading.{frame_at}
use Rattle.tcap_pdu.specs.FrameSpelling.{Message}
use Rattle.tcap_model.specs.Words.Address.{Address}

module _ (start : Start) (past place : Past) (n : ℕ) (i : Invocation) (legal : AreReplies start past)
    (found : invocation_of n past ≡ Some i) (here : latest i.dialogue i.id past ≡ Some i) where
  abbrev h : History
  h = record { start = start; pairs = past }

  nothing : wanted place past i [] ≡ []
  nothing = nothing_wanted place past i

  -- ---- received bytes

  next_apart : i.dialogue ≡ next_dialogue h → ⊥
  next_apart same =
      let unborn : life (next_dialogue h) past ≡ Life.unborn =
      unborn-life (next_dialogue h) past (beyond-unborn start past legal (next_dialogue h) (omega arith)) in
      let never : false ≡ true =
      ap was_alive (sym unborn) ∙ (ap (λ d. was_alive (life d past)) (sym same)
      ∙ found_alive start past n i legal found) in
      cc

  module _ (from : Address) (bytes : List ℕ) (answer : Answer) where
    abbrev received : Event
    received = Event.received from bytes

    abbrev added : List Noted
    added = marks i.dialogue i.id (record { event = received; answer = answer; idle_ms = start.idle_ms }) past

    -- the marks of bytes that name it, by the life before them
    abbrev marks_then : State → Option (List ℕ) → Bool → List Mark
    marks_then s c live =
        unwrap_or (marks_if_live live i.id s c bytes) (end_if_over (Life.standing s c) (life_if_live live s c bytes))

    standing_then : (s : State) (c : Option (List ℕ)) (live : Bool) → life i.dialogue past ≡ Life.standing s c
        → is_live s ≡ live → names received i.dialogue ≡ true
        → added ≡ noted_at_clock (clock past) (marks_then s c live)
    standing_then s c live q v e =
        standing_marks i.dialogue i.id received answer start.idle_ms past s c q e
        ∙ ap (λ b. noted_at_clock (clock past) (marks_then s c b)) v

    dead_marks : is_live_in h i.dialogue ≡ false → added ≡ []
    dead_marks dead = go (names received i.dialogue) refl
      where
        named : (l : Life) → life i.dialogue past ≡ l → live_in l ≡ false → names received i.dialogue ≡ true
            → added ≡ []
        named Life.unborn q v e = unborn_marks i.dialogue i.id received answer start.idle_ms past q
        named Life.over q v e = over_marks i.dialogue i.id received answer start.idle_ms past q e
        named (Life.standing s c) q v e = standing_then s c false q v e

        go : (b : Bool) → names received i.dialogue ≡ b → added ≡ []
        go false e = unnamed_marks i.dialogue i.id received answer start.idle_ms past e
        go true e = named (life i.dialogue past) refl dead e

    taken_here : (m : Message) → names received i.dialogue ≡ true → is_live_in h i.dialogue ≡ true
        → frame_at bytes ≡ Ok m
        → told n place (taken_outputs i.dialogue past (life i.dialogue past) from m) ≡ wanted place past i added
    taken_here m e live q = go (life i.dialogue past) refl live
      where
        go : (l : Life) → life i.dialogue past ≡ l → live_in l ≡ true
            → told n place (taken_outputs i.dialogue past l from m) ≡ wanted place past i added
        go Life.unborn p v = absurd cc
        go Life.over p v = absurd cc
        go (Life.standing s c) p v =
            message_here start past place n i legal found here s c from m
            ∙ (ap (λ r. wanted place past i (noted_at_clock (clock past)
            (unwrap_or (marks_of_message i.id s c r) (end_if_over (Life.standing s c) (life_by_message s c r)))))
            (sym q)
            ∙ ap (wanted place past i) (sym (standing_then s c true p v e)))

    broken_here : (f : FrameFault) → names received i.dialogue ≡ true → is_live_in h i.dialogue ≡ true
        → frame_at bytes ≡ Err f
        → told n place (ended_in i.dialogue past []) ≡ wanted place past i added
    broken_here f e live q = go (life i.dialogue past) refl live
      where
        go : (l : Life) → life i.dialogue past ≡ l → live_in l ≡ true
            → told n place (ended_in i.dialogue past []) ≡ wanted place past i added
        go Life.unborn p v = absurd cc
        go Life.over p v = absurd cc
        go (Life.standing s c) p v =
            ended_only start past place n i legal found
            ∙ (ap (λ r. wanted place past i (noted_at_clock (clock past)
            (unwrap_or (marks_of_message i.id s c r) (end_if_over (Life.standing s c) (life_by_message s c r)))))
            (sym q)
            ∙ ap (wanted place past i) (sym (standing_then s c true p v e)))

    bytes_wanted : Wants n place h i.dialogue from bytes (wanted place past i added)
    bytes_wanted = record {
      elsewhere = λ d e. quiet_elsewhere start past place n i legal found d
          (λ same. let is : (d == i.dialogue) ≡ true = grind (arith, nat_tests) in cc);
      next = quiet_elsewhere start past place n i legal found (next_dialogue h) next_apart;
      unnamed = λ e. ap (wanted place past i) (unnamed_marks i.dialogue i.id received answer start.idle_ms past e) ∙ nothing;
      dead = λ e. ap (wanted place past i) (dead_marks e) ∙ nothing;
      taken = taken_here;
      broken = broken_here;
    }

  on_bytes : (from : Address) (bytes : List ℕ)
      → Answers start past place n i legal found here (Event.received from bytes)
      (reply h (Event.received from bytes))
  on_bytes from bytes =
      reception_tells n place h i.dialogue from bytes (wanted place past i
      (marks i.dialogue i.id (record {
        event = Event.received from bytes;
        answer = reply h (Event.received from bytes);
        idle_ms = start.idle_ms;
      }) past))
      (bytes_wanted from bytes (reply h (Event.received from bytes))) (is_some (birth_due h))

  -- ---- every event

  birth_silent : (f : Option Fault) → told_by_answer n place Event.new_dialogue (birth_answer h f) ≡ []
  birth_silent None = refl
  birth_silent (Some f) = refl

  pub reply_open : (event : Event) → Answers start past place n i legal found here event (reply h event)
  reply_open Event.new_dialogue =
      silent start past place n i legal found here Event.new_dialogue (reply h Event.new_dialogue)
      (birth_silent (birth_due h)) (unnamed_marks i.dialogue i.id Event.new_dialogue (reply h Event.new_dialogue)
      start.idle_ms past refl)
  reply_open (Event.on_dialogue d r) = on_any_dialogue start past place n i legal found here d r
  reply_open (Event.received from bytes) = on_bytes from bytes
  reply_open (Event.moment now) = on_moment start past place n i legal found here now (moment_fault now)
