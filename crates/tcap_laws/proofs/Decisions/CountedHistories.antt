-- Each invocation has at most one closing indication, and exactly one once its time or its dialogue is over.
use Rattle.std.proofs.Common.{◌≡◌, ℕ, ℤ, ◌<◌, ◌≤◌, ◌==◌, Bool, true, false, cond, List, [], ◌∷◌, ◌++◌, length, Option, Some, None, Result, Ok, Err, refl, ap, sym, ◌∙◌, subst, arith}
use Rattle.std.specs.Prelude.{find, is_some, option_map, option_to_list, unwrap_or}
use Rattle.std.specs.Option.{option_or}
use Rattle.tcap_component.specs.ComponentReading.{components_of}
use Rattle.tcap_invocation.specs.declared.class.Class.{Class}
use Rattle.tcap_laws.proofs.Spans.MarksAfterBirth.{was_alive, noted_at_clock}
use Rattle.tcap_laws.proofs.Decisions.ComponentTellings.{noted-append}
use Rattle.tcap_laws.proofs.Decisions.DecidedHistories.{closings_are}
use Rattle.tcap_laws.proofs.Spans.DecisionSteps.{closing_after-append, first_closing-append, made_found, outcome_stays, closing_of_decision, invocation_stays}
use Rattle.tcap_laws.proofs.Spans.DrawnInvocations.{Draws, draws, invocation_step}
use Rattle.tcap_laws.proofs.Spans.EventMarks.{standing_marks}
use Rattle.tcap_laws.proofs.Decisions.OpenReplies.{found_alive}
use Rattle.tcap_laws.proofs.Spans.SentClocks.{deadline_before}
use Rattle.tcap_laws.proofs.Spans.SpanSteps.{span_grows}
use Rattle.tcap_laws.proofs.Spans.SupersededInvocations.{unused_if_open}
use Rattle.tcap_model.specs.Words.Answer.{Answer, is_accepted}
use Rattle.tcap_model.specs.Histories.Clock.{clock}
use Rattle.tcap_model.specs.Invocations.Closings.{Told, closings}
use Rattle.tcap_model.specs.Invocations.Deadline.{deadline}
use Rattle.tcap_model.specs.Invocations.Decision.{decision, as_list}
use Rattle.tcap_model.specs.Words.Event.{Event}
use Rattle.tcap_model.specs.Statements.Headline.{Counted}
use Rattle.tcap_model.specs.Histories.History.{History, Start}
use Rattle.tcap_model.specs.Invocations.Invocation.{Invocation, invoked_by, invoked_of, invoked_under, invocation_of}
use Rattle.tcap_model.specs.Replies.Legal.{AreReplies}
use Rattle.tcap_model.specs.Histories.Life.{Life, life, touched, life_after, life_if_named, life_by_event, life_if_accepted, life_by_request, life_if_live, life_by_message, life_by_verdict}
use Rattle.tcap_model.specs.Invocations.Marks.{Mark, Noted, marks, marks_by_event, marks_of_request, end_if_over, marks_if_live, marks_of_message, if_normal, component_marks}
use Rattle.tcap_model.specs.Histories.Names.{names}
use Rattle.tcap_model.specs.Invocations.Numbers.{number_of}
use Rattle.tcap_model.specs.Invocations.Outcome.{closing_after, first_closing, outcome_of, outcome}
use Rattle.tcap_model.specs.Words.Output.{Closing}
use Rattle.tcap_model.specs.Histories.Pair.{Pair, Past}
use Rattle.tcap_model.specs.Procedures.PortionRules.{PortionVerdict, portion_verdict}
use Rattle.tcap_model.specs.Words.Request.{Request, Ending, ComponentRequest, DialogueRequest}
use Rattle.tcap_model.specs.Invocations.Span.{span}
use Rattle.tcap_model.specs.Words.State.{State, is_live}
use Rattle.tcap_pdu.specs.declared.fault.FrameFault.{FrameFault}
use Rattle.tcap_pdu.specs.FrameReading.{frame_at}
use Rattle.tcap_pdu.specs.FrameSpelling.{Message}

-- ---- the end of a dialogue closes

module _ (class : Class) (timeout : ℕ) (c : ℕ) (before : List Noted) where
  abbrev Closes : List Mark → Type 0
  Closes ms = is_some (closing_after class timeout before (noted_at_clock c ms)) ≡ true

  end_last : (ms : List Mark) → Closes (ms ++ Mark.end ∷ [])
  end_last ms = ap (λ z. is_some (closing_after class timeout before z)) (noted-append c ms (Mark.end ∷ []))
      ∙ (ap is_some (closing_after-append class timeout before (noted_at_clock c ms) (noted_at_clock c (Mark.end ∷ [])))
      ∙ go (closing_after class timeout before (noted_at_clock c ms)))
    where
      go : (o : Option Closing) → is_some (option_or o (Some Closing.ended)) ≡ true
      go None = refl
      go (Some x) = refl

  module _ (id : ℤ) (s : State) (context : Option (List ℕ)) where
    abbrev standing : Life
    standing = Life.standing s context

    request_closes : (r : Request) → life_by_request s context r ≡ Life.over
        → Closes (unwrap_or (marks_of_request id r) (end_if_over standing Life.over))
    request_closes (Request.component (ComponentRequest.invoke named k code parameter linked t)) e = absurd cc
    request_closes (Request.component (ComponentRequest.result_last named body)) e = absurd cc
    request_closes (Request.component (ComponentRequest.result_more named body)) e = absurd cc
    request_closes (Request.component (ComponentRequest.error_back named code parameter)) e = absurd cc
    request_closes (Request.component (ComponentRequest.u_reject named problem)) e = absurd cc
    request_closes (Request.component (ComponentRequest.u_cancel named)) e = absurd cc
    request_closes (Request.dialogue (DialogueRequest.begin to asked info)) e = absurd cc
    request_closes (Request.dialogue (DialogueRequest.go_on asked info)) e = absurd cc
    request_closes (Request.dialogue (DialogueRequest.uni to asked info)) e = end_last (Mark.sent ∷ [])
    request_closes (Request.dialogue (DialogueRequest.finish Ending.basic asked info)) e = end_last (Mark.sent ∷ [])
    request_closes (Request.dialogue (DialogueRequest.finish Ending.prearranged asked info)) e = end_last []
    request_closes (Request.dialogue (DialogueRequest.u_abort why info)) e = end_last []

    verdict_closes : (origin : List ℕ) (ms : List Mark) (v : PortionVerdict)
        → life_by_verdict s context origin v ≡ Life.over → Closes (unwrap_or (if_normal v ms) (Mark.end ∷ []))
    verdict_closes origin ms (PortionVerdict.normal told info) e = absurd cc
    verdict_closes origin ms PortionVerdict.abnormal e = end_last []

    end_closes : (ms : List Mark) (v : PortionVerdict)
        → Closes (unwrap_or (if_normal v (ms ++ Mark.end ∷ [])) (Mark.end ∷ []))
    end_closes ms (PortionVerdict.normal told info) = end_last ms
    end_closes ms PortionVerdict.abnormal = end_last []

    message_closes : (r : Result Message FrameFault) → life_by_message s context r ≡ Life.over
        → Closes (unwrap_or (marks_of_message id s context r) (Mark.end ∷ []))
    message_closes (Ok (Message.go_on origin to portion components)) e =
        verdict_closes origin (component_marks id (components_of components)) (portion_verdict s context portion) e
    message_closes (Ok (Message.end to portion components)) e =
        end_closes (component_marks id (components_of components)) (portion_verdict s context portion)
    message_closes (Ok (Message.abort to reason)) e = end_last []
    message_closes (Ok (Message.unidirectional portion components)) e = absurd cc
    message_closes (Ok (Message.begin origin portion components)) e = absurd cc
    message_closes (Err f) e = end_last []

    bytes_close : (live : Bool) (bytes : List ℕ) → life_if_live live s context bytes ≡ Life.over
        → Closes (unwrap_or (marks_if_live live id s context bytes) (Mark.end ∷ []))
    bytes_close false bytes e = absurd cc
    bytes_close true bytes e = message_closes (frame_at bytes) e

    -- an event by which the dialogue is over
    pub event_closes : (idle_ms last : ℕ) (event : Event) (accepted : Bool)
        → life_by_event idle_ms last s context event accepted ≡ Life.over
        → Closes (marks_by_event id standing Life.over event accepted)
    event_closes idle_ms last Event.new_dialogue accepted e = absurd cc
    event_closes idle_ms last (Event.on_dialogue d r) true e = request_closes r e
    event_closes idle_ms last (Event.on_dialogue d r) false e = absurd cc
    event_closes idle_ms last (Event.received from bytes) accepted e = bytes_close (is_live s) bytes e
    event_closes idle_ms last (Event.moment now) true e = end_last (Mark.moment now ∷ [])
    event_closes idle_ms last (Event.moment now) false e = absurd cc

-- ---- an open invocation has a dialogue that stands

-- an accepted invoke leaves its dialogue as it was
invoke_leaves : (d : ℕ) (s : State) (c : Option (List ℕ)) (i : Invocation) (r : Request) (answer : Answer)
    (o : Option ℕ) → number_of answer ≡ o → invoked_under d r o ≡ Some i → (b : Bool)
    → (last idle_ms : ℕ) → life_if_named b last s c
    (record { event = Event.on_dialogue d r; answer = answer; idle_ms = idle_ms }) ≡ Life.over → ⊥
invoke_leaves d s c i r answer None q e b last idle_ms over = absurd cc
invoke_leaves d s c i r answer (Some n) q e false last idle_ms over = absurd cc
invoke_leaves d s c i r answer (Some n) q e true last idle_ms over = go r (is_accepted answer) e over
  where
    go : (r : Request) (a : Bool) → invoked_under d r (Some n) ≡ Some i → life_if_accepted a s c r ≡ Life.over → ⊥
    go r false e over = absurd cc
    go (Request.component (ComponentRequest.invoke id class code parameter linked timeout)) true e over = absurd cc
    go (Request.component (ComponentRequest.result_last id body)) true e over = absurd cc
    go (Request.component (ComponentRequest.result_more id body)) true e over = absurd cc
    go (Request.component (ComponentRequest.error_back id code parameter)) true e over = absurd cc
    go (Request.component (ComponentRequest.u_reject id problem)) true e over = absurd cc
    go (Request.component (ComponentRequest.u_cancel id)) true e over = absurd cc
    go (Request.dialogue (DialogueRequest.uni to context info)) true e over = absurd cc
    go (Request.dialogue (DialogueRequest.begin to context info)) true e over = absurd cc
    go (Request.dialogue (DialogueRequest.go_on context info)) true e over = absurd cc
    go (Request.dialogue (DialogueRequest.finish how context info)) true e over = absurd cc
    go (Request.dialogue (DialogueRequest.u_abort why info)) true e over = absurd cc

invoked_leaves : (event : Event) (answer : Answer) (i : Invocation) (s : State) (c : Option (List ℕ))
    → invoked_of event answer ≡ Some i → (b : Bool) (last idle_ms : ℕ)
    → life_if_named b last s c (record { event = event; answer = answer; idle_ms = idle_ms }) ≡ Life.over → ⊥
invoked_leaves Event.new_dialogue answer i s c e b last idle_ms over = absurd cc
invoked_leaves (Event.on_dialogue d r) answer i s c e b last idle_ms over =
    invoke_leaves d s c i r answer (number_of answer) refl e b last idle_ms over
invoked_leaves (Event.received from bytes) answer i s c e b last idle_ms over = absurd cc
invoked_leaves (Event.moment now) answer i s c e b last idle_ms over = absurd cc

module _ (start : Start) (pair : Pair) (past : Past) (n : ℕ) (i : Invocation) (legal : AreReplies start (pair ∷ past))
    (none : outcome n (pair ∷ past) ≡ None) (over : life i.dialogue (pair ∷ past) ≡ Life.over) where
  abbrev last : ℕ
  last = touched i.dialogue past

  -- it is made here
  new_stands : invoked_by pair ≡ Some i → ⊥
  new_stands q =
      let drawn : Draws (record { start = start; pairs = past }) i = draws start pair past i legal q in
      let there : life_if_named (names pair.event i.dialogue) last drawn.state drawn.context pair ≡ Life.over =
      ap (λ l. life_after i.dialogue last l pair) (sym drawn.stands) ∙ over in
      invoked_leaves pair.event pair.answer i drawn.state drawn.context q (names pair.event i.dialogue) last
      pair.idle_ms there

  -- it was made before, and its dialogue ends here
  ends_open : invocation_of n past ≡ Some i → (s : State) (c : Option (List ℕ))
      → life i.dialogue past ≡ Life.standing s c → ⊥
  ends_open found s c stands =
      go (names pair.event i.dialogue) refl (ap (λ l. life_after i.dialogue last l pair) (sym stands) ∙ over)
    where
      here : invocation_of n (pair ∷ past) ≡ Some i
      here = invocation_stays n pair past i found

      grown : span i (pair ∷ past) ≡ span i past ++ marks i.dialogue i.id pair past
      grown = span_grows i pair past (made_found n past i found)
          (unused_if_open start (pair ∷ past) n i legal here none)

      open_here : option_or (first_closing i.class i.timeout (span i past))
          (closing_after i.class i.timeout (span i past) (marks i.dialogue i.id pair past)) ≡ None
      open_here = sym (first_closing-append i.class i.timeout (span i past) (marks i.dialogue i.id pair past))
          ∙ (ap (first_closing i.class i.timeout) (sym grown)
          ∙ (ap (λ o. outcome_of o (pair ∷ past)) (sym here) ∙ none))

      second : (x y : Option Closing) → option_or x y ≡ None → y ≡ None
      second None y e = e
      second (Some x) y e = absurd cc

      go : (b : Bool) → names pair.event i.dialogue ≡ b → life_if_named b last s c pair ≡ Life.over → ⊥
      go false q e = absurd cc
      go true q e =
          let closes : is_some (closing_after i.class i.timeout (span i past)
          (noted_at_clock (clock past) (marks_by_event i.id (Life.standing s c) Life.over pair.event
          (is_accepted pair.answer)))) ≡ true =
          event_closes i.class i.timeout (clock past) (span i past) i.id s c pair.idle_ms last pair.event
          (is_accepted pair.answer) e in
          let marks_here : marks i.dialogue i.id pair past
          ≡ noted_at_clock (clock past) (marks_by_event i.id (Life.standing s c) Life.over pair.event
          (is_accepted pair.answer)) =
          standing_marks i.dialogue i.id pair.event pair.answer pair.idle_ms past s c stands q
          ∙ ap (λ l. noted_at_clock (clock past) (marks_by_event i.id (Life.standing s c) l pair.event
          (is_accepted pair.answer))) e in
          let never : false ≡ true =
          ap is_some (sym (second (first_closing i.class i.timeout (span i past))
          (closing_after i.class i.timeout (span i past) (marks i.dialogue i.id pair past)) open_here))
          ∙ (ap (λ z. is_some (closing_after i.class i.timeout (span i past) z)) marks_here ∙ closes) in
          cc

pub over_decided : (start : Start) (past : Past) (n : ℕ) (i : Invocation) → AreReplies start past
    → invocation_of n past ≡ Some i → life i.dialogue past ≡ Life.over → outcome n past ≡ None → ⊥
over_decided start [] n i legal found over none = absurd cc
over_decided start (pair ∷ past) n i legal found over none =
    go (invocation_of n past) (invoked_by pair) refl refl (sym (invocation_step n pair past) ∙ found) (outcome n past)
    refl (λ q l e. over_decided start past n i legal.2 q l e)
  where
    by_life : (l : Life) → life i.dialogue past ≡ l → invocation_of n past ≡ Some i → outcome n past ≡ None
        → (invocation_of n past ≡ Some i → life i.dialogue past ≡ Life.over → outcome n past ≡ None → ⊥) → ⊥
    by_life Life.unborn q f e ih = let never : false ≡ true =
        ap was_alive (sym q) ∙ found_alive start past n i legal.2 f in cc
    by_life Life.over q f e ih = ih f q e
    by_life (Life.standing s c) q f e ih = ends_open start pair past n i legal none over f s c q

    new : (j : Invocation) (b : Bool) → invoked_by pair ≡ Some j → cond b (Some j) None ≡ Some i → ⊥
    new j false p e = absurd cc
    new j true p e = let same : j ≡ i = cc in new_stands start pair past n i legal none over (p ∙ ap Some same)

    go : (o p : Option Invocation) → invocation_of n past ≡ o → invoked_by pair ≡ p
        → option_or o (find (λ (i : Invocation). i.number == n) (option_to_list p)) ≡ Some i
        → (c : Option Closing) → outcome n past ≡ c → (invocation_of n past ≡ Some i → life i.dialogue past ≡ Life.over
        → outcome n past ≡ None → ⊥) → ⊥
    go (Some j) p q w e None u ih = by_life (life i.dialogue past) refl (q ∙ e) u ih
    go (Some j) p q w e (Some c) u ih = let never : None ≡ Some c =
        sym none ∙ outcome_stays n pair past c u in absurd cc
    go None None q w e c u ih = absurd cc
    go None (Some j) q w e c u ih = new j (j.number == n) w e

-- ---- its timeout isn't 0

found_timely : (start : Start) (past : Past) (n : ℕ) (i : Invocation) → AreReplies start past
    → invocation_of n past ≡ Some i → 0 < i.timeout
found_timely start [] n i legal e = absurd cc
found_timely start (pair ∷ past) n i legal e =
    go (invocation_of n past) (invoked_by pair) refl refl (sym (invocation_step n pair past) ∙ e)
    (λ q. found_timely start past n i legal.2 q)
  where
    new : (j : Invocation) (b : Bool) → invoked_by pair ≡ Some j → cond b (Some j) None ≡ Some i → 0 < i.timeout
    new j false p e = absurd cc
    new j true p e =
        let same : j ≡ i = cc in
        let drawn : Draws (record { start = start; pairs = past }) j = draws start pair past j legal p in
        subst (λ (i : Invocation). 0 < i.timeout) same drawn.timely

    go : (o p : Option Invocation) → invocation_of n past ≡ o → invoked_by pair ≡ p
        → option_or o (find (λ (i : Invocation). i.number == n) (option_to_list p)) ≡ Some i
        → (invocation_of n past ≡ Some i → 0 < i.timeout) → 0 < i.timeout
    go (Some j) p q w e ih = ih (q ∙ e)
    go None None q w e ih = absurd cc
    go None (Some j) q w e ih = new j (j.number == n) w e

-- ---- counting

module _ (start : Start) (past : Past) (n : ℕ) (legal : AreReplies start past) where
  at_most_one : length (closings n past) ≤ 1
  at_most_one = rw (closings_are start past n legal) (go (decision n past))
    where
      go : (d : Option Told) → length (as_list d) ≤ 1
      go None = omega arith
      go (Some t) = omega arith

  one_if_decided : (outcome n past ≡ None → ⊥) → length (closings n past) ≡ 1
  one_if_decided decided =
      ap (λ (ts : List Told). length ts) (closings_are start past n legal)
      ∙ go (decision n past) (closing_of_decision n past)
    where
      go : (d : Option Told) → option_map (λ (t : Told). t.closing) d ≡ outcome n past → length (as_list d) ≡ 1
      go (Some t) e = refl
      go None e = absurd (decided (sym e))

  pub open_before : (i : Invocation) (t : ℕ) → invocation_of n past ≡ Some i → outcome n past ≡ None
      → deadline i past ≡ Some t → clock past < t
  open_before i t found none at =
      deadline_before n past i t found (unused_if_open start past n i legal found none)
      (found_timely start past n i legal found) none at

  late_one : (i : Invocation) (t : ℕ) → invocation_of n past ≡ Some i → deadline i past ≡ Some t → t ≤ clock past
      → length (closings n past) ≡ 1
  late_one i t found at late =
      one_if_decided (λ none. let early : clock past < t = open_before i t found none at in omega arith)

  over_one : (i : Invocation) → invocation_of n past ≡ Some i → life i.dialogue past ≡ Life.over
      → length (closings n past) ≡ 1
  over_one i found over = one_if_decided (λ none. over_decided start past n i legal found over none)

pub counted : (h : History) (n : ℕ) → AreReplies h.start h.pairs → Counted h n
counted h n legal = record {
  most = at_most_one h.start h.pairs n legal;
  late = late_one h.start h.pairs n legal;
  over = over_one h.start h.pairs n legal;
}
