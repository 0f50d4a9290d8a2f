-- Each component that is submitted is sent once, and in order.
use Rattle.std.proofs.Common.{◌≡◌, ℕ, ◌==◌, ◌&&◌, true, false, Bool, List, [], ◌∷◌, ◌++◌, map, option_to_list, Option, Some, None, if◌then◌else◌, refl, sym, ap, subst, ◌∙◌, append-nil, append_assoc}
use Rattle.std.proofs.lemmas.Bool.{and_parts, eqb-true, eq-eqb, true≢false}
use Rattle.std.proofs.lemmas.List.{map-append}
use Rattle.tcap_pdu.specs.FrameSpelling.{Message}
use Rattle.tcap_component.specs.Component.{ComponentParts}
use Rattle.tcap_model.specs.Words.Answer.{Answer, is_accepted}
use Rattle.tcap_model.specs.Procedures.ComponentRequest.{component_of}
use Rattle.tcap_model.specs.Replies.Due.{due, birth_due, due_by, standing_of}
use Rattle.tcap_model.specs.Words.Event.{Event}
use Rattle.tcap_model.specs.Words.Fault.{Fault}
use Rattle.tcap_model.specs.Histories.History.{History, Start}
use Rattle.tcap_model.specs.Replies.Legal.{AreReplies}
use Rattle.tcap_model.specs.Histories.Life.{Life, life}
use Rattle.tcap_model.specs.Invocations.Numbers.{number_of}
use Rattle.tcap_model.specs.Words.Output.{Output}
use Rattle.tcap_model.specs.Histories.Pair.{Pair, Past}
use Rattle.tcap_model.specs.Statements.Places.{Tells}
use Rattle.tcap_model.specs.Replies.Queue.{queue}
use Rattle.tcap_model.specs.Replies.Reply.{reply, accepted_answer, request_answer}
use Rattle.tcap_model.specs.Words.Request.{Request, ComponentRequest, DialogueRequest}
use Rattle.tcap_model.specs.Statements.SentInOrder.{octets_in, octets_on, octets_sent, HasComponents, HaveComponents, SendsNone, EachIsSentInOrder, EachQueueIsUnsent}
use Rattle.tcap_model.specs.Statements.Submitted.{Submitted, sends_components, is_sending, given_up_on, without_given_up, asked_for, submitted_by, octet_count, unsent, submitted_at, submitted}
use Rattle.tcap_model.specs.Words.Time.{moment_fault}
use Rattle.tcap_laws.proofs.Receptions.SentMessages.{Nothing, tells-sends, birth-sends, moment-sends, sent_for_bytes, sent_for_request}
use Rattle.tcap_laws.proofs.Submission.SentOctets.{IsBare, others-bare, none-bare, none-have, have-append, accepted-sends}
use Rattle.tcap_laws.proofs.Submission.SubmittedParts.{components, octets-same}
use Rattle.tcap_laws.proofs.Submission.SubmittedQueues.{queue-unsent}
use Rattle.tcap_laws.proofs.Submission.SubmittedRequests.{WaitsUnsent, waits-now}
use Rattle.tcap_laws.proofs.Receptions.ToldFromOctets.{legal-before}
use Rattle.tcap_laws.proofs.BoolLemmas.{and_false, and_true}
use Rattle.tcap_model.specs.Words.Address.{Address}

-- ---- what is submitted is sent, or it isn't sent yet

-- what was submitted up to the last request that sent components
abbrev gone : ℕ → Past → List Submitted
gone d [] = []
gone d (pair ∷ past) = if is_sending d pair then submitted d [] past else gone d past

no-component : (request : Request) → sends_components request ≡ true → component_of request ≡ None
no-component (Request.component (ComponentRequest.invoke id class code parameter linked timeout)) e =
    absurd (true≢false (sym e))
no-component (Request.component (ComponentRequest.result_last id body)) e = absurd (true≢false (sym e))
no-component (Request.component (ComponentRequest.result_more id body)) e = absurd (true≢false (sym e))
no-component (Request.component (ComponentRequest.error_back id code parameter)) e = absurd (true≢false (sym e))
no-component (Request.component (ComponentRequest.u_reject id problem)) e = absurd (true≢false (sym e))
no-component (Request.component (ComponentRequest.u_cancel id)) e = refl
no-component (Request.dialogue (DialogueRequest.uni to context info)) e = refl
no-component (Request.dialogue (DialogueRequest.begin to context info)) e = refl
no-component (Request.dialogue (DialogueRequest.go_on context info)) e = refl
no-component (Request.dialogue (DialogueRequest.finish ending context info)) e = refl
no-component (Request.dialogue (DialogueRequest.u_abort why info)) e = refl

none-asked : (request : Request) (answer : Answer) → sends_components request ≡ true → asked_for request answer ≡ []
none-asked request answer e =
    ap (λ (c : Option ComponentParts).
    map (λ part. record { component = part; number = number_of answer }) (option_to_list c)) (no-component request e)

-- a request that sends components submits none
sending-submits : (d waiting : ℕ) (event : Event) (answer : Answer) (idle_ms : ℕ) (past : Past) →
    is_sending d (record { event = event; answer = answer; idle_ms = idle_ms }) ≡ true → submitted_by d waiting past event answer ≡ []
sending-submits d waiting Event.new_dialogue answer idle_ms past e = refl
sending-submits d waiting (Event.received from bytes) answer idle_ms past e = absurd (true≢false (sym e))
sending-submits d waiting (Event.moment now) answer idle_ms past e = refl
sending-submits d waiting (Event.on_dialogue named request) answer idle_ms past e =
    let asks = (and_parts ((named == d) && sends_components request) (is_accepted answer) e).0 in
    let sends = (and_parts (named == d) (sends_components request) asks).1 in
    by ((named == d) && is_accepted answer) sends
  where
    by : (b : Bool) → sends_components request ≡ true → (if b then asked_for request answer else []) ≡ []
    by true sends = none-asked request answer sends
    by false sends = refl

-- by whether a pair sends, and what it gives up and submits
split-at : (sends : Bool) (d : ℕ) (given now : List ℕ) (made : List Submitted) (past : Past) →
    (sends ≡ true → made ≡ []) → submitted d (now ++ given) past ≡ gone d past ++ unsent d (now ++ given) past →
    submitted d (if sends then [] else now ++ given) past ++ without_given_up given made
    ≡ (if sends then submitted d [] past else gone d past)
    ++ (if sends then [] else unsent d (now ++ given) past ++ without_given_up given made)
split-at true d given now made past none same =
    ap (λ (ms : List Submitted). submitted d [] past ++ without_given_up given ms) (none refl)
split-at false d given now made past none same =
    ap (λ (ss : List Submitted). ss ++ without_given_up given made) same
    ∙ append_assoc (gone d past) (unsent d (now ++ given) past) (without_given_up given made)

split : (d : ℕ) (given : List ℕ) (past : Past) → submitted d given past ≡ gone d past ++ unsent d given past
split d given [] = refl
split d given (pair ∷ past) =
    let now : List ℕ = given_up_on d pair.event pair.answer in
    split-at (is_sending d pair) d given now (submitted_at d pair past) past
    (sending-submits d (octet_count (unsent d [] past)) pair.event pair.answer pair.idle_ms past) (split d (now ++ given) past)

-- ---- one pair

refused-octets : (answer : Answer) → is_accepted answer ≡ false → octets_in answer ≡ []
refused-octets (Answer.new_dialogue dialogue) e = absurd (true≢false e)
refused-octets (Answer.number number) e = absurd (true≢false e)
refused-octets Answer.done e = absurd (true≢false e)
refused-octets (Answer.given_up number) e = absurd (true≢false e)
refused-octets (Answer.outputs outputs) e = absurd (true≢false e)
refused-octets (Answer.refused fault) e = refl

module _ (h : History) (d : ℕ) (waits : WaitsUnsent d h.pairs) where
  -- what is sent has all that waits, or nothing
  abbrev Sends : List (List ℕ) → Bool → Type 0
  Sends messages all = HaveComponents messages (if all then components (unsent d [] h.pairs) else [])

  accepted-or-not : (request : Request) (answer : Answer) → Sends (octets_in answer) (sends_components request) →
      (accepted : Bool) → is_accepted answer ≡ accepted →
      Sends (octets_in answer) (sends_components request && is_accepted answer)
  accepted-or-not request answer sends true e =
      let same = ap (λ (b : Bool). sends_components request && b) e ∙ and_true (sends_components request) in
      subst (Sends (octets_in answer)) (sym same) sends
  accepted-or-not request answer sends false e =
      let none = ap (λ (b : Bool). sends_components request && b) e ∙ and_false (sends_components request) in
      subst (Sends (octets_in answer)) (sym none) (none-have (octets_in answer) (refused-octets answer e))

  refused-sends : (request : Request) → Sends [] (sends_components request && false)
  refused-sends request = subst (Sends []) (sym (and_false (sends_components request))) refl

  -- a request on the dialogue
  request-sends : (request : Request) (before : Life) (fault : Option Fault) →
      life d h.pairs ≡ before → due_by h d request before ≡ fault →
      Sends (octets_in (request_answer h d request before fault))
      (sends_components request && is_accepted (request_answer h d request before fault))
  request-sends request before (Some f) lives due = refused-sends request
  request-sends request Life.unborn None lives due = refused-sends request
  request-sends request Life.over None lives due = refused-sends request
  request-sends request (Life.standing state context) None lives due =
      let answer : Answer = accepted_answer h (standing_of d h.pairs state context) request in
      accepted-or-not request answer (accepted-sends h d state context lives waits request due)
      (is_accepted answer) refl

  abbrev answered : Event → Pair
  answered event = record { event = event; answer = reply h event; idle_ms = h.start.idle_ms }

  event-sends : (event : Event) → Sends (octets_on d event (reply h event)) (is_sending d (answered event))
  event-sends Event.new_dialogue = refl
  event-sends (Event.received from bytes) = refl
  event-sends (Event.moment now) = refl
  event-sends (Event.on_dialogue named request) = by (named == d) refl
    where
      by : (b : Bool) → (named == d) ≡ b →
          Sends (if b then octets_in (reply h (Event.on_dialogue named request)) else [])
          ((b && sends_components request) && is_accepted (reply h (Event.on_dialogue named request)))
      by false e = refl
      by true e =
          subst (λ (n : ℕ). Sends (octets_in (reply h (Event.on_dialogue n request)))
          (sends_components request && is_accepted (reply h (Event.on_dialogue n request)))) (sym (eqb-true named d e))
          (request-sends request (life d h.pairs) (due h d request) refl refl)

-- ---- all pairs

module _ (start : Start) (d : ℕ) where
  -- what a pair sends comes behind what was sent before
  sent-more : (pair : Pair) (past : Past) → AreReplies start (pair ∷ past) →
      HaveComponents (octets_sent d past) (components (gone d past)) → (sends : Bool) → is_sending d pair ≡ sends →
      HaveComponents (octets_sent d (pair ∷ past)) (components (if sends then submitted d [] past else gone d past))
  sent-more pair past legal before = by
    where
      now : HaveComponents (octets_on d pair.event pair.answer)
          (if is_sending d pair then components (unsent d [] past) else [])
      now =
          subst (λ (a : Answer). HaveComponents (octets_on d pair.event a)
          (if is_sending d (record { event = pair.event; answer = a; idle_ms = pair.idle_ms }) then components (unsent d [] past) else []))
          (sym legal.1)
          (event-sends (record { start = start; pairs = past }) d (queue-unsent start d past legal.2) pair.event)

      both : (cs : List ComponentParts) → HaveComponents (octets_on d pair.event pair.answer) cs →
          HaveComponents (octets_sent d (pair ∷ past)) (components (gone d past) ++ cs)
      both cs has =
          have-append (octets_sent d past) (octets_on d pair.event pair.answer) (components (gone d past)) cs before has

      by : (sends : Bool) → is_sending d pair ≡ sends →
          HaveComponents (octets_sent d (pair ∷ past)) (components (if sends then submitted d [] past else gone d past))
      by true e =
          let all : components (gone d past) ++ components (unsent d [] past) ≡ components (submitted d [] past) =
          sym (map-append (λ (s : Submitted). s.component) (gone d past) (unsent d [] past))
          ∙ sym (ap components (split d [] past)) in
          subst (HaveComponents (octets_sent d (pair ∷ past))) all
          (both (components (unsent d [] past)) (subst (λ (b : Bool).
          HaveComponents (octets_on d pair.event pair.answer) (if b then components (unsent d [] past) else [])) e now))
      by false e =
          subst (HaveComponents (octets_sent d (pair ∷ past))) (append-nil (components (gone d past)))
          (both [] (subst (λ (b : Bool).
          HaveComponents (octets_on d pair.event pair.answer) (if b then components (unsent d [] past) else [])) e now))

  sent-gone : (past : Past) → AreReplies start past → HaveComponents (octets_sent d past) (components (gone d past))
  sent-gone [] legal = refl
  sent-gone (pair ∷ past) legal = sent-more pair past legal (sent-gone past legal.2) (is_sending d pair) refl

  in-order : (pair : Pair) (before : Past) → AreReplies start (pair ∷ before) → is_sending d pair ≡ true →
      HaveComponents (octets_sent d (pair ∷ before)) (components (submitted d [] before))
  in-order pair before legal sends =
      sent-more pair before legal (sent-gone before legal.2) true sends

-- ---- no other Send has components

module _ (h : History) (to : Address) (bytes : List ℕ) where
  no-others : (event : Event) → SendsNone (record { event = event; answer = reply h event; idle_ms = h.start.idle_ms }) →
      Tells (reply h event) (Output.send to bytes) → HasComponents bytes []
  no-others Event.new_dialogue none tells =
      absurd (tells-sends Nothing (reply h Event.new_dialogue) to bytes (birth-sends h (birth_due h)) tells)
  no-others (Event.moment now) none tells =
      let sends = moment-sends h.start.idle_ms h.pairs now (moment_fault now) in
      absurd (tells-sends Nothing (reply h (Event.moment now)) to bytes sends tells)
  no-others (Event.received from octets) none tells =
      let sent = sent_for_bytes h from octets to bytes tells in
      none-bare bytes (Message.abort sent.peer sent.reason) sent.is_message.spelled refl
  no-others (Event.on_dialogue named request) none tells =
      let answer : Answer = reply h (Event.on_dialogue named request) in
      let sends : Bool = sends_components request in
      let accepted : is_accepted answer ≡ true = ap is_accepted tells.is_answer in
      let here : (sends && is_accepted answer) ≡ false =
      sym (ap (λ (b : Bool). (b && sends) && is_accepted answer) (eq-eqb named named refl)) ∙ none named in
      let other : sends ≡ false = sym (and_true sends) ∙ (ap (λ (b : Bool). sends && b) (sym accepted) ∙ here) in
      let sent = sent_for_request h named request to bytes tells in
      let bare = others-bare (standing_of named h.pairs sent.state sent.context) request other in
      none-bare bytes sent.message sent.is_message.spelled (subst IsBare sent.is_asked bare)

-- ---- the statements

pub sent-once : EachIsSentInOrder
sent-once h legal = record {
  in_order = λ d pair before stands sends.
      let here = legal-before h.start stands.later (pair ∷ before)
      (subst (AreReplies h.start) stands.is_past legal.1) in
      in-order h.start d pair before here sends;
  no_others = λ pair before to bytes stands none tells.
      let here = legal-before h.start stands.later (pair ∷ before)
      (subst (AreReplies h.start) stands.is_past legal.1) in
      no-others (record { start = h.start; pairs = before }) to bytes pair.event
      (λ d. sym (ap (λ (a : Answer). is_sending d (record { event = pair.event; answer = a; idle_ms = pair.idle_ms })) here.1) ∙ none d)
      (subst (λ (a : Answer). Tells a (Output.send to bytes)) here.1 tells);
}

pub queue-is-unsent : EachQueueIsUnsent
queue-is-unsent h legal dialogue =
    octets-same (unsent dialogue [] h.pairs) (queue dialogue h.pairs)
    (waits-now dialogue h.pairs (queue-unsent h.start dialogue h.pairs legal.1))
