-- What a legal history tells of components stands for what was received.
use Rattle.std.proofs.Common.{ℕ, true, false, Bool, List, [], ◌∷◌, ◌++◌, nat_lt, Option, Some, None, Ok, Err, if◌then◌else◌, refl, sym, subst, ◌∙◌}
use Rattle.std.specs.List.{AllByRecursion}
use Rattle.tcap_pdu.specs.FrameSpelling.{Message, SpellsFrame}
use Rattle.tcap_model.specs.Procedures.AbortRules.{sent_if_any}
use Rattle.tcap_model.specs.Words.Answer.{Answer}
use Rattle.tcap_model.specs.Histories.Birth.{next_dialogue}
use Rattle.tcap_model.specs.Histories.Clock.{clock}
use Rattle.tcap_model.specs.Procedures.ComponentHandling.{Item, SentInvocation, Handled, subject_of, handled}
use Rattle.tcap_model.specs.Replies.Due.{due, birth_due, standing_of}
use Rattle.tcap_model.specs.Words.Event.{Event}
use Rattle.tcap_model.specs.Words.Fault.{Fault}
use Rattle.tcap_model.specs.Replies.Held.{pending}
use Rattle.tcap_model.specs.Histories.History.{History, Start}
use Rattle.tcap_model.specs.Replies.Legal.{AreReplies}
use Rattle.tcap_model.specs.Histories.Life.{Life, life}
use Rattle.tcap_model.specs.Words.Output.{Output, Closing, Rejector, ComponentIndication}
use Rattle.tcap_model.specs.Histories.Pair.{Past}
use Rattle.tcap_model.specs.Procedures.Reception.{Reception}
use Rattle.tcap_model.specs.Replies.Reply.{ended_in, given_up_answer, last_answer, accepted_answer, request_answer, moment_outputs, moment_answer, birth_answer, reply, request_sent}
use Rattle.tcap_model.specs.Words.Request.{Request, ComponentRequest, DialogueRequest}
use Rattle.tcap_model.specs.Procedures.RequestMessage.{message_of, request_address}
use Rattle.tcap_model.specs.Procedures.Standing.{Standing}
use Rattle.tcap_model.specs.Words.Time.{moment_fault}
use Rattle.tcap_laws.proofs.Receptions.EachComponent.{IsReadIn}
use Rattle.tcap_laws.proofs.Receptions.EachMoment.{HoldsAtMoments, each-moment}
use Rattle.tcap_laws.proofs.Receptions.EachOutput.{HoldsBesides, HoldsOfEach, received_at, each-ended, each-received}
use Rattle.tcap_laws.proofs.Receptions.HandledComponents.{ComesOf, comes_of}
use Rattle.tcap_laws.proofs.ListLemmas.{each-append, one-of}
use Rattle.tcap_model.specs.Invocations.SentThere.{sent_there}
use Rattle.tcap_model.specs.Statements.ToldFrom.{EachIsToldFrom, IsOfComponent, StandsFor, ToldFromOne}
use Rattle.tcap_model.specs.Statements.ComponentPortion.{portion_of}
use Rattle.tcap_model.specs.Words.Address.{Address}
use Rattle.tcap_model.specs.Histories.Kept.{kept_address}

-- ---- outputs that are no indication of a component

abbrev IsAnswering : Closing → Type 0
IsAnswering (Closing.result_last body) = Unit {0}
IsAnswering (Closing.error_back code parameter) = Unit {0}
IsAnswering (Closing.rejected problem Rejector.local) = ⊥
IsAnswering (Closing.rejected problem Rejector.remote_provider) = ⊥
IsAnswering (Closing.rejected problem Rejector.remote_user) = Unit {0}
IsAnswering Closing.lapsed = ⊥
IsAnswering Closing.ended = ⊥
IsAnswering Closing.given_up = ⊥

-- the indications of components, by their form
abbrev Indicates : Output → Type 0
Indicates (Output.send to bytes) = ⊥
Indicates (Output.dialogue indication) = ⊥
Indicates (Output.component (ComponentIndication.invoked dialogue id linked code parameter)) = Unit {0}
Indicates (Output.component (ComponentIndication.result_more dialogue number id body)) = Unit {0}
Indicates (Output.component (ComponentIndication.local_reject dialogue id problem)) = ⊥
Indicates (Output.component (ComponentIndication.remote_reject dialogue id problem by)) = ⊥
Indicates (Output.component (ComponentIndication.closed dialogue number id closing)) = IsAnswering closing
Indicates (Output.dropped why) = ⊥

indicates : (output : Output) → IsOfComponent output → Indicates output
indicates _ (IsOfComponent.invoke dialogue id linked code parameter) = tt
indicates _ (IsOfComponent.result_more dialogue number id body) = tt
indicates _ (IsOfComponent.result_last dialogue number id body) = tt
indicates _ (IsOfComponent.error_back dialogue number id code parameter) = tt
indicates _ (IsOfComponent.rejected dialogue number id problem) = tt

-- ---- one component

-- an output stands for the component that was read
abbrev StandsForItem : Item → Output → Type 0
StandsForItem (Ok c) output = StandsFor output c
StandsForItem (Err f) output = ⊥

shows : (dialogue : Option ℕ) (sent : Option SentInvocation) (item : Item) (h : Handled) → ComesOf dialogue sent item h
    → IsOfComponent h.told → StandsForItem item h.told
shows dialogue _ _ _ (ComesOf.an_invoke sent id linked code parameter) of =
    StandsFor.an_invoke dialogue id linked code parameter
shows dialogue _ _ _ (ComesOf.not_sent item id problem carries here) of = absurd (indicates _ of)
shows dialogue _ _ _ (ComesOf.a_result_last sent id body) of = StandsFor.a_result_last sent.dialogue sent.number id body
shows dialogue _ _ _ (ComesOf.a_result_more sent id body) of = StandsFor.a_result_more sent.dialogue sent.number id body
shows dialogue _ _ _ (ComesOf.an_error sent id code parameter) of =
    StandsFor.an_error sent.dialogue sent.number id code parameter
shows dialogue _ _ _ (ComesOf.unexpected sent item id problem carries here) of = absurd (indicates _ of)
shows dialogue _ _ _ (ComesOf.by_provider sent id problem kind provided) of = absurd (indicates _ of)
shows dialogue _ _ _ (ComesOf.by_user sent id problem kind provided) of =
    StandsFor.a_reject sent.dialogue sent.number id problem
shows dialogue _ _ _ (ComesOf.of_none sent named id problem) of = absurd (indicates _ of)
shows dialogue _ _ _ (ComesOf.of_fault sent f) of = indicates _ of

-- ---- all that is told

-- what an output stands for, if it is an indication of a component
abbrev StandsForOne : Event → Output → Type 0
StandsForOne event output = IsOfComponent output → ToldFromOne event output

abbrev AllStand : Event → List Output → Type 0
AllStand event outputs = AllByRecursion (StandsForOne event) outputs

besides-stand : (event : Event) → HoldsBesides (StandsForOne event)
besides-stand event = record {
  sends = λ to bytes of. absurd (indicates _ of);
  tells = λ indication of. absurd (indicates _ of);
  ends = λ dialogue number id of. absurd (indicates _ of);
  drops = λ why of. absurd (indicates _ of);
}

module _ (from : Address) (bytes : List ℕ) (m : Message) (spelled : SpellsFrame m bytes) where
  one-stands : (item : Item) → IsReadIn (portion_of m) item → (output : Output)
      → (IsOfComponent output → StandsForItem item output)
      → StandsForOne (Event.received from bytes) output
  one-stands (Ok c) read output shown of = record {
    from = from;
    bytes = bytes;
    message = m;
    earlier = read.earlier;
    component = c;
    later = read.later;
    fault = read.fault;
    is_event = refl;
    spelled = spelled;
    read = read.first;
    stands_for = shown of;
  }
  one-stands (Err f) read output shown of = absurd (shown of)

  handled-stands : (dialogue : Option ℕ) (sent : Option SentInvocation) (item : Item) → IsReadIn (portion_of m) item
      → StandsForOne (Event.received from bytes) (handled dialogue sent item).told
  handled-stands dialogue sent item read =
      one-stands item read (handled dialogue sent item).told
      (shows dialogue sent item (handled dialogue sent item) (comes_of dialogue sent item))

each-stands : (h : History) (from : Address) (bytes : List ℕ) (r : Reception)
    → HoldsOfEach (StandsForOne (Event.received from bytes)) h from bytes r
each-stands h from bytes r = record {
  of_uni = λ m spelled. handled-stands from bytes m spelled None None;
  of_named = λ m spelled dialogue named earlier item read.
      handled-stands from bytes m spelled (Some dialogue)
      (sent_there dialogue h.pairs earlier (subject_of item)) item read;
  of_born = λ m spelled begun earlier item read.
      let next = next_dialogue h in
      handled-stands from bytes m spelled (Some next) (sent_there next h.pairs earlier (subject_of item)) item read;
}

ended-stand : (event : Event) (dialogue : ℕ) (past : Past) (components : List Item)
    → AllStand event (ended_in dialogue past components)
ended-stand event = each-ended (StandsForOne event) (λ dialogue number id of. absurd (indicates _ of))

sent_if_any-stand : (event : Event) (to : Address) (message : Option Message) → AllStand event (sent_if_any to message)
sent_if_any-stand event to None = tt
sent_if_any-stand event to (Some m) = ((λ of. absurd (indicates _ of)), tt)

-- ---- all replies

abbrev AnswerStands : Event → Answer → Type 0
AnswerStands event (Answer.new_dialogue dialogue) = Unit {0}
AnswerStands event (Answer.number n) = Unit {0}
AnswerStands event Answer.done = Unit {0}
AnswerStands event (Answer.given_up n) = Unit {0}
AnswerStands event (Answer.outputs outputs) = AllStand event outputs
AnswerStands event (Answer.refused fault) = Unit {0}

request-sent : (event : Event) (past : Past) (d : Standing) (request : Request)
    → AllStand event (request_sent past d request)
request-sent event past d request =
    sent_if_any-stand event (request_address (kept_address d.identifier past) request) (message_of d request)

last-stands : (event : Event) (past : Past) (d : Standing) (request : Request)
    → AnswerStands event (last_answer past d request)
last-stands event past d request =
    each-append (StandsForOne event) (request_sent past d request) (ended_in d.identifier past [])
    (request-sent event past d request) (ended-stand event d.identifier past [])

given_up-stands : (event : Event) (number : Option ℕ) → AnswerStands event (given_up_answer number)
given_up-stands event None = tt
given_up-stands event (Some n) = tt

accepted-stands : (event : Event) (h : History) (d : Standing) (request : Request)
    → AnswerStands event (accepted_answer h d request)
accepted-stands event h d (Request.component (ComponentRequest.invoke id class code parameter linked timeout)) = tt
accepted-stands event h d (Request.component (ComponentRequest.result_last id body)) = tt
accepted-stands event h d (Request.component (ComponentRequest.result_more id body)) = tt
accepted-stands event h d (Request.component (ComponentRequest.error_back id code parameter)) = tt
accepted-stands event h d (Request.component (ComponentRequest.u_reject id problem)) = tt
accepted-stands event h d (Request.component (ComponentRequest.u_cancel id)) =
    given_up-stands event (pending d.identifier id h.pairs)
accepted-stands event h d (Request.dialogue (DialogueRequest.uni to context info)) =
    last-stands event h.pairs d (Request.dialogue (DialogueRequest.uni to context info))
accepted-stands event h d (Request.dialogue (DialogueRequest.begin to context info)) =
    request-sent event h.pairs d (Request.dialogue (DialogueRequest.begin to context info))
accepted-stands event h d (Request.dialogue (DialogueRequest.go_on context info)) =
    request-sent event h.pairs d (Request.dialogue (DialogueRequest.go_on context info))
accepted-stands event h d (Request.dialogue (DialogueRequest.finish ending context info)) =
    last-stands event h.pairs d (Request.dialogue (DialogueRequest.finish ending context info))
accepted-stands event h d (Request.dialogue (DialogueRequest.u_abort why info)) =
    last-stands event h.pairs d (Request.dialogue (DialogueRequest.u_abort why info))

request-stands : (event : Event) (h : History) (dialogue : ℕ) (request : Request) (before : Life) (fault : Option Fault)
    → AnswerStands event (request_answer h dialogue request before fault)
request-stands event h dialogue request before (Some f) = tt
request-stands event h dialogue request Life.unborn None = tt
request-stands event h dialogue request Life.over None = tt
request-stands event h dialogue request (Life.standing state context) None =
    accepted-stands event h (standing_of dialogue h.pairs state context) request

moment-stands : (event : Event) (idle_ms : ℕ) (past : Past) (now : ℕ) (fault : Option Fault)
    → AnswerStands event (moment_answer idle_ms past now fault)
moment-stands event idle_ms past now (Some f) = tt
moment-stands event idle_ms past now None = chosen (nat_lt now (clock past))
  where
    holds : HoldsAtMoments (StandsForOne event)
    holds = record {
      lapses = λ l of. absurd (indicates _ of);
      aborts = λ dialogue of. absurd (indicates _ of);
      ends = λ dialogue number id of. absurd (indicates _ of);
    }

    chosen : (early : Bool)
        → AnswerStands event (if early then Answer.outputs [] else Answer.outputs (moment_outputs idle_ms past now))
    chosen true = tt
    chosen false = each-moment (StandsForOne event) holds past now idle_ms

birth-stands : (event : Event) (h : History) (fault : Option Fault) → AnswerStands event (birth_answer h fault)
birth-stands event h (Some f) = tt
birth-stands event h None = tt

reply-stands : (h : History) (event : Event) → AnswerStands event (reply h event)
reply-stands h Event.new_dialogue = birth-stands Event.new_dialogue h (birth_due h)
reply-stands h (Event.on_dialogue dialogue request) =
    request-stands (Event.on_dialogue dialogue request) h dialogue request (life dialogue h.pairs)
    (due h dialogue request)
reply-stands h (Event.received from bytes) =
    each-received (StandsForOne (Event.received from bytes)) (besides-stand (Event.received from bytes)) h from bytes
    (each-stands h from bytes (received_at h bytes))
reply-stands h (Event.moment now) = moment-stands (Event.moment now) h.start.idle_ms h.pairs now (moment_fault now)

-- ---- legal histories

-- what stands before a place of a legal history is legal
pub legal-before : (start : Start) (later past : Past) → AreReplies start (later ++ past) → AreReplies start past
legal-before start [] past legal = legal
legal-before start (pair ∷ later) past legal = legal-before start later past legal.2

pub told-from : EachIsToldFrom
told-from h legal told =
    let here = legal-before h.start told.stands.later (told.pair ∷ told.before)
    (subst (AreReplies h.start) told.stands.is_past legal.1) in
    let all = subst (AnswerStands told.pair.event) (sym here.1 ∙ told.tells.is_answer)
    (reply-stands (record { start = h.start; pairs = told.before }) told.pair.event) in
    one-of (StandsForOne told.pair.event) told.tells.earlier told.tells.later told.output all told.is_of_component
