-- What is told of received bytes: an answer is told in a dialogue that the bytes name, a Reject by the
-- peer's user has a problem of a user, and a local one a problem of the component sublayer.
use Rattle.std.proofs.Common.{◌≡◌, ℕ, ℤ, true, false, Bool, List, [], ◌∷◌, Option, Some, None, refl, sym, ap, subst, ◌∙◌, arith}
use Rattle.std.specs.Prelude.{cond}
use Rattle.std.specs.Option.{option_or}
use Rattle.tcap_component.specs.ComponentFault.{FaultParts, IsComponentFault}
use Rattle.tcap_component.specs.ComponentFault.IsComponentFault.{unreadable, unrecognized, unstructured, mistyped}
use Rattle.tcap_component.specs.Problem.{is_by_provider}
use Rattle.tcap_model.specs.Histories.Birth.{next_dialogue}
use Rattle.tcap_model.specs.Procedures.ComponentHandling.{Item, SentInvocation, Handled, subject_of, handled}
use Rattle.tcap_model.specs.Procedures.Reception.{Reception}
use Rattle.tcap_model.specs.Words.Address.{Address}
use Rattle.tcap_model.specs.Words.Event.{Event}
use Rattle.tcap_model.specs.Histories.History.{History, Start}
use Rattle.tcap_model.specs.Invocations.Invocation.{Invocation, invoked_by, latest, with_id, has_id}
use Rattle.tcap_model.specs.Replies.Legal.{AreReplies}
use Rattle.tcap_model.specs.Histories.Life.{Life, life, touched}
use Rattle.tcap_model.specs.Words.Output.{Output, Closing, Rejector, ComponentIndication}
use Rattle.tcap_model.specs.Histories.Pair.{Past}
use Rattle.tcap_model.specs.Replies.Reply.{reply}
use Rattle.tcap_model.specs.Statements.Places.{Tells}
use Rattle.tcap_laws.proofs.Births.DrawnDialogues.{beyond-unborn, unborn-life}
use Rattle.tcap_laws.proofs.Spans.MarksAfterBirth.{was_alive, stays_alive}
use Rattle.tcap_laws.proofs.Spans.DrawnInvocations.{draws}
use Rattle.tcap_laws.proofs.Queues.FormedRejects.{IsSentOf, sent_there-of}
use Rattle.tcap_laws.proofs.Receptions.BytesNames.{names_in}
use Rattle.tcap_laws.proofs.Receptions.EachComponent.{IsReadIn}
use Rattle.tcap_laws.proofs.Receptions.EachOutput.{HoldsBesides, HoldsOfEach, received_at, one-received}
use Rattle.tcap_laws.proofs.Receptions.HandledComponents.{ComesOf, comes_of}
use Rattle.tcap_laws.proofs.Spans.LatestInvocations.{id_of}
use Rattle.tcap_model.specs.Invocations.SentThere.{if_sent, sent_there}
use Rattle.tcap_model.specs.Statements.ComponentPortion.{portion_of}

-- ---- fair tellings

-- bytes name a dialogue, from wherever they come
abbrev pub IsNamedBy : List ℕ → ℕ → Type 0
IsNamedBy bytes dialogue = names_in bytes dialogue ≡ true

abbrev pub FairClosing : List ℕ → ℕ → Closing → Type 0
FairClosing bytes dialogue (Closing.result_last body) = IsNamedBy bytes dialogue
FairClosing bytes dialogue (Closing.error_back code parameter) = IsNamedBy bytes dialogue
FairClosing bytes dialogue (Closing.rejected problem Rejector.local) = is_by_provider problem ≡ true
FairClosing bytes dialogue (Closing.rejected problem Rejector.remote_provider) = Unit {0}
FairClosing bytes dialogue (Closing.rejected problem Rejector.remote_user) =
    IsNamedBy bytes dialogue × (is_by_provider problem ≡ false)
FairClosing bytes dialogue Closing.lapsed = Unit {0}
FairClosing bytes dialogue Closing.ended = Unit {0}
FairClosing bytes dialogue Closing.given_up = Unit {0}

abbrev pub Fair : List ℕ → Output → Type 0
Fair bytes (Output.send to octets) = Unit {0}
Fair bytes (Output.dialogue indication) = Unit {0}
Fair bytes (Output.component (ComponentIndication.invoked dialogue id linked code parameter)) = Unit {0}
Fair bytes (Output.component (ComponentIndication.result_more dialogue number id body)) = IsNamedBy bytes dialogue
Fair bytes (Output.component (ComponentIndication.local_reject dialogue id problem)) = is_by_provider problem ≡ true
Fair bytes (Output.component (ComponentIndication.remote_reject dialogue id problem by)) = Unit {0}
Fair bytes (Output.component (ComponentIndication.closed dialogue number id closing)) =
    FairClosing bytes dialogue closing
Fair bytes (Output.dropped why) = Unit {0}

-- ---- one component

-- what can't be read is rejected by the component sublayer
fault_here : (bytes : List ℕ) (f : FaultParts) → IsComponentFault bytes f → is_by_provider f.problem ≡ true
fault_here _ _ (unreadable bytes none) = refl
fault_here _ _ (unrecognized e rest id is none tells) = refl
fault_here _ _ (unstructured e rest id is has none tells) = refl
fault_here _ _ (mistyped e rest id is has structured none tells) = refl

-- the invocation that a component is about is of a dialogue that the bytes name
abbrev IsReached : List ℕ → Option SentInvocation → Type 0
IsReached bytes None = Unit {0}
IsReached bytes (Some sent) = IsNamedBy bytes sent.dialogue

is-fair : (bytes content : List ℕ) (dialogue : Option ℕ) (sent : Option SentInvocation) (item : Item) (h : Handled)
    → ComesOf dialogue sent item h → IsReached bytes sent → IsReadIn content item → Fair bytes h.told
is-fair bytes content _ _ _ _ (ComesOf.an_invoke sent id linked code parameter) reached read = tt
is-fair bytes content _ _ _ _ (ComesOf.not_sent item id problem carries here) reached read = here.is_provided
is-fair bytes content _ _ _ _ (ComesOf.a_result_last sent id body) reached read = reached
is-fair bytes content _ _ _ _ (ComesOf.a_result_more sent id body) reached read = reached
is-fair bytes content _ _ _ _ (ComesOf.an_error sent id code parameter) reached read = reached
is-fair bytes content _ _ _ _ (ComesOf.unexpected sent item id problem carries here) reached read = here.is_provided
is-fair bytes content _ _ _ _ (ComesOf.by_provider sent id problem of provided) reached read = tt
is-fair bytes content _ _ _ _ (ComesOf.by_user sent id problem of provided) reached read = (reached, provided)
is-fair bytes content _ _ _ _ (ComesOf.of_none sent named id problem) reached read = tt
is-fair bytes content _ _ _ _ (ComesOf.of_fault sent f) reached read = fault_here read.0 f read.1

handled-fair : (bytes content : List ℕ) (dialogue : Option ℕ) (sent : Option SentInvocation) (item : Item)
    → IsReached bytes sent → IsReadIn content item → Fair bytes (handled dialogue sent item).told
handled-fair bytes content dialogue sent item =
    is-fair bytes content dialogue sent item (handled dialogue sent item) (comes_of dialogue sent item)

-- ---- the invocations that components of a message are about

-- an invocation that is Sent for an identifier of a dialogue is of that dialogue
reached-named : (bytes : List ℕ) (dialogue : ℕ) (sent : Option SentInvocation) → IsNamedBy bytes dialogue
    → IsSentOf dialogue sent → IsReached bytes sent
reached-named bytes dialogue None named of = tt
reached-named bytes dialogue (Some sent) named of = subst (IsNamedBy bytes) (sym of) named

reached-there : (bytes : List ℕ) (dialogue : ℕ) (past : Past) → IsNamedBy bytes dialogue
    → (earlier : List Item) (subject : Option ℤ) → IsReached bytes (sent_there dialogue past earlier subject)
reached-there bytes dialogue past named earlier subject =
    reached-named bytes dialogue (sent_there dialogue past earlier subject) named
    (sent_there-of dialogue past earlier subject)

-- ---- a dialogue that is not born yet has no invocation

latest-alive : (start : Start) (dialogue : ℕ) (id : ℤ) (past : Past) (i : Invocation) → AreReplies start past
    → latest dialogue id past ≡ Some i → was_alive (life dialogue past) ≡ true
latest-alive start dialogue id [] i legal e = absurd cc
latest-alive start dialogue id (pair ∷ past) i legal e =
    stays_alive dialogue (touched dialogue past) (life dialogue past) pair
    (made (invoked_by pair) refl e (λ j q. latest-alive start dialogue id past j legal.2 q))
  where
    alive : (j : Invocation) → invoked_by pair ≡ Some j → j.dialogue ≡ dialogue → was_alive (life dialogue past) ≡ true
    alive j q same =
        let stood = draws start pair past j legal q in
        ap (λ (d : ℕ). was_alive (life d past)) (sym same) ∙ ap was_alive stood.stands

    here : (j : Invocation) → invoked_by pair ≡ Some j
        → ((j : Invocation) → latest dialogue id past ≡ Some j → was_alive (life dialogue past) ≡ true) → (b : Bool)
        → has_id dialogue id j ≡ b → option_or (cond b (Some j) None) (latest dialogue id past) ≡ Some i
        → was_alive (life dialogue past) ≡ true
    here j q before true p e = alive j q (id_of dialogue id j p).0
    here j q before false p e = before i e

    made : (o : Option Invocation) → invoked_by pair ≡ o
        → option_or (with_id dialogue id o) (latest dialogue id past) ≡ Some i
        → ((j : Invocation) → latest dialogue id past ≡ Some j → was_alive (life dialogue past) ≡ true)
        → was_alive (life dialogue past) ≡ true
    made None q e before = before i e
    made (Some j) q e before = here j q before (has_id dialogue id j) refl e

no-latest : (h : History) (id : ℤ) → AreReplies h.start h.pairs → latest (next_dialogue h) id h.pairs ≡ None
no-latest h id legal = go (latest (next_dialogue h) id h.pairs) refl
  where
    unborn : life (next_dialogue h) h.pairs ≡ Life.unborn
    unborn = unborn-life (next_dialogue h) h.pairs (beyond-unborn h.start h.pairs legal (next_dialogue h) (omega arith))

    go : (o : Option Invocation) → latest (next_dialogue h) id h.pairs ≡ o → latest (next_dialogue h) id h.pairs ≡ None
    go None q = q
    go (Some i) q = let never : false ≡ true =
        ap was_alive (sym unborn) ∙ latest-alive h.start (next_dialogue h) id h.pairs i legal q in absurd cc

next-reached : (bytes : List ℕ) (h : History) → AreReplies h.start h.pairs → (earlier : List Item) (subject : Option ℤ)
    → IsReached bytes (sent_there (next_dialogue h) h.pairs earlier subject)
next-reached bytes h legal earlier None = tt
next-reached bytes h legal earlier (Some id) =
    subst (λ (o : Option Invocation). IsReached bytes (if_sent h.pairs earlier o)) (sym (no-latest h id legal)) tt

-- ---- all that is told

module _ (h : History) (legal : AreReplies h.start h.pairs) (from : Address) (bytes : List ℕ) where
  besides-fair : HoldsBesides (Fair bytes)
  besides-fair =
      record { sends = λ to octets. tt; tells = λ indication. tt; ends = λ dialogue number id. tt; drops = λ why. tt }

  each-fair : (r : Reception) → HoldsOfEach (Fair bytes) h from bytes r
  each-fair r = record {
    of_uni = λ m spelled item read. handled-fair bytes (portion_of m) None None item tt read;
    of_named = λ m spelled dialogue named earlier item read.
        let sent = sent_there dialogue h.pairs earlier (subject_of item) in
        let reached = reached-there bytes dialogue h.pairs named earlier (subject_of item) in
        handled-fair bytes (portion_of m) (Some dialogue) sent item reached read;
    of_born = λ m spelled begun earlier item read.
        let sent = sent_there (next_dialogue h) h.pairs earlier (subject_of item) in
        let reached = next-reached bytes h legal earlier (subject_of item) in
        handled-fair bytes (portion_of m) (Some (next_dialogue h)) sent item reached read;
  }

  pub reply-fair : (output : Output) → Tells (reply h (Event.received from bytes)) output → Fair bytes output
  reply-fair output tells =
      one-received (Fair bytes) besides-fair h from bytes (each-fair (received_at h bytes)) output tells
