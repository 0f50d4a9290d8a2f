-- What is told of received bytes, and of what: an answer of an invocation of its dialogue and its
-- identifier, an Invoke in a dialogue that the bytes name or create.
use Rattle.std.proofs.Common.{◌≡◌, ◌⊎◌, ℕ, ℤ, true, false, Bool, List, Option, Some, None, refl, ap, ◌∙◌, inl, inr}
use Rattle.std.proofs.lemmas.Bool.{eq-eqb}
use Rattle.std.specs.Prelude.{cond}
use Rattle.tcap_component.specs.declared.problem.Kind.{Kind}
use Rattle.tcap_component.specs.declared.problem.Kind.TheVariants as kind
use Rattle.tcap_model.specs.Histories.Birth.{next_dialogue, first_begun, born_on_message}
use Rattle.tcap_model.specs.Procedures.ComponentHandling.{Item, SentInvocation, Handled, subject_of, handled}
use Rattle.tcap_model.specs.Procedures.Problems.{is_of_answer}
use Rattle.tcap_model.specs.Histories.History.{History, Start}
use Rattle.tcap_model.specs.Words.Address.{Address}
use Rattle.tcap_model.specs.Words.Event.{Event}
use Rattle.tcap_model.specs.Invocations.Invocation.{Invocation, invocation_of, latest}
use Rattle.tcap_model.specs.Replies.Legal.{AreReplies}
use Rattle.tcap_model.specs.Words.LocalId.{is_that}
use Rattle.tcap_model.specs.Invocations.Outcome.{is_sent_in}
use Rattle.tcap_model.specs.Words.Output.{Output, Closing, Rejector, ComponentIndication}
use Rattle.tcap_model.specs.Histories.Pair.{Past}
use Rattle.tcap_model.specs.Replies.Reply.{reception_outputs, reply}
use Rattle.tcap_model.specs.Statements.Places.{Tells}
use Rattle.tcap_laws.proofs.FarEnds.FairTellings.{IsNamedBy}
use Rattle.tcap_laws.proofs.Receptions.EachOutput.{HoldsBesides, HoldsOfEach, received_at, one-received}
use Rattle.tcap_laws.proofs.Receptions.HandledComponents.{ComesOf, comes_of}
use Rattle.tcap_laws.proofs.Spans.LatestInvocations.{IsLatest, latest_is}
use Rattle.tcap_model.specs.Invocations.SentThere.{if_sent, marks_up_to, sent_there}

-- ---- what is told, and of what

-- the number is that of an invocation of this dialogue with this identifier
pub record IsOf (past : Past) (dialogue number : ℕ) (id : ℤ) : Type 0 where
  pub invocation : Invocation
  pub dialogue_is : invocation.dialogue ≡ dialogue
  pub number_is : invocation.number ≡ number
  pub id_is : invocation.id ≡ id
  pub is_found : invocation_of invocation.number past ≡ Some invocation

-- the problem is one of an Invoke
abbrev pub RejectsInvoke : Kind → Type 0
RejectsInvoke kind.General = Unit {0}
RejectsInvoke kind.Invoke = Unit {0}
RejectsInvoke kind.Result = ⊥
RejectsInvoke kind.Error = ⊥

-- bytes name this dialogue, or create it
abbrev pub IsPlaced : List ℕ → Option ℕ → Option ℕ → Type 0
IsPlaced bytes born None = Unit {0}
IsPlaced bytes born (Some dialogue) = IsNamedBy bytes dialogue ⊎ (is_that dialogue born ≡ true)

abbrev pub PlacedClosing : Past → ℕ → ℕ → ℤ → Closing → Type 0
PlacedClosing past dialogue number id (Closing.result_last body) = IsOf past dialogue number id
PlacedClosing past dialogue number id (Closing.error_back code parameter) = IsOf past dialogue number id
PlacedClosing past dialogue number id (Closing.rejected problem Rejector.local) = Unit {0}
PlacedClosing past dialogue number id (Closing.rejected problem Rejector.remote_provider) = Unit {0}
PlacedClosing past dialogue number id (Closing.rejected problem Rejector.remote_user) =
    IsOf past dialogue number id × RejectsInvoke problem.kind
PlacedClosing past dialogue number id Closing.lapsed = Unit {0}
PlacedClosing past dialogue number id Closing.ended = Unit {0}
PlacedClosing past dialogue number id Closing.given_up = Unit {0}

abbrev pub Placed : Past → List ℕ → Option ℕ → Output → Type 0
Placed past bytes born (Output.send to octets) = Unit {0}
Placed past bytes born (Output.dialogue indication) = Unit {0}
Placed past bytes born (Output.component (ComponentIndication.invoked dialogue id linked code parameter)) =
    IsPlaced bytes born dialogue
Placed past bytes born (Output.component (ComponentIndication.result_more dialogue number id body)) =
    IsOf past dialogue number id
Placed past bytes born (Output.component (ComponentIndication.local_reject dialogue id problem)) = Unit {0}
Placed past bytes born (Output.component (ComponentIndication.remote_reject dialogue id problem by)) = Unit {0}
Placed past bytes born (Output.component (ComponentIndication.closed dialogue number id closing)) =
    PlacedClosing past dialogue number id closing
Placed past bytes born (Output.dropped why) = Unit {0}

-- ---- the invocation that a component is about

abbrev IsHit : Past → ℤ → Option SentInvocation → Type 0
IsHit past id None = Unit {0}
IsHit past id (Some sent) = IsOf past sent.dialogue sent.number id

abbrev IsAbout : Past → Option ℤ → Option SentInvocation → Type 0
IsAbout past None sent = Unit {0}
IsAbout past (Some id) sent = IsHit past id sent

sent-hit : (start : Start) (past : Past) → AreReplies start past
    → (dialogue : ℕ) (earlier : List Item) (id : ℤ) (o : Option Invocation) → latest dialogue id past ≡ o
    → IsHit past id (if_sent past earlier o)
sent-hit start past legal dialogue earlier id None e = tt
sent-hit start past legal dialogue earlier id (Some i) e =
    go (is_sent_in i.class i.timeout (marks_up_to past earlier i))
  where
    go : (b : Bool) → IsHit past id (cond b (Some
        (record { dialogue = i.dialogue; number = i.number; class = i.class })) None)
    go true =
        let l : IsLatest dialogue id past i = latest_is start past dialogue id i legal e in
        record { invocation = i; dialogue_is = refl; number_is = refl; id_is = l.id_is; is_found = l.is_found }
    go false = tt

sent-about : (start : Start) (past : Past) → AreReplies start past
    → (dialogue : ℕ) (earlier : List Item) (subject : Option ℤ)
    → IsAbout past subject (sent_there dialogue past earlier subject)
sent-about start past legal dialogue earlier None = tt
sent-about start past legal dialogue earlier (Some id) =
    sent-hit start past legal dialogue earlier id (latest dialogue id past) refl

none-about : (past : Past) (subject : Option ℤ) → IsAbout past subject None
none-about past None = tt
none-about past (Some id) = tt

-- ---- one component

-- a Reject that isn't one of an answer is one of an Invoke
rejects : (k : Kind) → is_of_answer k ≡ false → RejectsInvoke k
rejects kind.General e = tt
rejects kind.Invoke e = tt
rejects kind.Result e = absurd cc
rejects kind.Error e = absurd cc

module _ (past : Past) (bytes : List ℕ) (born : Option ℕ) where
  is-placed : (dialogue : Option ℕ) (sent : Option SentInvocation) (item : Item) (h : Handled)
      → ComesOf dialogue sent item h → IsPlaced bytes born dialogue → IsAbout past (subject_of item) sent
      → Placed past bytes born h.told
  is-placed _ _ _ _ (ComesOf.an_invoke sent id linked code parameter) placed about = placed
  is-placed _ _ _ _ (ComesOf.not_sent item id problem carries here) placed about = tt
  is-placed _ _ _ _ (ComesOf.a_result_last sent id body) placed about = about
  is-placed _ _ _ _ (ComesOf.a_result_more sent id body) placed about = about
  is-placed _ _ _ _ (ComesOf.an_error sent id code parameter) placed about = about
  is-placed _ _ _ _ (ComesOf.unexpected sent item id problem carries here) placed about = tt
  is-placed _ _ _ _ (ComesOf.by_provider sent id problem of provided) placed about = tt
  is-placed _ _ _ _ (ComesOf.by_user sent id problem of provided) placed about = (about, rejects problem.kind of)
  is-placed _ _ _ _ (ComesOf.of_none sent named id problem) placed about = tt
  is-placed _ _ _ _ (ComesOf.of_fault sent f) placed about = tt

  handled-placed : (dialogue : Option ℕ) (sent : Option SentInvocation) (item : Item)
      → IsPlaced bytes born dialogue → IsAbout past (subject_of item) sent
      → Placed past bytes born (handled dialogue sent item).told
  handled-placed dialogue sent item =
      is-placed dialogue sent item (handled dialogue sent item) (comes_of dialogue sent item)

  besides-placed : HoldsBesides (Placed past bytes born)
  besides-placed =
      record { sends = λ to octets. tt; tells = λ indication. tt; ends = λ dialogue number id. tt; drops = λ why. tt }

-- ---- all that is told

module _ (h : History) (legal : AreReplies h.start h.pairs) (from : Address) (bytes : List ℕ) where
  abbrev born_then : Option ℕ
  born_then = first_begun (reception_outputs h from (received_at h bytes))

  is-born : (born : Option ℕ) → born ≡ Some (next_dialogue h) → IsPlaced bytes born (Some (next_dialogue h))
  is-born born e = inr (ap (is_that (next_dialogue h)) e ∙ eq-eqb (next_dialogue h) (next_dialogue h) refl)

  each-placed : HoldsOfEach (Placed h.pairs bytes born_then) h from bytes (received_at h bytes)
  each-placed = record {
    of_uni = λ m spelled item read.
        handled-placed h.pairs bytes born_then None None item tt (none-about h.pairs (subject_of item));
    of_named = λ m spelled dialogue named earlier item read.
        let sent = sent_there dialogue h.pairs earlier (subject_of item) in
        let about = sent-about h.start h.pairs legal dialogue earlier (subject_of item) in
        handled-placed h.pairs bytes born_then (Some dialogue) sent item (inl named) about;
    of_born = λ m spelled begun earlier item read.
        let sent = sent_there (next_dialogue h) h.pairs earlier (subject_of item) in
        let about = sent-about h.start h.pairs legal (next_dialogue h) earlier (subject_of item) in
        handled-placed h.pairs bytes born_then (Some (next_dialogue h)) sent item (is-born born_then begun) about;
  }

  pub reply-placed : (output : Output) → Tells (reply h (Event.received from bytes)) output
      → Placed h.pairs bytes (born_on_message (reply h (Event.received from bytes))) output
  reply-placed =
      one-received (Placed h.pairs bytes born_then) (besides-placed h.pairs bytes born_then) h from bytes each-placed
