-- That components are sent once and in order, on a worked history: the premises, and what is computed.
use Rattle.std.proofs.Common.{◌≡◌, ℕ, List, [], ◌∷◌, ◌++◌, map, None, Ok, refl, sym, ap, ◌∙◌}
use Rattle.std.specs.Prelude.{take, drop}
use Rattle.tcap_pdu.specs.FrameReading.{frame_at}
use Rattle.tcap_pdu.specs.FrameSpelling.{Message}
use Rattle.tcap_pdu.proofs.CallerLemmas.{frame_takes}
use Rattle.tcap_component.specs.Component.{ComponentParts}
use Rattle.tcap_component.specs.ComponentList.{items}
use Rattle.tcap_component.specs.ComponentReading.{components_of}
use Rattle.tcap_examples.proofs.LegalHistories.{legal}
use Rattle.tcap_examples.specs.Computing.{computing}
use Rattle.tcap_model.specs.Replies.Legal.{IsLegal}
use Rattle.tcap_model.specs.Statements.Places.{StandsIn}
use Rattle.tcap_model.specs.Replies.Queue.{queue}
use Rattle.tcap_model.specs.Procedures.QueueRules.{Queued}
use Rattle.tcap_model.specs.Statements.Submitted.{Submitted, unsent}
use Rattle.tcap_model.specs.Statements.SentInOrder.{HaveComponents, components_submitted}
use Rattle.tcap_examples.specs.Histories.Receptions.{unknown_linked_identifier}
use Rattle.tcap_examples.specs.Statements.SendingExamples.{begin_sent, begin_message, continue_sent, continue_message, continue_pair, abort_sent, abort_message, sent_in_parts, before_the_continue, up_to_the_continue, waits_for_the_continue, all_parts, reject_of_invoke, answer_sent, answer_message, begun_by_the_peer}
use Rattle.tcap_examples.proofs.ComponentPremises.{first_fault_at, spelled_read}
use Rattle.tcap_model.specs.Statements.ComponentPortion.{portion_of}

-- ---- messages by the reading functions

-- Messages are read as these components, those of one after those of the one before.
abbrev pub AreRead : List (List ℕ) → List ComponentParts → Type 0
AreRead [] ds = ds ≡ []
AreRead (bytes ∷ messages) ds =
    (m : Message) × (first : List ComponentParts) × (others : List ComponentParts)
    × (frame_at bytes ≡ Ok m) × (components_of (portion_of m) ≡ items first None)
    × AreRead messages others × (ds ≡ first ++ others)

-- They have what is read.
read-have : (messages : List (List ℕ)) (ds : List ComponentParts) → AreRead messages ds → HaveComponents messages ds
read-have [] ds are = are
read-have (bytes ∷ messages) ds are = (
  are.1,
  are.2,
  record {
    message = are.0;
    spelled = frame_takes bytes are.0 are.3;
    read = first_fault_at (portion_of are.0) are.1 None are.4;
  },
  read-have messages are.2 are.5,
  are.6,
)

-- They have nothing else.
pub read-same : (messages : List (List ℕ)) (cs ds : List ComponentParts) → AreRead messages ds →
    HaveComponents messages cs → cs ≡ ds
read-same [] cs ds are have = have ∙ sym are
read-same (bytes ∷ messages) cs ds are have =
    let has = have.2 in
    let first = spelled_read bytes has.message are.0 have.0 are.1 None None are.3 are.4 has.spelled has.read in
    have.4
    ∙ (ap (λ (xs : List ComponentParts). xs ++ have.1) first
    ∙ (ap (λ (xs : List ComponentParts). are.1 ++ xs) (read-same messages have.1 are.2 are.5 have.3) ∙ sym are.6))

-- ---- sent in parts

pub parts-legal : IsLegal sent_in_parts
unfolding computing
parts-legal = legal sent_in_parts refl refl refl refl

-- Up to the Continue it is legal, and two components wait.
pub waiting-legal : IsLegal up_to_the_continue
waiting-legal = (parts-legal.0, parts-legal.1.2.2.2)

pub waiting-queued : map (λ (q : Queued). q.octets) (queue 1 before_the_continue) ≡ waits_for_the_continue
unfolding computing
waiting-queued = refl

pub waiting-unsent : map (λ (s : Submitted). s.component) (unsent 1 [] before_the_continue) ≡ drop 1 all_parts
unfolding computing
waiting-unsent = refl

pub parts-stand : StandsIn continue_pair before_the_continue sent_in_parts.pairs
parts-stand = record { later = take 2 sent_in_parts.pairs; is_past = refl }

pub parts-submitted : components_submitted 1 before_the_continue ≡ all_parts
unfolding computing
parts-submitted = refl

parts-read : AreRead (begin_sent ∷ continue_sent ∷ abort_sent ∷ []) all_parts
unfolding computing
parts-read = (
  begin_message,
  take 1 all_parts,
  drop 1 all_parts,
  refl,
  refl,
  (continue_message, drop 1 all_parts, [], refl, refl, (abort_message, [], [], refl, refl, refl, refl), refl),
  refl,
)

pub parts-have : HaveComponents (begin_sent ∷ continue_sent ∷ abort_sent ∷ []) all_parts
parts-have = read-have (begin_sent ∷ continue_sent ∷ abort_sent ∷ []) all_parts parts-read

-- ---- begun by the peer

pub answer-legal : IsLegal begun_by_the_peer
unfolding computing
answer-legal = legal begun_by_the_peer refl refl refl refl

pub answer-submitted : components_submitted 1 unknown_linked_identifier.history.pairs ≡ reject_of_invoke ∷ []
unfolding computing
answer-submitted = refl

answer-read : AreRead (answer_sent ∷ []) (reject_of_invoke ∷ [])
unfolding computing
answer-read = (answer_message, reject_of_invoke ∷ [], [], refl, refl, refl, refl)

pub answer-has : HaveComponents (answer_sent ∷ []) (reject_of_invoke ∷ [])
answer-has = read-have (answer_sent ∷ []) (reject_of_invoke ∷ []) answer-read

-- What the tests state.
pub ruleset sending_works = (
  answer-legal,
  answer-submitted,
  answer-has,
  parts-legal,
  parts-stand,
  parts-submitted,
  parts-have,
  waiting-legal,
  waiting-queued,
  waiting-unsent,
)
