-- The relations over the grammar on worked bytes: where they hold, and where they fail.
use Rattle.std.proofs.Common.{◌≡◌, ℕ, List, [], Option, Some, None, Ok, refl, sym, ap, subst, ◌∙◌, arith}
use Rattle.std.proofs.lemmas.Bool.{true≢false}
use Rattle.ber_core.proofs.CallerLemmas.{some_is}
use Rattle.tcap_pdu.specs.declared.fault.FrameFault.TheVariants.{BadlyFormatted}
use Rattle.tcap_pdu.specs.DialogueReading.{dialogue_at}
use Rattle.tcap_pdu.specs.DialogueSpelling.{PduValue}
use Rattle.tcap_pdu.specs.FrameFaults.{IsFrameFault}
use Rattle.tcap_pdu.specs.FrameReading.{frame_at}
use Rattle.tcap_pdu.specs.Front.{Front}
use Rattle.tcap_pdu.proofs.CallerLemmas.{dialogue_takes, dialogue_again, frame_takes, frame_again, frame_fails}
use Rattle.tcap_pdu.proofs.CallerLemmas.{front_read, front_again}
use Rattle.tcap_examples.proofs.Apart.{apart}
use Rattle.tcap_examples.specs.Computing.{computing}
use Rattle.tcap_examples.specs.Statements.GrammarExamples as example
use Rattle.tcap_examples.specs.Values.DialogueValues.{context, result_of_first}
use Rattle.tcap_model.specs.Procedures.PortionRules.{PortionVerdict, response_verdict}
use Rattle.tcap_model.specs.Statements.NamesDialogue.{NamesDialogue, IsDestination}
use Rattle.tcap_model.specs.Statements.NamesDialogue.IsDestination.{of_message, at_front}
use Rattle.tcap_model.specs.Statements.NormalPortion.{MustStand, IsAcceptance, IsNormal, IsAbnormal}
use Rattle.tcap_model.specs.Statements.NormalPortion.MustStand.{asked}
use Rattle.tcap_model.specs.Statements.NormalPortion.NoneMayStand.{not_asked, answered}
use Rattle.tcap_model.specs.Statements.NormalPortion.IsAcceptance.{accepts}
use Rattle.tcap_model.specs.Statements.NormalPortion.IsNormal.{absent, accepting}
use Rattle.tcap_model.specs.Statements.NormalPortion.IsAbnormal.{missing, not_allowed, another, unspelled}
use Rattle.tcap_model.specs.Words.LocalId.{dialogue_named}
use Rattle.tcap_model.specs.Words.State.{State}

-- ---- dialogue portions

no_acceptance : (pdu : PduValue) → response_verdict (Ok pdu) ≡ PortionVerdict.abnormal → IsAcceptance pdu → ⊥
no_acceptance _ e (accepts version1 named diagnostic info) = absurd cc

must_sent : (state : State) (asked_for : Option (List ℕ)) → MustStand state asked_for → state ≡ State.sent
must_sent _ _ (asked asked_for) = refl

pub accepted : IsNormal State.sent (Some context) (Some example.accepting_portion)
unfolding computing
accepted =
    accepting example.accepting_portion example.acceptance (asked context)
    (dialogue_takes example.accepting_portion example.acceptance refl) (accepts _ _ _ _)

pub not_asked_for : IsNormal State.sent None None
not_asked_for = absent not_asked

pub in_active : IsNormal (State.active example.peer) (Some context) None
in_active = absent (answered example.peer (Some context))

pub lacking : IsAbnormal State.sent (Some context) None
lacking = missing (asked context)

pub refused : IsAbnormal State.sent (Some context) (Some example.refusing_portion)
unfolding computing
refused =
    another example.refusing_portion example.refusal (asked context)
    (dialogue_takes example.refusing_portion example.refusal refl) (no_acceptance example.refusal refl)

pub asked_back : IsAbnormal State.sent (Some context) (Some example.asking_portion)
unfolding computing
asked_back =
    another example.asking_portion example.request (asked context)
    (dialogue_takes example.asking_portion example.request refl) (no_acceptance example.request refl)

pub empty : IsAbnormal State.sent (Some context) (Some [])
unfolding computing
empty =
    unspelled [] (asked context) (λ pdu spelled.
    let read : dialogue_at [] ≡ Ok pdu = dialogue_again [] pdu spelled in absurd cc)

pub told_unasked : IsAbnormal State.sent None (Some example.accepting_portion)
told_unasked = not_allowed example.accepting_portion not_asked

pub told_twice : IsAbnormal (State.active example.peer) (Some context) (Some example.accepting_portion)
told_twice = not_allowed example.accepting_portion (answered example.peer (Some context))

-- ---- and what they aren't

no_normal : (portion : List ℕ) (pdu : PduValue) → dialogue_at portion ≡ Ok pdu → (IsAcceptance pdu → ⊥) →
    IsNormal State.sent (Some context) (Some portion) → ⊥
no_normal portion pdu e other (accepting _ named must spelled is) =
    let read : dialogue_at portion ≡ Ok named = dialogue_again portion named spelled in
    let same : named ≡ pdu = cc in
    other (subst IsAcceptance same is)

pub refusal_not_normal : IsNormal State.sent (Some context) (Some example.refusing_portion) → ⊥
unfolding computing
refusal_not_normal = no_normal example.refusing_portion example.refusal refl (no_acceptance example.refusal refl)

pub again_not_normal : IsNormal (State.active example.peer) (Some context) (Some example.accepting_portion) → ⊥
again_not_normal (accepting _ pdu must spelled is) =
    let never : State.active example.peer ≡ State.sent = must_sent (State.active example.peer) (Some context) must in
    absurd cc

-- ---- names

pub spelled_named : NamesDialogue 1 result_of_first
unfolding computing
spelled_named = record {
  to = example.first_octets;
  within = omega arith;
  is_destination =
      of_message example.result_message example.first_octets (frame_takes result_of_first example.result_message refl)
      refl;
  is_dialogue = refl;
}

pub continue_front : Front example.faulty_continue (Some example.peer) (Some example.first_octets)
unfolding computing
continue_front = front_read example.faulty_continue

pub continue_faulty : IsFrameFault example.faulty_continue BadlyFormatted
unfolding computing
continue_faulty = frame_fails example.faulty_continue BadlyFormatted refl

pub faulty_named : NamesDialogue 1 example.faulty_continue
unfolding computing
faulty_named = record {
  to = example.first_octets;
  within = omega arith;
  is_destination = at_front BadlyFormatted (Some example.peer) example.first_octets continue_faulty refl continue_front;
  is_dialogue = refl;
}

-- The origin of a faulty Continue isn't named.
pub origin_unnamed : NamesDialogue 5 example.faulty_continue → ⊥
unfolding computing
origin_unnamed it = by it.to it.is_destination it.is_dialogue
  where
    by : (to : List ℕ) → IsDestination example.faulty_continue to → dialogue_named to ≡ Some 5 → ⊥
    by to (of_message m _ spelled is) named =
        let read : frame_at example.faulty_continue ≡ Ok m = frame_again m example.faulty_continue spelled in absurd cc
    by to (at_front fault origin _ is begins front) named =
        let at = ap (λ (p : Option (List ℕ) × Option (List ℕ)). p.1)
        (front_again example.faulty_continue origin (Some to) front) in
        let same : example.first_octets ≡ to = some_is example.first_octets to at in
        let one : Some 1 ≡ Some 5 = ap dialogue_named same ∙ named in
        apart (λ (n : ℕ). n) (some_is 1 5 one) refl

-- Nor is the destination of a faulty Begin.
pub begin_unnamed : NamesDialogue 1 example.faulty_begin → ⊥
unfolding computing
begin_unnamed it = by it.to it.is_destination
  where
    by : (to : List ℕ) → IsDestination example.faulty_begin to → ⊥
    by to (of_message m _ spelled is) =
        let read : frame_at example.faulty_begin ≡ Ok m = frame_again m example.faulty_begin spelled in absurd cc
    by to (at_front fault origin _ is begins front) = true≢false (sym begins)

-- What the tests state.
pub ruleset grammar_works = (
  accepted,
  not_asked_for,
  in_active,
  lacking,
  refused,
  asked_back,
  empty,
  told_unasked,
  told_twice,
  refusal_not_normal,
  again_not_normal,
  spelled_named,
  continue_front,
  continue_faulty,
  faulty_named,
  origin_unnamed,
  begin_unnamed,
)
