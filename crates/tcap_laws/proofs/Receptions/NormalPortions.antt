-- A dialogue portion is normal or abnormal by what it spells exactly as its verdict says.
use Rattle.std.proofs.Common.{◌≡◌, ℕ, true, false, List, Option, Some, None, Result, Ok, Err, refl, sym, ap, ◌∙◌, ◌⊎◌}
use Rattle.std.proofs.Common.{inl, inr}
use Rattle.std.proofs.lemmas.Bool.{true≢false}
use Rattle.tcap_pdu.specs.declared.fault.DialogueFault.{DialogueFault}
use Rattle.tcap_pdu.specs.DialogueReading.{dialogue_at}
use Rattle.tcap_pdu.specs.DialogueSpelling.{PduValue, SpellsDialogue}
use Rattle.tcap_pdu.specs.DialogueSpelling.PduValue.{aarq, audt, aare, abrt, foreign}
use Rattle.tcap_pdu.proofs.CallerLemmas.{dialogue_takes, dialogue_again}
use Rattle.tcap_model.specs.Procedures.PortionRules.{PortionVerdict, response_verdict, portion_verdict}
use Rattle.tcap_model.specs.Statements.NormalPortion.{IsAcceptance, IsNormal, IsAbnormal}
use Rattle.tcap_model.specs.Statements.NormalPortion.MustStand.{asked}
use Rattle.tcap_model.specs.Statements.NormalPortion.NoneMayStand.{not_asked, answered}
use Rattle.tcap_model.specs.Statements.NormalPortion.IsAcceptance.{accepts}
use Rattle.tcap_model.specs.Statements.NormalPortion.IsNormal.{absent, accepting}
use Rattle.tcap_model.specs.Statements.NormalPortion.IsAbnormal.{missing, not_allowed, another, unspelled}
use Rattle.tcap_model.specs.Words.State.{State, is_live}

-- ---- the verdict that a relation has

abbrev IsAcceptingPdu : PortionVerdict → Type 0
IsAcceptingPdu verdict = (told : Option (List ℕ)) × (info : List ℕ) × (verdict ≡ PortionVerdict.normal told info)

acceptance-verdict : (pdu : PduValue) → IsAcceptance pdu → IsAcceptingPdu (response_verdict (Ok pdu))
acceptance-verdict _ (accepts version1 context diagnostic info) = (Some context, info, refl)

another-verdict : (pdu : PduValue) → (IsAcceptance pdu → ⊥) → response_verdict (Ok pdu) ≡ PortionVerdict.abnormal
another-verdict (aarq version1 context info) other = refl
another-verdict (audt version1 context info) other = refl
another-verdict (aare version1 context true diagnostic info) other =
    absurd (other (accepts version1 context diagnostic info))
another-verdict (aare version1 context false diagnostic info) other = refl
another-verdict (abrt by_provider info) other = refl
another-verdict (foreign external) other = refl

unspelled-verdict : (portion : List ℕ) (read : Result PduValue DialogueFault) → dialogue_at portion ≡ read →
    ((pdu : PduValue) → SpellsDialogue pdu portion → ⊥) → response_verdict read ≡ PortionVerdict.abnormal
unspelled-verdict portion (Ok pdu) e none = absurd (none pdu (dialogue_takes portion pdu e))
unspelled-verdict portion (Err f) e none = refl

asked-verdict : (context : List ℕ) (portion : List ℕ) (pdu : PduValue) → SpellsDialogue pdu portion →
    portion_verdict State.sent (Some context) (Some portion) ≡ response_verdict (Ok pdu)
asked-verdict context portion pdu spelled = ap response_verdict (dialogue_again portion pdu spelled)

pub normal-verdict : (state : State) (context portion : Option (List ℕ)) → IsNormal state context portion →
    IsAcceptingPdu (portion_verdict state context portion)
normal-verdict _ _ _ (absent not_asked) = (None, _, refl)
normal-verdict _ _ _ (absent (answered peer context)) = (None, _, refl)
normal-verdict _ _ _ (accepting portion pdu (asked context) spelled is) =
    let accepted = acceptance-verdict pdu is in
    (accepted.0, accepted.1, asked-verdict context portion pdu spelled ∙ accepted.2)

pub abnormal-verdict : (state : State) (context portion : Option (List ℕ)) → IsAbnormal state context portion →
    portion_verdict state context portion ≡ PortionVerdict.abnormal
abnormal-verdict _ _ _ (missing (asked context)) = refl
abnormal-verdict _ _ _ (not_allowed portion not_asked) = refl
abnormal-verdict _ _ _ (not_allowed portion (answered peer context)) = refl
abnormal-verdict _ _ _ (another portion pdu (asked context) spelled other) =
    asked-verdict context portion pdu spelled ∙ another-verdict pdu other
abnormal-verdict _ _ _ (unspelled portion (asked context) none) =
    unspelled-verdict portion (dialogue_at portion) refl none

-- ---- one of the two holds

abbrev Either : State → Option (List ℕ) → Option (List ℕ) → Type 0
Either state context portion = IsNormal state context portion ⊎ IsAbnormal state context portion

no-acceptance : (pdu : PduValue) → response_verdict (Ok pdu) ≡ PortionVerdict.abnormal → IsAcceptance pdu → ⊥
no-acceptance _ e (accepts version1 context diagnostic info) = absurd cc

read-either : (context portion : List ℕ) (pdu : PduValue) → SpellsDialogue pdu portion →
    Either State.sent (Some context) (Some portion)
read-either context portion (aare version1 named true diagnostic info) spelled =
    inl (accepting portion (aare version1 named true diagnostic info) (asked context) spelled
    (accepts version1 named diagnostic info))
read-either context portion (aare version1 named false diagnostic info) spelled =
    inr (another portion (aare version1 named false diagnostic info) (asked context) spelled (no-acceptance _ refl))
read-either context portion (aarq version1 named info) spelled =
    inr (another portion (aarq version1 named info) (asked context) spelled (no-acceptance _ refl))
read-either context portion (audt version1 named info) spelled =
    inr (another portion (audt version1 named info) (asked context) spelled (no-acceptance _ refl))
read-either context portion (abrt by_provider info) spelled =
    inr (another portion (abrt by_provider info) (asked context) spelled (no-acceptance _ refl))
read-either context portion (foreign external) spelled =
    inr (another portion (foreign external) (asked context) spelled (no-acceptance _ refl))

asked-either : (context portion : List ℕ) (read : Result PduValue DialogueFault) → dialogue_at portion ≡ read →
    Either State.sent (Some context) (Some portion)
asked-either context portion (Ok pdu) e = read-either context portion pdu (dialogue_takes portion pdu e)
asked-either context portion (Err f) e =
    inr (unspelled portion (asked context) (λ pdu spelled. not_read pdu (sym (dialogue_again portion pdu spelled) ∙ e)))
  where
    not_read : (pdu : PduValue) → Ok pdu ≡ Err f → ⊥
    not_read pdu same = absurd cc

pub normal-or-not : (state : State) (context portion : Option (List ℕ)) → is_live state ≡ true →
    Either state context portion
normal-or-not State.fresh context portion live = absurd (true≢false (sym live))
normal-or-not (State.received peer) context portion live = absurd (true≢false (sym live))
normal-or-not State.sent None None live = inl (absent not_asked)
normal-or-not State.sent None (Some portion) live = inr (not_allowed portion not_asked)
normal-or-not State.sent (Some context) None live = inr (missing (asked context))
normal-or-not State.sent (Some context) (Some portion) live = asked-either context portion (dialogue_at portion) refl
normal-or-not (State.active peer) context None live = inl (absent (answered peer context))
normal-or-not (State.active peer) context (Some portion) live = inr (not_allowed portion (answered peer context))
