-- The Aborts that the provider sends can be written.
use Rattle.std.proofs.Common.{◌≡◌, ℕ, ◌+◌, ◌≤◌, true, false, ltb, List, [], ◌∷◌, length, option_map, refl, inl, inr, arith, length-append}
use Rattle.std.proofs.lemmas.Bool.{cases_Bool}
use Rattle.tcap_pdu.specs.DialogueSpelling.{PduValue, Source, structured_syntax}
use Rattle.ber_core.specs.ObjectIdentifier.{IsObjectIdentifier}
use Rattle.ber_core.specs.Sequence.Field.{must, filled}
use Rattle.ber_core.specs.Written.{written, written_fields}
use Rattle.ber_core.proofs.CallerLemmas.{element_length-most, length-written as length-element}
use Rattle.tcap_pdu.specs.DialogueWritten.{written_dialogue, written_external, response_fields, result_field, diagnostic_field}
use Rattle.tcap_pdu.specs.FrameLength.{element_length, reason_length, reason_dialogue}
use Rattle.tcap_pdu.specs.FrameSpelling.{Message, Reason, HasIds, HasCause, cause_limit}
use Rattle.tcap_pdu.specs.FrameWritten.{message_limit, written_frame}
use Rattle.tcap_pdu.specs.TransId.{IsTransId}
use Rattle.tcap_pdu.proofs.CallerLemmas.{length-own, written_spelled}
use Rattle.tcap_model.specs.Procedures.AbortRules.{abort_with, abnormal_abort, version_abort}
use Rattle.tcap_model.specs.Statements.SentMessage.{IsMessage}

-- a message that can be sent
pub record CanGo (m : Message) : Type 0 where
  pub has_ids : HasIds m
  pub has_cause : HasCause m
  pub is_short : length (written_frame m) ≤ message_limit

-- a message that is an Abort and can be sent
abbrev pub Sends : Message → Type 0
Sends aborting = (peer : List ℕ) × (reason : Reason) × (aborting ≡ Message.abort peer reason)
    × CanGo (Message.abort peer reason)

pub goes-spelled : (m : Message) → CanGo m → IsMessage m (written_frame m)
goes-spelled m can = record { is_written = refl; spelled = written_spelled m can.has_ids can.has_cause can.is_short }

element-le : (n : ℕ) → element_length n ≤ n + 4
unfolding element_length
element-le n = elim (cases_Bool (ltb n 0x80)) [
  | inl a ↦ rw a (omega arith)
  | inr a ↦ elim (cases_Bool (ltb n 0x100)) [ inl b ↦ rw (a, b) (omega arith) | inr b ↦ rw (a, b) (omega arith) ]
]

abort-length : (peer : List ℕ) (reason : Reason) → IsTransId peer
    → length (written_frame (Message.abort peer reason))
    ≤ reason_length (option_map length (reason_dialogue reason)) reason + 12
abort-length peer reason id =
    let own = length-own (Message.abort peer reason) in
    let ids = element-le (length peer) in
    let all = element-le (element_length (length peer) + reason_length (option_map length (reason_dialogue reason))
    reason) in
    omega (arith, own, ids, all, id.1)

cause-goes : (number : ℕ) (peer : List ℕ) → number ≤ cause_limit → IsTransId peer
    → CanGo (Message.abort peer (Reason.cause number))
cause-goes number peer within id =
    let long = abort-length peer (Reason.cause number) id in
    let one = element-le 1 in
    record { has_ids = id; has_cause = within; is_short = omega (arith, long, one) }

pub portion-goes : (portion peer : List ℕ) → length portion ≤ 1000 → IsTransId peer
    → CanGo (Message.abort peer (Reason.portion portion))
portion-goes portion peer within id =
    let long = abort-length peer (Reason.portion portion) id in
    let part = element-le (length portion) in
    record { has_ids = id; has_cause = tt; is_short = omega (arith, long, part, within) }

pub cause-sends : (number : ℕ) (peer : List ℕ) → number ≤ cause_limit → IsTransId peer → Sends (abort_with number peer)
cause-sends number peer within id = (peer, Reason.cause number, refl, cause-goes number peer within id)

abrt-length : length (written_dialogue (PduValue.abrt true [])) ≤ 1000
unfolding written_dialogue written_external
abrt-length = omega arith

pub abnormal-sends : (peer : List ℕ) → IsTransId peer → Sends (abnormal_abort peer)
abnormal-sends peer id =
    let portion = written_dialogue (PduValue.abrt true []) in
    (peer, Reason.portion portion, refl, portion-goes portion peer abrt-length id)

-- ---- the Abort for another version

written-most : (tag : ℕ) (content : List ℕ) → length (written (tag ∷ []) content) ≤ length content + 4
written-most tag content =
    let same = length-element tag content in
    let most = element_length-most (length content) in
    omega (arith, same, most)

fields-most : (context : List ℕ) → length (written_fields (response_fields true context false (Source.provider 2) []))
    ≤ length context + 100
fields-most context =
    let named = written (0xa1 ∷ []) (written (0x06 ∷ []) context) in
    let others = written_fields (result_field false ∷ diagnostic_field (Source.provider 2) ∷ filled 0xbe [] ∷ []) in
    let name = written-most 0x06 context in
    let outer = written-most 0xa1 (written (0x06 ∷ []) context) in
    let both = length-append named others in
    omega (arith, name, outer, both)

external-most : (context : List ℕ) → length (written_dialogue (PduValue.aare true context false (Source.provider 2) []))
    ≤ length context + 200
unfolding written_dialogue written_external
external-most context =
    let contents = written_fields (response_fields true context false (Source.provider 2) []) in
    let pdu = written (0x61 ∷ []) contents in
    let fields = fields-most context in
    let inner = written-most 0x61 contents in
    let held = written-most 0xa0 pdu in
    let both = length-append (written (0xa0 ∷ []) pdu) [] in
    let whole = written-most 0x28 (written_fields (must 0x06 structured_syntax ∷ must 0xa0 pdu ∷ [])) in
    omega (arith, fields, inner, held, both, whole)

pub version-sends : (context peer : List ℕ) → IsObjectIdentifier context → IsTransId peer
    → Sends (version_abort context peer)
version-sends context peer name id =
    let portion = written_dialogue (PduValue.aare true context false (Source.provider 2) []) in
    let most = external-most context in
    (peer, Reason.portion portion, refl, portion-goes portion peer (omega (arith, most, name.is_short)) id)
