-- The Aborts of the provider fit into any message.
use Rattle.std.proofs.Common.{◌≡◌, ℕ, ◌+◌, ◌≤◌, List, [], ◌∷◌, length, None, Some, refl, true, false, arith, length-append}
use Rattle.std.proofs.lemmas.Bool.{le-ltb}
use Rattle.ber_core.specs.ObjectIdentifier.{IsObjectIdentifier}
use Rattle.ber_core.specs.Written.{written, written_fields}
use Rattle.ber_core.specs.WrittenLength.{element_length}
use Rattle.ber_core.proofs.CallerLemmas.{object_identifier_again, length-written as length-element}
use Rattle.tcap_pdu.specs.DialogueDue.{content_fault, portion_length, opening_length, answer_length}
use Rattle.tcap_pdu.specs.DialogueSpelling.{Source}
use Rattle.tcap_pdu.specs.DialogueSpelling.PduValue.{aare, abrt}
use Rattle.tcap_pdu.specs.DialogueWritten.{written_dialogue}
use Rattle.tcap_pdu.specs.FrameSpelling.{HasIds, Message, Reason, fields, reason_fields}
use Rattle.tcap_pdu.specs.FrameWritten.{written_frame}
use Rattle.tcap_pdu.specs.TransId.{IsTransId}
use Rattle.tcap_pdu.proofs.CallerLemmas.{element_most, external_most, information_none, length-dialogue}
use Rattle.tcap_model.specs.Procedures.Refusals.{passes_message}
use Rattle.tcap_primitives.specs.declared.provider_abort.Abort.{Abort}
use Rattle.tcap_primitives.specs.declared.provider_abort.Abort.TheVariants as abort
use Rattle.tcap_primitives.specs.AbortViews.{CanWriteAbort, IsShortReason, abort_sent, cause_number}

abort_counts : portion_length (abrt true []) ≤ 100
unfolding portion_length
abort_counts = omega (arith, external_most (element_length 1 + 0), element_most 1)

-- An ABRT of the provider has at most 100 octets.
pub abort_short : length (written_dialogue (abrt true [])) ≤ 100
abort_short = omega (arith, length-dialogue (abrt true []), abort_counts)

pub abort_good : content_fault (abrt true []) ≡ None
abort_good = rw information_none refl

response_counts : (context : List ℕ) → length context ≤ 255 → portion_length (aare true context false (Source.provider 2) []) ≤ 1000
unfolding portion_length
response_counts context most =
    let n = length context in
    omega (
      arith,
      most,
      external_most (opening_length n + answer_length + 0),
      element_most 2,
      element_most n,
      element_most (element_length n),
      element_most 1,
      element_most (element_length 1),
      element_most (element_length (element_length 1)),
    )

-- An AARE that names the context of an AARQ has at most 1,000 octets.
pub response_short : (context : List ℕ) → IsObjectIdentifier context → length (written_dialogue (aare true context false (Source.provider 2) [])) ≤ 1000
response_short context is = omega (arith, length-dialogue (aare true context false (Source.provider 2) []), response_counts context is.is_short)

pub response_good : (context : List ℕ) → IsObjectIdentifier context → content_fault (aare true context false (Source.provider 2) []) ≡ None
response_good context is = rw (object_identifier_again context is, information_none) refl

-- ---- the messages

reason_most : (r : Reason) → IsShortReason r → length (written_fields (reason_fields r)) ≤ 1004
reason_most Reason.nothing short = omega arith
reason_most (Reason.cause n) short = omega arith
reason_most (Reason.portion d) short =
    let whole = length-append (written (0x6b ∷ []) d) [] in
    let part = length-element 0x6b d in
    omega (arith, whole, part, element_most (length d), short)

-- an Abort with a short reason is within the limit of a message
abort_within : (t : List ℕ) (r : Reason) → IsTransId t → IsShortReason r → passes_message (Some (Message.abort t r)) ≡ false
abort_within t r is short =
    let whole = length-element 0x67 (written_fields (fields (Message.abort t r))) in
    let parts = length-append (written (0x49 ∷ []) t) (written_fields (reason_fields r)) in
    let id = length-element 0x49 t in
    let within : length (written_frame (Message.abort t r)) ≤ 65535 =
    omega (arith, whole, parts, id, is.1, reason_most r short, element_most (length t), element_most (length (written_fields (fields (Message.abort t r))))) in
    le-ltb 65535 (length (written_frame (Message.abort t r))) within

-- Each Abort of the provider is within the limit of a message.
pub abort_fits : (a : Abort) → CanWriteAbort a → HasIds (abort_sent a) → passes_message (Some (abort_sent a)) ≡ false
abort_fits (abort.Cause peer c) can is = abort_within peer (Reason.cause (cause_number c)) is tt
abort_fits (abort.Abnormal peer) can is = abort_within peer (Reason.portion (written_dialogue (abrt true []))) is (omega (arith, abort_short))
abort_fits (abort.WrongVersion peer context) can is = abort_within peer (Reason.portion (written_dialogue (aare true context.now false (Source.provider 2) []))) is (response_short context.now can)
