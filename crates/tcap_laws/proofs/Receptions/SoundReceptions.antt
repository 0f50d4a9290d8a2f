-- What becomes of received bytes: what is sent can be sent, and a dialogue is created by a Begin alone.
use Rattle.std.proofs.Common.{◌≡◌, ℕ, ◌≤◌, true, false, Bool, List, [], ◌∷◌, length, nat_lt, ◌==◌, Option, Some, None, Result, Ok, Err, if◌then◌else◌, refl, ap, subst, arith}
use Rattle.ber_core.specs.ObjectIdentifier.{IsObjectIdentifier}
use Rattle.tcap_pdu.specs.declared.fault.DialogueFault.{DialogueFault}
use Rattle.tcap_pdu.specs.declared.fault.FrameFault.{FrameFault}
use Rattle.tcap_pdu.specs.declared.fault.FrameFault.TheVariants.{Unknown, BadlyFormatted, Incorrect}
use Rattle.tcap_pdu.specs.DialogueReading.{dialogue_at}
use Rattle.tcap_pdu.specs.DialogueSpelling.{PduValue}
use Rattle.tcap_pdu.specs.DialogueSpelling.PduValue.{aarq, audt, aare, abrt, foreign}
use Rattle.tcap_pdu.specs.FrameReading.{frame_at}
use Rattle.tcap_pdu.specs.FrameSpelling.{Message, HasIds, cause_limit}
use Rattle.tcap_pdu.specs.FrameWritten.{message_limit}
use Rattle.tcap_pdu.specs.Front.{Front, id_in, front_at}
use Rattle.tcap_pdu.specs.Front.Front.{ids, none}
use Rattle.tcap_pdu.specs.TransId.{IsTransId, id_of}
use Rattle.tcap_pdu.proofs.CallerLemmas.{frame_takes, front_read, id_of-is, dialogue_takes, spelled_context}
use Rattle.tcap_model.specs.Procedures.AbortRules.{fault_cause, unrecognized_id, resource_limitation}
use Rattle.tcap_model.specs.Histories.Life.{begin_context}
use Rattle.tcap_model.specs.Procedures.PortionRules.{BeginVerdict, begin_verdict, begin_verdict_by, PortionVerdict, uni_verdict}
use Rattle.tcap_model.specs.Procedures.Reception.{Reception, addressed, addressed_if_any, uni_by, begin_by, continue_by, final_message_by, message_by, fault_abort, aborted_or_dropped, faulty_continue, faulty_last, fault_by, faulty, reading_by, reception}
use Rattle.tcap_laws.proofs.Receptions.ProviderAborts.{Sends, cause-sends, abnormal-sends, version-sends}

-- an Abort that goes out, if one does, can be sent
abbrev pub IfSends : Option Message → Type 0
IfSends None = Unit {0}
IfSends (Some aborting) = Sends aborting

-- what is sent can be sent; a Unidirectional that is told was read as one, what creates a
-- dialogue as a Begin, and what a dialogue takes as that message
abbrev pub IsSound : Bool → List ℕ → Reception → Type 0
IsSound full bytes (Reception.dropped why) = Unit {0}
IsSound full bytes (Reception.aborted aborting) = Sends aborting
IsSound full bytes (Reception.unidirectional context info components) =
    (portion : Option (List ℕ)) × (frame_at bytes ≡ Ok (Message.unidirectional portion components))
IsSound full bytes (Reception.begun origin context info components) =
    (portion : Option (List ℕ)) × (frame_at bytes ≡ Ok (Message.begin origin portion components))
    × (begin_context (begin_verdict portion) ≡ context) × (full ≡ false)
IsSound full bytes (Reception.taken dialogue message) = frame_at bytes ≡ Ok message
IsSound full bytes (Reception.broken dialogue aborting cause) = IfSends aborting

-- ---- messages that can be read

pub read-ids : (bytes : List ℕ) (m : Message) → frame_at bytes ≡ Ok m → HasIds m
read-ids bytes m e = let spelled = frame_takes bytes m e in spelled.is_frame.has_ids

uni-sound : (full : Bool) (bytes : List ℕ) (verdict : PortionVerdict) (portion : Option (List ℕ)) (components : List ℕ)
    → frame_at bytes ≡ Ok (Message.unidirectional portion components) → IsSound full bytes (uni_by verdict components)
uni-sound full bytes (PortionVerdict.normal context info) portion components e = (portion, e)
uni-sound full bytes PortionVerdict.abnormal portion components e = tt

wrong-by : (portion context : List ℕ) (read : Result PduValue DialogueFault) → dialogue_at portion ≡ read
    → begin_verdict_by read ≡ BeginVerdict.wrong_version context → IsObjectIdentifier context
wrong-by portion context (Ok (aarq false name info)) is e =
    let same : name ≡ context = cc in
    subst (λ (w : List ℕ). IsObjectIdentifier w) same
    (spelled_context (aarq false name info) portion (dialogue_takes portion (aarq false name info) is))
wrong-by portion context (Ok (aarq true name info)) is e = absurd cc
wrong-by portion context (Ok (audt version1 name info)) is e = absurd cc
wrong-by portion context (Ok (aare version1 name accepted diagnostic info)) is e = absurd cc
wrong-by portion context (Ok (abrt by_provider info)) is e = absurd cc
wrong-by portion context (Ok (foreign external)) is e = absurd cc
wrong-by portion context (Err f) is e = absurd cc

wrong-named : (portion : Option (List ℕ)) (context : List ℕ)
    → begin_verdict portion ≡ BeginVerdict.wrong_version context → IsObjectIdentifier context
wrong-named None context e = absurd cc
wrong-named (Some portion) context e = wrong-by portion context (dialogue_at portion) refl e

begin-sound : (full : Bool) → full ≡ false → (bytes origin : List ℕ) (portion : Option (List ℕ)) (components : List ℕ)
    → frame_at bytes ≡ Ok (Message.begin origin portion components) → IsTransId origin → (verdict : BeginVerdict)
    → begin_verdict portion ≡ verdict → IsSound full bytes (begin_by verdict origin components)
begin-sound full room bytes origin portion components e id BeginVerdict.plain is =
    (portion, e, ap begin_context is, room)
begin-sound full room bytes origin portion components e id (BeginVerdict.with_context context info) is =
    (portion, e, ap begin_context is, room)
begin-sound full room bytes origin portion components e id (BeginVerdict.wrong_version context) is =
    version-sends context origin (wrong-named portion context is) id
begin-sound full room bytes origin portion components e id BeginVerdict.abnormal is = abnormal-sends origin id

born-sound : (bytes origin : List ℕ) (portion : Option (List ℕ)) (components : List ℕ) (full : Bool)
    → frame_at bytes ≡ Ok (Message.begin origin portion components) → IsTransId origin
    → IsSound full bytes (message_by (λ d. true) full (Message.begin origin portion components))
born-sound bytes origin portion components true e id = cause-sends resource_limitation origin (omega arith) id
born-sound bytes origin portion components false e id =
    begin-sound false refl bytes origin portion components e id (begin_verdict portion) refl

continue-sound : (full : Bool) (bytes origin : List ℕ) (m : Message) (named : Option ℕ) → frame_at bytes ≡ Ok m
    → IsTransId origin → IsSound full bytes (continue_by named origin m)
continue-sound full bytes origin m (Some d) e id = e
continue-sound full bytes origin m None e id = cause-sends unrecognized_id origin (omega arith) id

last-sound : (full : Bool) (bytes : List ℕ) (m : Message) (named : Option ℕ) → frame_at bytes ≡ Ok m
    → IsSound full bytes (final_message_by named m)
last-sound full bytes m (Some d) e = e
last-sound full bytes m None e = tt

message-sound : (live : ℕ → Bool) (full : Bool) (bytes : List ℕ) (m : Message) → frame_at bytes ≡ Ok m
    → IsSound full bytes (message_by live full m)
message-sound live full bytes (Message.unidirectional portion components) e =
    uni-sound full bytes (uni_verdict portion) portion components e
message-sound live full bytes (Message.begin origin portion components) e =
    born-sound bytes origin portion components full e (read-ids bytes (Message.begin origin portion components) e)
message-sound live full bytes (Message.go_on origin to portion components) e =
    let id = read-ids bytes (Message.go_on origin to portion components) e in
    continue-sound full bytes origin (Message.go_on origin to portion components) (addressed live to) e id.0
message-sound live full bytes (Message.end to portion components) e =
    last-sound full bytes (Message.end to portion components) (addressed live to) e
message-sound live full bytes (Message.abort to reason) e =
    last-sound full bytes (Message.abort to reason) (addressed live to) e

-- ---- faulty messages

abbrev IfId : Option (List ℕ) → Type 0
IfId None = Unit {0}
IfId (Some octets) = IsTransId octets

id_of-if : (octets : List ℕ) (read : Option (List ℕ)) → id_of octets ≡ read → IfId read
id_of-if octets None e = tt
id_of-if octets (Some id) e = let is = id_of-is octets id e in subst (λ (w : List ℕ). IsTransId w) is.0 is.1

id_in-if : (content : Option (List ℕ)) → IfId (id_in content)
id_in-if None = tt
id_in-if (Some content) = id_of-if content (id_of content) refl

origin-if : (bytes : List ℕ) (origin destination : Option (List ℕ)) → Front bytes origin destination → IfId origin
origin-if _ _ _ (ids bytes inside behind rest origin destination looks first second) = id_in-if origin
origin-if _ _ _ (none bytes lacks) = tt

cause-within : (f : FrameFault) → fault_cause f ≤ cause_limit
cause-within Unknown = omega arith
cause-within BadlyFormatted = omega arith
cause-within Incorrect = omega arith

abort-if : (f : FrameFault) (origin : Option (List ℕ)) → IfId origin → IfSends (fault_abort f origin)
abort-if f None id = tt
abort-if f (Some origin) id = cause-sends (fault_cause f) origin (cause-within f) id

aborted-sound : (full : Bool) (bytes : List ℕ) (aborting : Option Message) → IfSends aborting
    → IsSound full bytes (aborted_or_dropped aborting)
aborted-sound full bytes None sends = tt
aborted-sound full bytes (Some aborting) sends = sends

broken-sound : (full : Bool) (bytes : List ℕ) (named : Option ℕ) (aborting : Option Message) (f : FrameFault)
    → IfSends aborting → IsSound full bytes (faulty_continue named aborting f)
broken-sound full bytes (Some d) aborting f sends = sends
broken-sound full bytes None aborting f sends = aborted-sound full bytes aborting sends

ended-sound : (full : Bool) (bytes : List ℕ) (named : Option ℕ) (f : FrameFault)
    → IsSound full bytes (faulty_last named f)
ended-sound full bytes (Some d) f = tt
ended-sound full bytes None f = tt

either-sound : (full : Bool) (bytes : List ℕ) (test : Bool) (x y : Reception) → IsSound full bytes x
    → IsSound full bytes y → IsSound full bytes (if test then x else y)
either-sound full bytes true x y p q = p
either-sound full bytes false x y p q = q

fault-sound : (full : Bool) (bytes : List ℕ) (first : ℕ) (named : Option ℕ) (aborting : Option Message) (f : FrameFault)
    → IfSends aborting → IsSound full bytes (fault_by first named aborting f)
fault-sound full bytes first named aborting f sends =
    either-sound full bytes (first == 0x61) _ _ tt
    (either-sound full bytes (first == 0x64) _ _ (ended-sound full bytes named f)
    (either-sound full bytes (first == 0x65) _ _ (broken-sound full bytes named aborting f sends)
    (either-sound full bytes (first == 0x67) _ _ (ended-sound full bytes named f)
    (aborted-sound full bytes aborting sends))))

faulty-sound : (full : Bool) (live : ℕ → Bool) (bytes : List ℕ) (f : FrameFault)
    → IsSound full bytes (faulty live bytes f)
faulty-sound full live [] f = tt
faulty-sound full live (first ∷ bytes) f =
    let front = front_at (first ∷ bytes) in
    fault-sound full (first ∷ bytes) first (addressed_if_any live front.1) (fault_abort f front.0) f
    (abort-if f front.0 (origin-if (first ∷ bytes) front.0 front.1 (front_read (first ∷ bytes))))

-- ---- all bytes

reading-sound : (live : ℕ → Bool) (full : Bool) (bytes : List ℕ) (read : Result Message FrameFault)
    → frame_at bytes ≡ read → IsSound full bytes (reading_by live full bytes read)
reading-sound live full bytes (Ok m) e = message-sound live full bytes m e
reading-sound live full bytes (Err f) e = faulty-sound full live bytes f

pub reception-sound : (live : ℕ → Bool) (full : Bool) (bytes : List ℕ) → IsSound full bytes (reception live full bytes)
reception-sound live full bytes =
    either-sound full bytes (nat_lt message_limit (length bytes)) _ _ tt
    (reading-sound live full bytes (frame_at bytes) refl)
