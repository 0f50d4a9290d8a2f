-- The Aborts that go out for received octets are messages of octets.
use Rattle.std.proofs.Common.{◌≡◌, ℕ, zero, suc, Bool, true, false, List, [], ◌∷◌, ◌++◌, ◌==◌, nat_lt, take, length, Option, Some, None, Result, Ok, Err, if◌then◌else◌, refl, sym, subst}
use Rattle.ber_core.specs.Sequence.Field.{may}
use Rattle.tcap_pdu.specs.declared.fault.DialogueFault.{DialogueFault}
use Rattle.tcap_pdu.specs.declared.fault.FrameFault.{FrameFault}
use Rattle.tcap_pdu.specs.declared.fault.FrameFault.TheVariants.{Unknown, BadlyFormatted, Incorrect}
use Rattle.tcap_pdu.specs.DialogueReading.{dialogue_at}
use Rattle.tcap_pdu.specs.DialogueSpelling.{PduValue, Source}
use Rattle.tcap_pdu.specs.DialogueSpelling.PduValue.{aarq, audt, aare, abrt, foreign}
use Rattle.tcap_pdu.specs.DialogueWritten.{written_dialogue}
use Rattle.tcap_pdu.specs.FrameReading.{frame_at}
use Rattle.tcap_pdu.specs.FrameSpelling.{Message, Reason}
use Rattle.tcap_pdu.specs.FrameWritten.{written_frame}
use Rattle.tcap_pdu.specs.FrameWritten.{message_limit}
use Rattle.tcap_pdu.specs.Front.{Front, StandsFirst, LooksAt, cut, id_in, front_at}
use Rattle.tcap_pdu.specs.Front.Front.{ids, none}
use Rattle.tcap_pdu.specs.Front.StandsFirst.{stands, lacks}
use Rattle.tcap_pdu.specs.TransId.{id_of}
use Rattle.tcap_pdu.proofs.CallerLemmas.{frame_takes, dialogue_takes, front_read, id_of-is}
use Rattle.tcap_model.specs.Procedures.AbortRules.{abort_with, abnormal_abort, version_abort, fault_cause, unrecognized_id, resource_limitation}
use Rattle.tcap_model.specs.Procedures.PortionRules.{BeginVerdict, begin_verdict, begin_verdict_by, PortionVerdict, uni_verdict}
use Rattle.tcap_model.specs.Procedures.Reception.{Reception, addressed, addressed_if_any, uni_by, begin_by, continue_by, final_message_by, message_by, fault_abort, aborted_or_dropped, faulty_continue, faulty_last, fault_by, faulty, reading_by, reception}
use Rattle.tcap_play.proofs.Octets.LifeOctets.{OctetsIfAny}
use Rattle.tcap_play.proofs.Octets.OctetLists.{Octets, octets-append, octets-one, octets-parts}
use Rattle.tcap_play.proofs.Octets.ReadOctets.{FieldOctets, element-content, frame-octets, request-context}
use Rattle.tcap_play.proofs.Octets.ReplyOctets.{FineMessage}
use Rattle.tcap_play.proofs.Octets.WrittenOctets.{dialogue-fine}

-- ---- Aborts

-- a message of ours is octets
abbrev pub IsFineAbort : Message → Type 0
IsFineAbort m = FineMessage (written_frame m)

pub cause-sends : (number : ℕ) (peer : List ℕ) → nat_lt number 0x100 ≡ true → Octets peer → IsFineAbort (abort_with number peer)
cause-sends number peer low octets = record {
  message = Message.abort peer (Reason.cause number);
  is_written = refl;
  fine = ((refl, λ short. octets), ((refl, λ short. octets-one number low), tt));
}

pub abnormal-sends : (peer : List ℕ) → Octets peer → IsFineAbort (abnormal_abort peer)
abnormal-sends peer octets = record {
  message = Message.abort peer (Reason.portion (written_dialogue (PduValue.abrt true [])));
  is_written = refl;
  fine = ((refl, λ short. octets), ((refl, dialogue-fine (PduValue.abrt true []) (λ short. refl)), tt));
}

version-sends : (context peer : List ℕ) → Octets context → Octets peer → IsFineAbort (version_abort context peer)
version-sends context peer named octets = record {
  message = Message.abort peer (Reason.portion (written_dialogue (PduValue.aare true context false (Source.provider 2) [])));
  is_written = refl;
  fine = ((refl, λ short. octets), ((refl, dialogue-fine (PduValue.aare true context false (Source.provider 2) []) ((λ short. named), refl, λ short. refl)), tt));
}

-- what is sent of what becomes of received octets is a message of octets; what a dialogue takes was read
abbrev IfSends : Option Message → Type 0
IfSends None = Unit {0}
IfSends (Some answer) = IsFineAbort answer

abbrev pub IsFine : List ℕ → Reception → Type 0
IsFine bytes (Reception.dropped why) = Unit {0}
IsFine bytes (Reception.aborted answer) = IsFineAbort answer
IsFine bytes (Reception.unidirectional context info components) = Unit {0}
IsFine bytes (Reception.begun origin context info components) = Unit {0}
IsFine bytes (Reception.taken dialogue message) = frame_at bytes ≡ Ok message
IsFine bytes (Reception.broken dialogue abort cause) = IfSends abort

either-fine : (bytes : List ℕ) (test : Bool) (x y : Reception) → IsFine bytes x → IsFine bytes y
    → IsFine bytes (if test then x else y)
either-fine bytes true x y a b = a
either-fine bytes false x y a b = b

-- ---- messages that can be read

abbrev VerdictOctets : BeginVerdict → Type 0
VerdictOctets BeginVerdict.plain = Unit {0}
VerdictOctets (BeginVerdict.with_context context info) = Unit {0}
VerdictOctets (BeginVerdict.wrong_version context) = Octets context
VerdictOctets BeginVerdict.abnormal = Unit {0}

verdict-octets : (portion : List ℕ) → Octets portion → (read : Result PduValue DialogueFault) → dialogue_at portion ≡ read
    → VerdictOctets (begin_verdict_by read)
verdict-octets portion octets (Ok (aarq true context info)) e = tt
verdict-octets portion octets (Ok (aarq false context info)) e =
    request-context false context info portion (dialogue_takes portion (aarq false context info) e) octets
verdict-octets portion octets (Ok (audt version1 context info)) e = tt
verdict-octets portion octets (Ok (aare version1 context accepted diagnostic info)) e = tt
verdict-octets portion octets (Ok (abrt by_provider info)) e = tt
verdict-octets portion octets (Ok (foreign external)) e = tt
verdict-octets portion octets (Err f) e = tt

begin-octets : (portion : Option (List ℕ)) → FieldOctets (may 0x6b portion) → VerdictOctets (begin_verdict portion)
begin-octets None octets = tt
begin-octets (Some portion) octets = verdict-octets portion octets (dialogue_at portion) refl

begin-fine : (bytes origin components : List ℕ) (verdict : BeginVerdict) → VerdictOctets verdict → Octets origin
    → IsFine bytes (begin_by verdict origin components)
begin-fine bytes origin components BeginVerdict.plain named octets = tt
begin-fine bytes origin components (BeginVerdict.with_context context info) named octets = tt
begin-fine bytes origin components (BeginVerdict.wrong_version context) named octets = version-sends context origin named octets
begin-fine bytes origin components BeginVerdict.abnormal named octets = abnormal-sends origin octets

uni-fine : (bytes components : List ℕ) (verdict : PortionVerdict) → IsFine bytes (uni_by verdict components)
uni-fine bytes components (PortionVerdict.normal context info) = tt
uni-fine bytes components PortionVerdict.abnormal = tt

continue-fine : (bytes origin : List ℕ) (m : Message) (named : Option ℕ) → frame_at bytes ≡ Ok m → Octets origin
    → IsFine bytes (continue_by named origin m)
continue-fine bytes origin m (Some d) e octets = e
continue-fine bytes origin m None e octets = cause-sends unrecognized_id origin refl octets

last-fine : (bytes : List ℕ) (m : Message) (named : Option ℕ) → frame_at bytes ≡ Ok m → IsFine bytes (final_message_by named m)
last-fine bytes m (Some d) e = e
last-fine bytes m None e = tt

message-fine : (live : ℕ → Bool) (full : Bool) (bytes : List ℕ) (m : Message) → Octets bytes → frame_at bytes ≡ Ok m
    → IsFine bytes (message_by live full m)
message-fine live full bytes (Message.unidirectional portion components) octets e = uni-fine bytes components (uni_verdict portion)
message-fine live full bytes (Message.begin origin portion components) octets e =
    let m : Message = Message.begin origin portion components in
    let parts = frame-octets m bytes (frame_takes bytes m e) octets in
    either-fine bytes full (Reception.aborted (abort_with resource_limitation origin)) (begin_by (begin_verdict portion) origin components)
    (cause-sends resource_limitation origin refl parts.0)
    (begin-fine bytes origin components (begin_verdict portion) (begin-octets portion parts.1.0) parts.0)
message-fine live full bytes (Message.go_on origin to portion components) octets e =
    let m : Message = Message.go_on origin to portion components in
    let parts = frame-octets m bytes (frame_takes bytes m e) octets in
    continue-fine bytes origin m (addressed live to) e parts.0
message-fine live full bytes (Message.end to portion components) octets e =
    last-fine bytes (Message.end to portion components) (addressed live to) e
message-fine live full bytes (Message.abort to reason) octets e =
    last-fine bytes (Message.abort to reason) (addressed live to) e

-- ---- faulty messages

octets-take : (n : ℕ) (xs : List ℕ) → Octets xs → Octets (take n xs)
octets-take zero xs octets = refl
octets-take (suc n) [] octets = refl
octets-take (suc n) (x ∷ xs) octets =
    let both = octets-parts (x ∷ []) xs octets in
    octets-append (x ∷ []) (take n xs) both.0 (octets-take n xs both.1)

cut-octets : (len : Option ℕ) (rest : List ℕ) → Octets rest → Octets (cut len rest)
cut-octets None rest octets = octets
cut-octets (Some n) rest octets = octets-take n rest octets

looks-octets : (bytes inside : List ℕ) → LooksAt bytes inside → Octets bytes → Octets inside
looks-octets bytes inside looks octets =
    let head = looks.begins in
    let behind = octets-parts looks.tag (head.octets ++ looks.rest) (subst (λ (w : List ℕ). Octets w) head.parts octets) in
    subst (λ (w : List ℕ). Octets w) (sym looks.is_cut)
    (cut-octets looks.len looks.rest (octets-parts head.octets looks.rest behind.1).1)

first-octets : (tag : ℕ) (inside : List ℕ) (content : Option (List ℕ)) (behind : List ℕ) → StandsFirst tag inside content behind
    → Octets inside → OctetsIfAny content
first-octets tag _ _ _ (stands e rest is tags) octets = element-content 32 e is (octets-parts e.whole rest octets).0
first-octets tag _ _ _ (lacks bytes no_such) octets = tt

id-octets : (content : List ℕ) (read : Option (List ℕ)) → id_of content ≡ read → Octets content → OctetsIfAny read
id-octets content None e octets = tt
id-octets content (Some id) e octets = subst (λ (w : List ℕ). Octets w) (id_of-is content id e).0 octets

id_in-octets : (content : Option (List ℕ)) → OctetsIfAny content → OctetsIfAny (id_in content)
id_in-octets None octets = tt
id_in-octets (Some content) octets = id-octets content (id_of content) refl octets

origin-octets : (bytes : List ℕ) (origin destination : Option (List ℕ)) → Front bytes origin destination → Octets bytes
    → OctetsIfAny origin
origin-octets _ _ _ (ids bytes inside behind rest origin destination looks first second) octets =
    id_in-octets origin (first-octets 0x48 inside origin behind first (looks-octets bytes inside looks octets))
origin-octets _ _ _ (none bytes no_such) octets = tt

cause-low : (f : FrameFault) → nat_lt (fault_cause f) 0x100 ≡ true
cause-low Unknown = refl
cause-low BadlyFormatted = refl
cause-low Incorrect = refl

abort-if : (f : FrameFault) (origin : Option (List ℕ)) → OctetsIfAny origin → IfSends (fault_abort f origin)
abort-if f None octets = tt
abort-if f (Some origin) octets = cause-sends (fault_cause f) origin (cause-low f) octets

aborted-fine : (bytes : List ℕ) (abort : Option Message) → IfSends abort → IsFine bytes (aborted_or_dropped abort)
aborted-fine bytes None sends = tt
aborted-fine bytes (Some answer) sends = sends

broken-fine : (bytes : List ℕ) (named : Option ℕ) (abort : Option Message) (f : FrameFault) → IfSends abort
    → IsFine bytes (faulty_continue named abort f)
broken-fine bytes (Some d) abort f sends = sends
broken-fine bytes None abort f sends = aborted-fine bytes abort sends

ended-fine : (bytes : List ℕ) (named : Option ℕ) (f : FrameFault) → IsFine bytes (faulty_last named f)
ended-fine bytes (Some d) f = tt
ended-fine bytes None f = tt

fault-fine : (bytes : List ℕ) (first : ℕ) (named : Option ℕ) (abort : Option Message) (f : FrameFault) → IfSends abort
    → IsFine bytes (fault_by first named abort f)
fault-fine bytes first named abort f sends =
    either-fine bytes (first == 0x61) _ _ tt
    (either-fine bytes (first == 0x64) _ _ (ended-fine bytes named f)
    (either-fine bytes (first == 0x65) _ _ (broken-fine bytes named abort f sends)
    (either-fine bytes (first == 0x67) _ _ (ended-fine bytes named f)
    (aborted-fine bytes abort sends))))

faulty-fine : (live : ℕ → Bool) (bytes : List ℕ) (f : FrameFault) → Octets bytes → IsFine bytes (faulty live bytes f)
faulty-fine live [] f octets = tt
faulty-fine live (first ∷ bytes) f octets =
    let front = front_at (first ∷ bytes) in
    fault-fine (first ∷ bytes) first (addressed_if_any live front.1) (fault_abort f front.0) f
    (abort-if f front.0 (origin-octets (first ∷ bytes) front.0 front.1 (front_read (first ∷ bytes)) octets))

-- ---- all octets

reading-fine : (live : ℕ → Bool) (full : Bool) (bytes : List ℕ) (read : Result Message FrameFault) → Octets bytes
    → frame_at bytes ≡ read → IsFine bytes (reading_by live full bytes read)
reading-fine live full bytes (Ok m) octets e = message-fine live full bytes m octets e
reading-fine live full bytes (Err f) octets e = faulty-fine live bytes f octets

pub reception-fine : (live : ℕ → Bool) (full : Bool) (bytes : List ℕ) → Octets bytes → IsFine bytes (reception live full bytes)
reception-fine live full bytes octets =
    either-fine bytes (nat_lt message_limit (length bytes)) _ _ tt
    (reading-fine live full bytes (frame_at bytes) octets refl)
