-- Received bytes reach the live dialogue that they name, and no other.
use Rattle.std.proofs.Common.{◌≡◌, ℕ, true, false, Bool, eqb, ◌==◌, ◌||◌, List, [], ◌∷◌, length, nat_lt, nat_le, Option, Some, None, Result, Ok, Err, if◌then◌else◌, refl, sym, ap, subst, ◌∙◌, inl, inr}
use Rattle.std.proofs.lemmas.Bool.{cases_Bool, eqb-true, eq-eqb, or_cases, or_left, or_right, leb-true, le-ltb, le-leb, ltb-false, true≢false}
use Rattle.tcap_pdu.specs.declared.fault.FrameFault.{FrameFault}
use Rattle.tcap_pdu.specs.FrameReading.{frame_at}
use Rattle.tcap_pdu.specs.FrameSpelling.{Message}
use Rattle.tcap_pdu.specs.FrameWritten.{message_limit}
use Rattle.tcap_pdu.specs.Front.{front_at}
use Rattle.tcap_model.specs.Procedures.AbortRules.{fault_cause}
use Rattle.tcap_model.specs.Procedures.Destination.{destination, begins_addressed, destination_by}
use Rattle.tcap_model.specs.Words.LocalId.{dialogue_named, is_that}
use Rattle.tcap_model.specs.Histories.Names.{is_destined, named_within}
use Rattle.tcap_model.specs.Procedures.PortionRules.{BeginVerdict, begin_verdict, PortionVerdict, uni_verdict}
use Rattle.tcap_model.specs.Statements.FaultAnswer.{fault_answer}
use Rattle.tcap_model.specs.Procedures.Reception.{Reception, live_named, addressed, addressed_if_any, uni_by, begin_by, continue_by, final_message_by, message_by, fault_abort, aborted_or_dropped, faulty_continue, faulty_last, fault_by, faulty, reading_by, reception}
use Rattle.tcap_laws.proofs.Receptions.BytesNames.{names_in}

-- ---- the dialogue that is named

pub that-is : (dialogue : ℕ) (named : Option ℕ) → is_that dialogue named ≡ true → named ≡ Some dialogue
that-is dialogue None e = absurd (true≢false (sym e))
that-is dialogue (Some d) e = ap (λ (n : ℕ). Some n) (eqb-true d dialogue e)

destined-live : (live : ℕ → Bool) (dialogue : ℕ) (to : Option (List ℕ)) → is_destined dialogue to ≡ true
    → live dialogue ≡ true → addressed_if_any live to ≡ Some dialogue
destined-live live dialogue None is lives = absurd (true≢false (sym is))
destined-live live dialogue (Some octets) is lives = rw (that-is dialogue (dialogue_named octets) is, lives) refl

live-destined : (live : ℕ → Bool) (dialogue : ℕ) (to : Option (List ℕ)) → addressed_if_any live to ≡ Some dialogue
    → (is_destined dialogue to ≡ true) × (live dialogue ≡ true)
live-destined live dialogue None e = absurd cc
live-destined live dialogue (Some octets) e = by-named (dialogue_named octets) e
  where
    by-live : (d : ℕ) → (if live d then Some d else None) ≡ Some dialogue
        → (eqb d dialogue ≡ true) × (live dialogue ≡ true)
    by-live d e = elim (cases_Bool (live d)) [
      | inl lives ↦ let e = e in
          let some : Some d ≡ Some dialogue = rw lives at e in
          let same : d ≡ dialogue = cc in
          (eq-eqb d dialogue same, subst (λ (n : ℕ). live n ≡ true) same lives)
      | inr not ↦ let e = e in let none : None ≡ Some dialogue = rw not at e in absurd cc
    ]

    by-named : (named : Option ℕ) → live_named live named ≡ Some dialogue
        → (is_that dialogue named ≡ true) × (live dialogue ≡ true)
    by-named None e = absurd cc
    by-named (Some d) e = by-live d e

-- ---- faulty messages

-- by its first octet
broken-by : (dialogue first : ℕ) (aborting : Option Message) (f : FrameFault)
    → (first == 0x64) || (first == 0x65) || (first == 0x67) ≡ true →
    fault_by first (Some dialogue) aborting f ≡ Reception.broken dialogue (if first == 0x65 then aborting else None)
    (fault_cause f)
broken-by dialogue first aborting f is = elim (or_cases ((first == 0x64) || (first == 0x65)) (first == 0x67) is) [
  | inl others ↦ elim (or_cases (first == 0x64) (first == 0x65) others) [
    | inl end ↦ alike 0x64 (eqb-true first 0x64 end) refl
    | inr go_on ↦ alike 0x65 (eqb-true first 0x65 go_on) refl
  ]
  | inr last ↦ alike 0x67 (eqb-true first 0x67 last) refl
]
  where
    IsBroken : ℕ → Type 0
    IsBroken n = fault_by n (Some dialogue) aborting f
        ≡ Reception.broken dialogue (if n == 0x65 then aborting else None) (fault_cause f)

    alike : (n : ℕ) → first ≡ n → IsBroken n → IsBroken first
    alike n same broken = subst IsBroken (sym same) broken

faulty-broken : (live : ℕ → Bool) (dialogue : ℕ) (bytes : List ℕ) (f : FrameFault)
    → is_destined dialogue (destination_by bytes (Err f)) ≡ true → live dialogue ≡ true →
    faulty live bytes f ≡ Reception.broken dialogue (fault_answer bytes f (front_at bytes).0) (fault_cause f)
faulty-broken live dialogue [] f is lives = absurd (true≢false (sym is))
faulty-broken live dialogue (first ∷ bytes) f is lives = elim (cases_Bool (begins_addressed (first ∷ bytes))) [
  | inl begins ↦ let is = is in
      let front = front_at (first ∷ bytes) in
      let to : is_destined dialogue front.1 ≡ true = rw begins at is in
      ap (λ (n : Option ℕ). fault_by first n (fault_abort f front.0) f) (destined-live live dialogue front.1 to lives)
      ∙ broken-by dialogue first (fault_abort f front.0) f begins
  | inr not ↦ let is = is in let none : false ≡ true = rw not at is in absurd (true≢false (sym none))
]

-- ---- bytes that name a live dialogue

module _ (live : ℕ → Bool) (full : Bool) (dialogue : ℕ) (bytes : List ℕ)
    (named : names_in bytes dialogue ≡ true) (lives : live dialogue ≡ true) where
  within : nat_le (length bytes) message_limit ≡ true
  within = by (nat_le (length bytes) message_limit) named
    where
      by : (short : Bool) → named_within short dialogue bytes ≡ true → short ≡ true
      by true e = refl
      by false e = absurd (true≢false (sym e))

  destined : (read : Result Message FrameFault) → frame_at bytes ≡ read
      → is_destined dialogue (destination_by bytes read) ≡ true
  destined read e = rw (within, e) at named

  read-whole : reception live full bytes ≡ reading_by live full bytes (frame_at bytes)
  read-whole = rw (le-ltb message_limit (length bytes) (leb-true (length bytes) message_limit within)) refl

  message-taken : (m : Message) → is_destined dialogue (destination m) ≡ true
      → message_by live full m ≡ Reception.taken dialogue m
  message-taken (Message.unidirectional portion components) is = absurd (true≢false (sym is))
  message-taken (Message.begin origin portion components) is = absurd (true≢false (sym is))
  message-taken (Message.go_on origin to portion components) is =
      rw (destined-live live dialogue (Some to) is lives) refl
  message-taken (Message.end to portion components) is = rw (destined-live live dialogue (Some to) is lives) refl
  message-taken (Message.abort to reason) is = rw (destined-live live dialogue (Some to) is lives) refl

  pub named-taken : (m : Message) → frame_at bytes ≡ Ok m → reception live full bytes ≡ Reception.taken dialogue m
  named-taken m e = read-whole ∙ (ap (reading_by live full bytes) e ∙ message-taken m (destined (Ok m) e))

  pub named-broken : (f : FrameFault) → frame_at bytes ≡ Err f
      → reception live full bytes ≡ Reception.broken dialogue (fault_answer bytes f (front_at bytes).0) (fault_cause f)
  named-broken f e = read-whole ∙ (ap (reading_by live full bytes) e
      ∙ faulty-broken live dialogue bytes f (destined (Err f) e) lives)

-- ---- bytes that reach a dialogue

-- what a dialogue takes and what breaks it names it, and it is live
abbrev pub IsNamed : (ℕ → Bool) → List ℕ → Reception → Type 0
IsNamed live bytes (Reception.dropped why) = Unit {0}
IsNamed live bytes (Reception.aborted aborting) = Unit {0}
IsNamed live bytes (Reception.unidirectional context info components) = Unit {0}
IsNamed live bytes (Reception.begun origin context info components) = Unit {0}
IsNamed live bytes (Reception.taken dialogue message) =
    (names_in bytes dialogue ≡ true) × (live dialogue ≡ true) × (frame_at bytes ≡ Ok message)
IsNamed live bytes (Reception.broken dialogue aborting cause) =
    (names_in bytes dialogue ≡ true) × (live dialogue ≡ true) × (f : FrameFault)
    × (frame_at bytes ≡ Err f) × (cause ≡ fault_cause f)

module _ (live : ℕ → Bool) (bytes : List ℕ) (short : nat_le (length bytes) message_limit ≡ true) where
  names-by : (dialogue : ℕ) (read : Result Message FrameFault) → frame_at bytes ≡ read
      → is_destined dialogue (destination_by bytes read) ≡ true → names_in bytes dialogue ≡ true
  names-by dialogue read e is = rw (short, e) is

  taken-named : (dialogue : ℕ) (m : Message) → frame_at bytes ≡ Ok m
      → addressed_if_any live (destination m) ≡ Some dialogue → IsNamed live bytes (Reception.taken dialogue m)
  taken-named dialogue m e is =
      let to = live-destined live dialogue (destination m) is in
      (names-by dialogue (Ok m) e to.0, to.1, e)

  last-named : (m : Message) → frame_at bytes ≡ Ok m → (named : Option ℕ)
      → addressed_if_any live (destination m) ≡ named → IsNamed live bytes (final_message_by named m)
  last-named m e (Some d) is = taken-named d m e is
  last-named m e None is = tt

  continue-named : (origin : List ℕ) (m : Message) → frame_at bytes ≡ Ok m → (named : Option ℕ)
      → addressed_if_any live (destination m) ≡ named → IsNamed live bytes (continue_by named origin m)
  continue-named origin m e (Some d) is = taken-named d m e is
  continue-named origin m e None is = tt

  uni-named : (verdict : PortionVerdict) (components : List ℕ) → IsNamed live bytes (uni_by verdict components)
  uni-named (PortionVerdict.normal context info) components = tt
  uni-named PortionVerdict.abnormal components = tt

  verdict-named : (verdict : BeginVerdict) (origin components : List ℕ)
      → IsNamed live bytes (begin_by verdict origin components)
  verdict-named BeginVerdict.plain origin components = tt
  verdict-named (BeginVerdict.with_context context info) origin components = tt
  verdict-named (BeginVerdict.wrong_version context) origin components = tt
  verdict-named BeginVerdict.abnormal origin components = tt

  either-named : (test : Bool) (x y : Reception) → (test ≡ true → IsNamed live bytes x)
      → (test ≡ false → IsNamed live bytes y) → IsNamed live bytes (if test then x else y)
  either-named true x y p q = p refl
  either-named false x y p q = q refl

  message-named : (full : Bool) (m : Message) → frame_at bytes ≡ Ok m → IsNamed live bytes (message_by live full m)
  message-named full (Message.unidirectional portion components) e = uni-named (uni_verdict portion) components
  message-named full (Message.begin origin portion components) e =
      either-named full _ _ (λ y. tt) (λ n. verdict-named (begin_verdict portion) origin components)
  message-named full (Message.go_on origin to portion components) e =
      continue-named origin (Message.go_on origin to portion components) e (addressed live to) refl
  message-named full (Message.end to portion components) e =
      last-named (Message.end to portion components) e (addressed live to) refl
  message-named full (Message.abort to reason) e = last-named (Message.abort to reason) e (addressed live to) refl

aborted-named : (live : ℕ → Bool) (bytes : List ℕ) (aborting : Option Message)
    → IsNamed live bytes (aborted_or_dropped aborting)
aborted-named live bytes None = tt
aborted-named live bytes (Some aborting) = tt

module _ (live : ℕ → Bool) (first : ℕ) (bytes : List ℕ) (f : FrameFault)
    (short : nat_le (length (first ∷ bytes)) message_limit ≡ true) (fails : frame_at (first ∷ bytes) ≡ Err f) where
  abbrev to : Option (List ℕ)
  to = (front_at (first ∷ bytes)).1

  broken-named : (dialogue : ℕ) (aborting : Option Message) → begins_addressed (first ∷ bytes) ≡ true
      → addressed_if_any live to ≡ Some dialogue → IsNamed live (first ∷ bytes)
      (Reception.broken dialogue aborting (fault_cause f))
  broken-named dialogue aborting begins is =
      let it = live-destined live dialogue to is in
      (names-by live (first ∷ bytes) short dialogue (Err f) fails (rw begins it.0), it.1, f, fails, refl)

  broken-last : begins_addressed (first ∷ bytes) ≡ true → (named : Option ℕ) → addressed_if_any live to ≡ named
      → IsNamed live (first ∷ bytes) (faulty_last named f)
  broken-last begins (Some d) is = broken-named d None begins is
  broken-last begins None is = tt

  broken-continue : begins_addressed (first ∷ bytes) ≡ true → (aborting : Option Message) (named : Option ℕ)
      → addressed_if_any live to ≡ named → IsNamed live (first ∷ bytes) (faulty_continue named aborting f)
  broken-continue begins aborting (Some d) is = broken-named d aborting begins is
  broken-continue begins aborting None is = aborted-named live (first ∷ bytes) aborting

  fault-named : (aborting : Option Message) → IsNamed live (first ∷ bytes)
      (fault_by first (addressed_if_any live to) aborting f)
  fault-named aborting =
      let a = first == 0x64 in
      let b = first == 0x65 in
      let c = first == 0x67 in
      let either = either-named live (first ∷ bytes) short in
      either (first == 0x61) _ _ (λ y. tt)
      (λ n. either a _ _ (λ y. broken-last (or_left (a || b) c (or_left a b y)) (addressed_if_any live to) refl)
      (λ n. either b _ _ (λ y. broken-continue (or_left (a || b) c (or_right a b y)) aborting (addressed_if_any live to)
      refl)
      (λ n. either c _ _ (λ y. broken-last (or_right (a || b) c y) (addressed_if_any live to) refl)
      (λ n. aborted-named live (first ∷ bytes) aborting))))

faulty-named : (live : ℕ → Bool) (bytes : List ℕ) (f : FrameFault) → nat_le (length bytes) message_limit ≡ true
    → frame_at bytes ≡ Err f → IsNamed live bytes (faulty live bytes f)
faulty-named live [] f short fails = tt
faulty-named live (first ∷ bytes) f short fails =
    fault-named live first bytes f short fails (fault_abort f (front_at (first ∷ bytes)).0)

reading-named : (live : ℕ → Bool) (full : Bool) (bytes : List ℕ) → nat_le (length bytes) message_limit ≡ true
    → (read : Result Message FrameFault) → frame_at bytes ≡ read → IsNamed live bytes (reading_by live full bytes read)
reading-named live full bytes short (Ok m) e = message-named live bytes short full m e
reading-named live full bytes short (Err f) e = faulty-named live bytes f short e

pub reception-named : (live : ℕ → Bool) (full : Bool) (bytes : List ℕ) → IsNamed live bytes (reception live full bytes)
reception-named live full bytes = elim (cases_Bool (nat_lt message_limit (length bytes))) [
  | inl long ↦ rw long tt
  | inr short ↦ rw short (reading-named live full bytes
      (le-leb (length bytes) message_limit (ltb-false message_limit (length bytes) short)) (frame_at bytes) refl)
]
