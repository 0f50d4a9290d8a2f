-- What received bytes tell of the number n, by what its dialogue tells.
use Rattle.std.proofs.Common.{◌≡◌, ℕ, ◌==◌, Bool, true, false, cond, ◌||◌, nat_le, nat_lt, List, [], ◌∷◌, ◌++◌, length, Option, Some, None, Result, Ok, Err, refl, ap, sym, ◌∙◌, subst, arith}
use Rattle.std.proofs.lemmas.Bool.Decides.{nat_tests}
use Rattle.tcap_component.specs.ComponentReading.{components_of}
use Rattle.tcap_laws.proofs.Decisions.QuietDialogues.{IsQuiet, components_quiet, taken_quiet}
use Rattle.tcap_laws.proofs.Decisions.ToldOutputs.{told, told-append, uni_silent}
use Rattle.tcap_model.specs.Procedures.AbortRules.{fault_cause, sent_if_any}
use Rattle.tcap_model.specs.Histories.Birth.{next_dialogue}
use Rattle.tcap_model.specs.Invocations.Closings.{Told}
use Rattle.tcap_model.specs.Procedures.Destination.{destination_by}
use Rattle.tcap_model.specs.Histories.History.{History}
use Rattle.tcap_model.specs.Histories.Life.{life, live_in}
use Rattle.tcap_model.specs.Words.LocalId.{dialogue_named, is_that}
use Rattle.tcap_model.specs.Histories.Names.{named_within, is_destined}
use Rattle.tcap_model.specs.Words.Output.{Output, AbortCause, DropCause, DialogueIndication}
use Rattle.tcap_model.specs.Histories.Pair.{Past}
use Rattle.tcap_model.specs.Procedures.PortionRules.{BeginVerdict, begin_verdict, PortionVerdict, uni_verdict}
use Rattle.tcap_model.specs.Procedures.Reception.{Reception, reception, reading_by, message_by, uni_by, begin_by, continue_by, final_message_by, live_named, addressed, addressed_if_any, faulty, fault_abort, faulty_last, faulty_continue, aborted_or_dropped}
use Rattle.tcap_model.specs.Replies.Reply.{reception_outputs, taken_outputs, ended_in}
use Rattle.tcap_pdu.specs.declared.fault.FrameFault.{FrameFault}
use Rattle.tcap_pdu.specs.FrameReading.{frame_at}
use Rattle.tcap_pdu.specs.FrameSpelling.{Message}
use Rattle.tcap_pdu.specs.FrameWritten.{message_limit}
use Rattle.tcap_pdu.specs.Front.{front_at}
use Rattle.tcap_model.specs.Words.Address.{Address}
use Rattle.tcap_laws.proofs.Receptions.BytesNames.{names_in}

abbrev pub is_live_in : History → ℕ → Bool
is_live_in h dialogue = live_in (life dialogue h.pairs)

-- what is wanted of some bytes: nothing where they don't name the dialogue, or where it isn't live; else
-- what the dialogue tells of the message, or of its end
pub record Wants (n : ℕ) (place : Past) (h : History) (dialogue : ℕ) (from : Address) (bytes : List ℕ)
    (wanted : List Told) : Type 0
  where
    pub elsewhere : (d : ℕ) → (d == dialogue) ≡ false → IsQuiet n place h.pairs d
    pub next : IsQuiet n place h.pairs (next_dialogue h)
    pub unnamed : names_in bytes dialogue ≡ false → wanted ≡ []
    pub dead : is_live_in h dialogue ≡ false → wanted ≡ []
    pub taken : (m : Message) → names_in bytes dialogue ≡ true → is_live_in h dialogue ≡ true
        → frame_at bytes ≡ Ok m → told n place (taken_outputs dialogue h.pairs (life dialogue h.pairs) from m) ≡ wanted
    pub broken : (f : FrameFault) → names_in bytes dialogue ≡ true → is_live_in h dialogue ≡ true
        → frame_at bytes ≡ Err f → told n place (ended_in dialogue h.pairs []) ≡ wanted

module _ (n : ℕ) (place : Past) (h : History) (dialogue : ℕ) (from : Address) (bytes : List ℕ) (wanted : List Told)
    (w : Wants n place h dialogue from bytes wanted) where
  abbrev Tells : Reception → Type 0
  Tells r = told n place (reception_outputs h from r) ≡ wanted

  named_is : nat_lt message_limit (length bytes) ≡ false → (r : Result Message FrameFault) → frame_at bytes ≡ r
      → names_in bytes dialogue ≡ is_destined dialogue (destination_by bytes r)
  named_is short r q =
      let within : nat_le (length bytes) message_limit ≡ true = grind (arith, nat_tests) in
      ap (λ b. named_within b dialogue bytes) within ∙ ap (λ r. is_destined dialogue (destination_by bytes r)) q

  -- a destination, whatever becomes of it where no live dialogue has it
  addressed_tells : (octets : List ℕ) (by : Option ℕ → Reception)
      → names_in bytes dialogue ≡ is_destined dialogue (Some octets)
      → (wanted ≡ [] → Tells (by None)) → ((d : ℕ) → IsQuiet n place h.pairs d → wanted ≡ [] → Tells (by (Some d)))
      → (names_in bytes dialogue ≡ true → is_live_in h dialogue ≡ true → Tells (by (Some dialogue)))
      → Tells (by (addressed (is_live_in h) octets))
  addressed_tells octets by named none other here = go (dialogue_named octets) named
    where
      at : (d : ℕ) (live same : Bool) → is_live_in h d ≡ live → (d == dialogue) ≡ same
          → names_in bytes dialogue ≡ (d == dialogue) → Tells (by (cond live (Some d) None))
      at d false true p q e =
          let is : d ≡ dialogue = grind (arith, nat_tests) in
          none (w.dead (ap (is_live_in h) (sym is) ∙ p))
      at d false false p q e = none (w.unnamed (e ∙ q))
      at d true true p q e =
          let is : d ≡ dialogue = grind (arith, nat_tests) in
          subst (λ (d : ℕ). Tells (by (Some d))) (sym is) (here (e ∙ q) (ap (is_live_in h) (sym is) ∙ p))
      at d true false p q e = other d (w.elsewhere d q) (w.unnamed (e ∙ q))

      go : (o : Option ℕ) → names_in bytes dialogue ≡ is_that dialogue o
          → Tells (by (live_named (is_live_in h) o))
      go None e = none (w.unnamed e)
      go (Some d) e = at d (is_live_in h d) (d == dialogue) refl refl e

  -- ---- messages that can be read

  uni_tells : wanted ≡ [] → (v : PortionVerdict) (content : List ℕ) → Tells (uni_by v content)
  uni_tells none (PortionVerdict.normal context info) content = uni_silent n place (components_of content) ∙ sym none
  uni_tells none PortionVerdict.abnormal content = sym none

  begin_tells : wanted ≡ [] → (v : BeginVerdict) (origin content : List ℕ) → Tells (begin_by v origin content)
  begin_tells none BeginVerdict.plain origin content =
      components_quiet n place h.pairs (next_dialogue h) w.next content ∙ sym none
  begin_tells none (BeginVerdict.with_context context info) origin content =
      components_quiet n place h.pairs (next_dialogue h) w.next content ∙ sym none
  begin_tells none (BeginVerdict.wrong_version context) origin content = sym none
  begin_tells none BeginVerdict.abnormal origin content = sym none

  begun_tells : wanted ≡ [] → (is_full : Bool) (origin : List ℕ) (portion : Option (List ℕ)) (content : List ℕ)
      → Tells (message_by (is_live_in h) is_full (Message.begin origin portion content))
  begun_tells none true origin portion content = sym none
  begun_tells none false origin portion content = begin_tells none (begin_verdict portion) origin content

  message_tells : nat_lt message_limit (length bytes) ≡ false → (is_full : Bool) (m : Message) → frame_at bytes ≡ Ok m
      → Tells (message_by (is_live_in h) is_full m)
  message_tells short is_full (Message.unidirectional portion components) q =
      uni_tells (w.unnamed (named_is short (Ok (Message.unidirectional portion components)) q)) (uni_verdict portion)
      components
  message_tells short is_full (Message.begin origin portion components) q =
      begun_tells (w.unnamed (named_is short (Ok (Message.begin origin portion components)) q)) is_full origin portion
      components
  message_tells short is_full (Message.go_on origin to portion components) q =
      let m : Message = Message.go_on origin to portion components in
      addressed_tells to (λ o. continue_by o origin m) (named_is short (Ok m) q) (λ none. sym none)
      (λ d quiet none. taken_quiet n place h.pairs d quiet (life d h.pairs) from m ∙ sym none)
      (λ e live. w.taken m e live q)
  message_tells short is_full (Message.end to portion components) q =
      let m : Message = Message.end to portion components in
      addressed_tells to (λ o. final_message_by o m) (named_is short (Ok m) q) (λ none. sym none)
      (λ d quiet none. taken_quiet n place h.pairs d quiet (life d h.pairs) from m ∙ sym none)
      (λ e live. w.taken m e live q)
  message_tells short is_full (Message.abort to reason) q =
      let m : Message = Message.abort to reason in
      addressed_tells to (λ o. final_message_by o m) (named_is short (Ok m) q) (λ none. sym none)
      (λ d quiet none. taken_quiet n place h.pairs d quiet (life d h.pairs) from m ∙ sym none)
      (λ e live. w.taken m e live q)

  -- ---- faulty messages

  abort_told_of : (f : FrameFault) (origin : Option (List ℕ))
      → told n place (sent_if_any from (fault_abort f origin)) ≡ []
  abort_told_of f None = refl
  abort_told_of f (Some octets) = refl

  aborted_tells : wanted ≡ [] → (f : FrameFault) (origin : Option (List ℕ))
      → Tells (aborted_or_dropped (fault_abort f origin))
  aborted_tells none f None = sym none
  aborted_tells none f (Some octets) = sym none

  broken_by : (f : FrameFault) (origin : Option (List ℕ)) (d cause : ℕ) → told n place (ended_in d h.pairs []) ≡ wanted
      → Tells (Reception.broken d (fault_abort f origin) cause)
  broken_by f origin d cause e =
      told-append n place (sent_if_any from (fault_abort f origin))
      (Output.dialogue (DialogueIndication.p_abort d (AbortCause.cause cause)) ∷ ended_in d h.pairs [])
      ∙ (ap (λ z. z ++ told n place (ended_in d h.pairs [])) (abort_told_of f origin) ∙ e)

  -- a destination at the beginning of a faulty message
  front_tells : (front : Option (List ℕ)) (by : Option ℕ → Reception)
      → names_in bytes dialogue ≡ is_destined dialogue front
      → (wanted ≡ [] → Tells (by None)) → ((d : ℕ) → told n place (ended_in d h.pairs []) ≡ wanted
      → Tells (by (Some d))) → (f : FrameFault) → frame_at bytes ≡ Err f
      → Tells (by (addressed_if_any (is_live_in h) front))
  front_tells None by named none some f q = none (w.unnamed named)
  front_tells (Some octets) by named none some f q =
      addressed_tells octets by named none (λ d quiet nothing. some d (quiet.ends [] ∙ sym nothing))
      (λ e live. some dialogue (w.broken f e live q))

  faulty_continue_tells : (f : FrameFault) (front origin : Option (List ℕ)) → frame_at bytes ≡ Err f
      → names_in bytes dialogue ≡ is_destined dialogue front
      → Tells (faulty_continue (addressed_if_any (is_live_in h) front) (fault_abort f origin) f)
  faulty_continue_tells f front origin q named =
      front_tells front (λ o. faulty_continue o (fault_abort f origin) f) named (λ none. aborted_tells none f origin)
      (λ d e. broken_by f origin d (fault_cause f) e) f q

  faulty_last_tells : (f : FrameFault) (front : Option (List ℕ)) → frame_at bytes ≡ Err f
      → names_in bytes dialogue ≡ is_destined dialogue front
      → Tells (faulty_last (addressed_if_any (is_live_in h) front) f)
  faulty_last_tells f front q named = front_tells front (λ o. faulty_last o f) named (λ none. sym none) (λ d e. e) f q

  first_tells : (f : FrameFault) (front origin : Option (List ℕ)) → frame_at bytes ≡ Err f → (a b c d : Bool)
      → (a ≡ true → (b || c || d) ≡ false) → names_in bytes dialogue
      ≡ is_destined dialogue (cond (b || c || d) front None)
      → Tells (cond a (Reception.dropped DropCause.bad_message)
      (cond b (faulty_last (addressed_if_any (is_live_in h) front) f)
      (cond c (faulty_continue (addressed_if_any (is_live_in h) front) (fault_abort f origin) f)
      (cond d (faulty_last (addressed_if_any (is_live_in h) front) f)
      (aborted_or_dropped (fault_abort f origin))))))
  first_tells f front origin q true b c d apart e =
      let other : (b || c || d) ≡ false = apart refl in
      sym (w.unnamed (e ∙ ap (λ x. is_destined dialogue (cond x front None)) other))
  first_tells f front origin q false true c d apart e = faulty_last_tells f front q e
  first_tells f front origin q false false true d apart e = faulty_continue_tells f front origin q e
  first_tells f front origin q false false false true apart e = faulty_last_tells f front q e
  first_tells f front origin q false false false false apart e = aborted_tells (w.unnamed e) f origin

  apart_from : (first : ℕ) → (first == 0x61) ≡ true → ((first == 0x64) || (first == 0x65) || (first == 0x67)) ≡ false
  apart_from first e =
      let is : first ≡ 0x61 = grind (arith, nat_tests) in
      ap (λ (k : ℕ). (k == 0x64) || (k == 0x65) || (k == 0x67)) is

  faulty_tells : (f : FrameFault) (bs : List ℕ) → bs ≡ bytes → nat_lt message_limit (length bytes) ≡ false
      → frame_at bytes ≡ Err f → Tells (faulty (is_live_in h) bs f)
  faulty_tells f [] same short q =
      sym (w.unnamed (named_is short (Err f) q ∙ ap (λ bs. is_destined dialogue (destination_by bs (Err f)))
      (sym same)))
  faulty_tells f (first ∷ rest) same short q =
      first_tells f (front_at (first ∷ rest)).1 (front_at (first ∷ rest)).0 q (first == 0x61) (first == 0x64)
      (first == 0x65) (first == 0x67) (apart_from first)
      (named_is short (Err f) q ∙ ap (λ bs. is_destined dialogue (destination_by bs (Err f))) (sym same))

  -- ---- all bytes

  read_tells : nat_lt message_limit (length bytes) ≡ false → (is_full : Bool) (r : Result Message FrameFault)
      → frame_at bytes ≡ r → Tells (reading_by (is_live_in h) is_full bytes r)
  read_tells short is_full (Ok m) q = message_tells short is_full m q
  read_tells short is_full (Err f) q = faulty_tells f bytes refl short q

  pub reception_tells : (is_full : Bool) →
      told n place (reception_outputs h from (reception (is_live_in h) is_full bytes))
      ≡ wanted
  reception_tells is_full = go (nat_lt message_limit (length bytes)) refl
    where
      go : (b : Bool) → nat_lt message_limit (length bytes) ≡ b
          → Tells (cond b (Reception.dropped DropCause.too_long)
          (reading_by (is_live_in h) is_full bytes (frame_at bytes)))
      go true q =
          let without : nat_le (length bytes) message_limit ≡ false = grind (arith, nat_tests) in
          sym (w.unnamed (ap (λ b. named_within b dialogue bytes) without))
      go false q = read_tells q is_full (frame_at bytes) refl
