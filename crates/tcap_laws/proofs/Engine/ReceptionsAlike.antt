-- What becomes of received bytes depends on which dialogues are live, and not on how that is found.
use Rattle.std.proofs.Common.{◌≡◌, ℕ, Bool, cond, nat_lt, List, [], ◌∷◌, length, Option, Some, None, Result, Ok, Err}
use Rattle.std.proofs.Common.{refl, ap}
use Rattle.tcap_model.specs.Procedures.Reception.{addressed_if_any, continue_by, final_message_by, message_by}
use Rattle.tcap_model.specs.Procedures.Reception.{fault_abort}
use Rattle.tcap_model.specs.Procedures.Reception.{fault_by, faulty, live_named, reading_by, reception, Reception}
use Rattle.tcap_model.specs.Words.LocalId.{dialogue_named}
use Rattle.tcap_model.specs.Words.Output.{DropCause}
use Rattle.tcap_pdu.specs.declared.fault.FrameFault.{FrameFault}
use Rattle.tcap_pdu.specs.FrameReading.{frame_at}
use Rattle.tcap_pdu.specs.FrameSpelling.{Message}
use Rattle.tcap_pdu.specs.FrameWritten.{message_limit}
use Rattle.tcap_pdu.specs.Front.{front_at}

module _ (f g : ℕ → Bool) (same : (d : ℕ) → f d ≡ g d) where
  named_alike : (named : Option ℕ) → live_named f named ≡ live_named g named
  named_alike None = refl
  named_alike (Some d) = ap (λ b. cond b (Some d) None) (same d)

  addressed_alike : (to : Option (List ℕ)) → addressed_if_any f to ≡ addressed_if_any g to
  addressed_alike None = refl
  addressed_alike (Some octets) = named_alike (dialogue_named octets)

  message_alike : (full : Bool) (m : Message) → message_by f full m ≡ message_by g full m
  message_alike full (Message.unidirectional portion components) = refl
  message_alike full (Message.begin origin portion components) = refl
  message_alike full (Message.go_on origin to portion components) =
      ap (λ d. continue_by d origin (Message.go_on origin to portion components)) (addressed_alike (Some to))
  message_alike full (Message.end to portion components) =
      ap (λ d. final_message_by d (Message.end to portion components)) (addressed_alike (Some to))
  message_alike full (Message.abort to reason) =
      ap (λ d. final_message_by d (Message.abort to reason)) (addressed_alike (Some to))

  faulty_alike : (bytes : List ℕ) (fault : FrameFault) → faulty f bytes fault ≡ faulty g bytes fault
  faulty_alike [] fault = refl
  faulty_alike (first ∷ bytes) fault =
      ap (λ d. fault_by first d (fault_abort fault (front_at (first ∷ bytes)).0) fault)
      (addressed_alike (front_at (first ∷ bytes)).1)

  reading_alike : (full : Bool) (bytes : List ℕ) (read : Result Message FrameFault)
      → reading_by f full bytes read ≡ reading_by g full bytes read
  reading_alike full bytes (Ok m) = message_alike full m
  reading_alike full bytes (Err fault) = faulty_alike bytes fault

  pub reception-alike : (full : Bool) (bytes : List ℕ) → reception f full bytes ≡ reception g full bytes
  reception-alike full bytes =
      ap (λ r. cond (nat_lt message_limit (length bytes)) (Reception.dropped DropCause.too_long) r)
      (reading_alike full bytes (frame_at bytes))
