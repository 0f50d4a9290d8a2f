-- Bytes name the dialogue that the grammar says.
use Rattle.std.proofs.Common.{◌≡◌, ℕ, Bool, true, false, List, length, nat_le, Option, Some, None, Result, Ok, Err}
use Rattle.std.proofs.Common.{refl, sym, ap, subst, ◌∙◌}
use Rattle.std.proofs.lemmas.Bool.{eq-eqb, leb-true, le-leb, true≢false}
use Rattle.std.specs.Prelude.{if◌then◌else◌}
use Rattle.tcap_pdu.specs.declared.fault.FrameFault.{FrameFault}
use Rattle.tcap_pdu.specs.FrameReading.{frame_at}
use Rattle.tcap_pdu.specs.FrameSpelling.{Message}
use Rattle.tcap_pdu.specs.FrameWritten.{message_limit}
use Rattle.tcap_pdu.specs.Front.{Front, front_at}
use Rattle.tcap_pdu.proofs.CallerLemmas.{frame_again, frame_told, frame_takes, frame_fails, front_read, front_again}
use Rattle.tcap_model.specs.Procedures.Destination.{destination, begins_addressed, destination_by}
use Rattle.tcap_model.specs.Words.LocalId.{dialogue_named, is_that}
use Rattle.tcap_model.specs.Histories.Names.{is_destined, named_within}
use Rattle.tcap_model.specs.Statements.NamesDialogue.{IsDestination, NamesDialogue}
use Rattle.tcap_model.specs.Statements.NamesDialogue.IsDestination.{of_message, at_front}
use Rattle.tcap_laws.proofs.Receptions.NamedReceptions.{that-is}
use Rattle.tcap_laws.proofs.Receptions.BytesNames.{names_in}

-- ---- from the grammar

is-destined : (dialogue : ℕ) (to : List ℕ) → dialogue_named to ≡ Some dialogue → is_destined dialogue (Some to) ≡ true
is-destined dialogue to e = ap (is_that dialogue) e ∙ eq-eqb dialogue dialogue refl

destination-read : (bytes to : List ℕ) → IsDestination bytes to → destination_by bytes (frame_at bytes) ≡ Some to
destination-read bytes to (of_message m _ spelled is) = ap (destination_by bytes) (frame_again m bytes spelled) ∙ is
destination-read bytes to (at_front fault origin _ is begins front) =
    ap (destination_by bytes) (frame_told bytes fault is)
    ∙ (ap (λ (b : Bool). if b then (front_at bytes).1 else None) begins
    ∙ ap (λ (p : Option (List ℕ) × Option (List ℕ)). p.1) (front_again bytes origin (Some to) front))

pub named-by_grammar : (dialogue : ℕ) (bytes : List ℕ) → NamesDialogue dialogue bytes →
    names_in bytes dialogue ≡ true
named-by_grammar dialogue bytes it =
    rw (le-leb (length bytes) message_limit it.within)
    (ap (is_destined dialogue) (destination-read bytes it.to it.is_destination)
    ∙ is-destined dialogue it.to it.is_dialogue)

-- ---- and back

abbrev Addressed : ℕ → List ℕ → Type 0
Addressed dialogue bytes = (to : List ℕ) × IsDestination bytes to × (dialogue_named to ≡ Some dialogue)

addressed-by : (dialogue : ℕ) (bytes : List ℕ) (o : Option (List ℕ)) →
    ((to : List ℕ) → o ≡ Some to → IsDestination bytes to) → is_destined dialogue o ≡ true → Addressed dialogue bytes
addressed-by dialogue bytes None is e = absurd (true≢false (sym e))
addressed-by dialogue bytes (Some to) is e = (to, is to refl, that-is dialogue (dialogue_named to) e)

faulty-addressed : (dialogue : ℕ) (bytes : List ℕ) (fault : FrameFault) → frame_at bytes ≡ Err fault → (b : Bool) →
    begins_addressed bytes ≡ b →
    is_destined dialogue (if b then (front_at bytes).1 else None) ≡ true → Addressed dialogue bytes
faulty-addressed dialogue bytes fault e false begins is = absurd (true≢false (sym is))
faulty-addressed dialogue bytes fault e true begins is =
    addressed-by dialogue bytes (front_at bytes).1
    (λ to same. at_front fault (front_at bytes).0 to (frame_fails bytes fault e) begins
    (subst (Front bytes (front_at bytes).0) same (front_read bytes)))
    is

read-addressed : (dialogue : ℕ) (bytes : List ℕ) (read : Result Message FrameFault) → frame_at bytes ≡ read →
    is_destined dialogue (destination_by bytes read) ≡ true → Addressed dialogue bytes
read-addressed dialogue bytes (Ok m) e is =
    addressed-by dialogue bytes (destination m) (λ to same. of_message m to (frame_takes bytes m e) same) is
read-addressed dialogue bytes (Err fault) e is =
    faulty-addressed dialogue bytes fault e (begins_addressed bytes) refl is

pub grammar-by_name : (dialogue : ℕ) (bytes : List ℕ) → names_in bytes dialogue ≡ true →
    NamesDialogue dialogue bytes
grammar-by_name dialogue bytes named = by (nat_le (length bytes) message_limit) refl named
  where
    by : (within : Bool) → nat_le (length bytes) message_limit ≡ within → named_within within dialogue bytes ≡ true →
        NamesDialogue dialogue bytes
    by false short e = absurd (true≢false (sym e))
    by true short e =
        let it = read-addressed dialogue bytes (frame_at bytes) refl e in
        record {
          to = it.0;
          within = leb-true (length bytes) message_limit short;
          is_destination = it.1;
          is_dialogue = it.2;
        }
