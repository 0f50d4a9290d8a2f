-- Each dialogue portion and each component portion with a fault has a place.
use Rattle.std.proofs.Common.{◌≡◌, ℕ, true, false, List, length, Option, Some, None, option_map, Ok, refl, sym, ap, ◌∙◌, inl, inr}
use Rattle.std.specs.Prelude.{is_err}
use Rattle.std.specs.List.{position_from}
use Rattle.std.proofs.lemmas.Bool.{cases_Bool}
use Rattle.ber_core.proofs.CallerLemmas.{by_option}
use Rattle.tcap_pdu.specs.FrameSpelling.{Reason, Message}
use Rattle.tcap_pdu.specs.FrameSpelling.Reason.{nothing, cause, portion}
use Rattle.tcap_pdu.specs.FrameSpelling.Message.{unidirectional, begin, end, go_on, abort}
use Rattle.tcap_pdu.specs.FrameLength.{dialogue_of, reason_dialogue}
use Rattle.tcap_pdu.specs.FramePortions.{components_in}
use Rattle.tcap_pdu.specs.DialogueReading.{dialogue_at}
use Rattle.tcap_pdu.proofs.CallerLemmas.{dialogue_again}
use Rattle.tcap_component.specs.ComponentReading.{components_of}
use Rattle.tcap_words.specs.declared.verdict.Verdict.{Verdict}
use Rattle.tcap_words.specs.declared.verdict.Verdict.TheVariants.{TooLong, UnknownType, BadlyFormatted, Incorrect, Dialogue, Component, Good}
use Rattle.tcap_words.specs.Verdict.{is_known, is_read, is_good_portion, is_good_reason, verdict_by_place, portions_verdict, message_verdict, verdict_of, is_good}
use Rattle.tcap_explain.specs.declared.line.Line.{Line}
use Rattle.tcap_explain.specs.declared.line.Line.TheVariants as line
use Rattle.tcap_explain.specs.declared.line.PortionLine.TheVariants as external
use Rattle.tcap_explain.specs.declared.line.Explained.{Explained}
use Rattle.tcap_explain.specs.Explaining.{external_line, portion_place, explained_by, explained_at}
use Rattle.tcap_explain.specs.FaultAt.{FaultAt}
use Rattle.tcap_explain.specs.Unmet.{Stands}
use Rattle.tcap_explain.specs.Walk.{further, walk}
use Rattle.tcap_explain.proofs.ComponentStands.{no_fault}
use Rattle.tcap_explain.proofs.FaultAtLemmas.{component_line, faulty-is, explained-is, explained-told}
use Rattle.tcap_explain.proofs.FaultThere.{IsExplained, unknown-there, format-there, incorrect-there}
use Rattle.tcap_explain.proofs.PortionStands.{external-stands, abort-external-stands}
use Rattle.tcap_explain.proofs.UnmetLemmas.{walk-stands}
use Rattle.tcap_explain.proofs.VerdictLemmas.{says-portions, faulty-component, message-component}
use Rattle.tcap_explain.proofs.WalkLemmas.{some}

-- ---- the dialogue portion

abbrev FaultyPortion : Line → Option (List ℕ) → Type 0
FaultyPortion l o = (d : List ℕ) × (o ≡ Some d) × (Stands l d → ⊥)

no_dialogue : (o : Option ℕ) → verdict_by_place o ≡ Dialogue → ⊥
no_dialogue None e = let no : Good ≡ Dialogue = e in absurd cc
no_dialogue (Some n) e = let no : Component _ ≡ Dialogue = e in absurd cc

known-stands : (d : List ℕ) → is_known (dialogue_at d) ≡ false → Stands (line.Portion external.External) d → ⊥
known-stands d e s =
    let p = external-stands d s in
    let read = dialogue_again d p.0 p.2 in
    let e = e in
    let bad : is_known (Ok p.0) ≡ false = rw read at e in
    let no : true ≡ false = sym p.1 ∙ bad in
    absurd cc

read-stands : (d : List ℕ) → is_read (dialogue_at d) ≡ false → Stands (line.Portion external.AbortExternal) d → ⊥
read-stands d e s =
    let p = abort-external-stands d s in
    let read = dialogue_again d p.0 p.1 in
    let e = e in
    let bad : true ≡ false = rw read at e in
    absurd cc

portion-from : (d : Option (List ℕ)) → is_good_portion d ≡ false → FaultyPortion (line.Portion external.External) d
portion-from None e = absurd cc
portion-from (Some d) e = (d, refl, known-stands d e)

portions-dialogue : (d : Option (List ℕ)) (c : List ℕ) → portions_verdict d c ≡ Dialogue → FaultyPortion (line.Portion external.External) d
portions-dialogue d c e = elim (cases_Bool (is_good_portion d)) [
  | inl y ↦ let e = e in let no : verdict_by_place (position_from is_err 0 (components_of c)) ≡ Dialogue = rw y at e in absurd (no_dialogue (position_from is_err 0 (components_of c)) no)
  | inr n ↦ portion-from d n
]

reason-from : (r : Reason) → is_good_reason r ≡ false → FaultyPortion (line.Portion external.AbortExternal) (reason_dialogue r)
reason-from nothing e = absurd cc
reason-from (cause n) e = absurd cc
reason-from (portion d) e = (d, refl, read-stands d e)

abort-dialogue : (t : List ℕ) (r : Reason) → message_verdict (abort t r) ≡ Dialogue → FaultyPortion (line.Portion external.AbortExternal) (reason_dialogue r)
abort-dialogue t r e = elim (cases_Bool (is_good_reason r)) [
  | inl y ↦ let e = e in let no : Good ≡ Dialogue = rw y at e in absurd cc
  | inr n ↦ reason-from r n
]

message-dialogue : (m : Message) → message_verdict m ≡ Dialogue → FaultyPortion (external_line m) (dialogue_of m)
message-dialogue (unidirectional d c) e = portions-dialogue d c e
message-dialogue (begin o d c) e = portions-dialogue d c e
message-dialogue (end t d c) e = portions-dialogue d c e
message-dialogue (go_on o t d c) e = portions-dialogue d c e
message-dialogue (abort t r) e = abort-dialogue t r e

abbrev IsFound : Option Explained → Type 0
IsFound o = (x : Explained) × (o ≡ Some x)

walked : (l : Line) (d : List ℕ) → (Stands l d → ⊥) → IsFound (walk l d)
walked l d never = elim (by_option (walk l d)) [
  | inl n ↦ absurd (never (walk-stands l d n))
  | inr x ↦ x
]

dialogue-there : (bytes : List ℕ) → verdict_of bytes ≡ Dialogue → IsExplained Dialogue bytes
dialogue-there bytes v =
    let m = says-portions bytes Dialogue v tt in
    let d = message-dialogue m.0 m.2 in
    let x = walked (external_line m.0) d.0 d.2 in
    (further (portion_place 0x6b m.0 bytes) x.0, rw m.1 (rw d.1 (rw x.1 refl)))

-- ---- the component portion

component-there : (number : ℕ) (bytes : List ℕ) → verdict_of bytes ≡ Component number → IsExplained (Component number) bytes
component-there number bytes v =
    let m = says-portions bytes (Component number) v tt in
    let c = faulty-component number (components_in m.0) (message-component m.0 number m.2) in
    let x = walked component_line c.2.rest (λ s. no_fault c.2.rest c.1 c.2.ends.1 s) in
    let place = portion_place 0x6c m.0 bytes in
    let found = further (length c.2.front) x.0 in
    let is : option_map (further place) (option_map (further (length c.2.front)) (walk component_line c.2.rest)) ≡ some (further place found) = rw x.1 refl in
    (further place found, rw m.1 (ap (option_map (further place)) (faulty-is c.0 c.1 (components_in m.0) c.2) ∙ is))

-- ---- every verdict

there_by : (v : Verdict) (bytes : List ℕ) → verdict_of bytes ≡ v → is_good v ≡ false → IsExplained v bytes
there_by TooLong bytes v g = (_, refl)
there_by UnknownType bytes v g = unknown-there bytes v
there_by BadlyFormatted bytes v g = format-there bytes v
there_by Incorrect bytes v g = incorrect-there bytes v
there_by Dialogue bytes v g = dialogue-there bytes v
there_by (Component n) bytes v g = component-there n bytes v
there_by Good bytes v g = absurd cc

pub there : (bytes : List ℕ) → is_good (verdict_of bytes) ≡ false → IsFound (explained_at bytes)
unfolding explained_at
there bytes g = there_by (verdict_of bytes) bytes refl g

pub fault_there : (bytes : List ℕ) → is_good (verdict_of bytes) ≡ false → (x : Explained) × FaultAt bytes x
fault_there bytes g = let x = there bytes g in (x.0, explained-is bytes x.0 x.1)

none_by : (v : Verdict) (bytes : List ℕ) → is_good v ≡ true → explained_by v bytes ≡ None
none_by TooLong bytes g = absurd cc
none_by UnknownType bytes g = absurd cc
none_by BadlyFormatted bytes g = absurd cc
none_by Incorrect bytes g = absurd cc
none_by Dialogue bytes g = absurd cc
none_by (Component n) bytes g = absurd cc
none_by Good bytes g = refl

pub good_none : (bytes : List ℕ) → is_good (verdict_of bytes) ≡ true → explained_at bytes ≡ None
unfolding explained_at
good_none bytes g = none_by (verdict_of bytes) bytes g

pub none_good : (bytes : List ℕ) → explained_at bytes ≡ None → is_good (verdict_of bytes) ≡ true
none_good bytes n = elim (cases_Bool (is_good (verdict_of bytes))) [
  | inl y ↦ y
  | inr bad ↦ let n = n in let x = there bytes bad in let no : None ≡ some x.0 = sym n ∙ x.1 in absurd cc
]

pub good_no_fault : (bytes : List ℕ) (x : Explained) → is_good (verdict_of bytes) ≡ true → FaultAt bytes x → ⊥
good_no_fault bytes x g h = let no : None ≡ some x = sym (good_none bytes g) ∙ explained-told bytes x h in absurd cc
