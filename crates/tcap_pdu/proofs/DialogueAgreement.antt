-- From what reading gives to what a dialogue portion spells.
use Rattle.std.proofs.Common.{◌≡◌, ℕ, List, Option, Some, None, Ok, Err, Result, ok_or, refl, sym, ap, ◌∙◌}
use Rattle.std.specs.Prelude.{IfOk, IfErr, IsOkAnd}
use Rattle.ber_core.specs.Results.{Gives}
use Rattle.ber_core.proofs.CallerLemmas.{some_is, read, read_is, not_read}
use Rattle.tcap_pdu.specs.declared.fault.DialogueFault.{DialogueFault}
use Rattle.tcap_pdu.specs.declared.fault.DialogueFault.TheVariants.{Faulty}
use Rattle.tcap_pdu.specs.DialogueSpelling.{PduValue, SpellsDialogue}
use Rattle.tcap_pdu.specs.DialogueReading.{pdu_at, dialogue_at}
use Rattle.tcap_pdu.proofs.DialogueParts.{some}
use Rattle.tcap_pdu.proofs.PortionGrammar.{pdu_takes, pdu_again}

was_some : (o : Option PduValue) (p : PduValue) → ok_or o Faulty ≡ read p → o ≡ Some p
was_some None p e = absurd (not_read Faulty p e)
was_some (Some q) p e = ap some (read_is q p e)

pub dialogue_takes : (bytes : List ℕ) (p : PduValue) → dialogue_at bytes ≡ Ok p → SpellsDialogue p bytes
unfolding dialogue_at
dialogue_takes bytes p e = pdu_takes bytes p (was_some (pdu_at bytes) p e)

pub dialogue_again : (bytes : List ℕ) (p : PduValue) → SpellsDialogue p bytes → dialogue_at bytes ≡ Ok p
unfolding dialogue_at
dialogue_again bytes p s = rw (pdu_again p bytes s) refl

pub one_dialogue : (p q : PduValue) (bytes : List ℕ) → SpellsDialogue p bytes → SpellsDialogue q bytes → p ≡ q
one_dialogue p q bytes s t = some_is p q (sym (pdu_again p bytes s) ∙ pdu_again q bytes t)

pub found : {X : Type 0} (view : X → PduValue) (bytes : List ℕ) (r : Result X DialogueFault) → Gives view r (dialogue_at bytes) → IfOk r (λ x. SpellsDialogue (view x) bytes)
found view bytes (Ok x) e = dialogue_takes bytes (view x) e
found view bytes (Err f) e = tt

pub only : {X : Type 0} (view : X → PduValue) (bytes : List ℕ) (r : Result X DialogueFault) → Gives view r (dialogue_at bytes) → (p : PduValue) → SpellsDialogue p bytes → IsOkAnd r (λ x. view x ≡ p)
only view bytes (Ok x) e p s = read_is {E = DialogueFault} (view x) p (sym e ∙ dialogue_again bytes p s)
only view bytes (Err f) e p s = absurd (not_read f p (sym e ∙ dialogue_again bytes p s))

pub fault : {X : Type 0} (view : X → PduValue) (bytes : List ℕ) (r : Result X DialogueFault) → Gives view r (dialogue_at bytes) → IfErr r (λ f. (p : PduValue) → SpellsDialogue p bytes → ⊥)
fault view bytes (Ok x) e = tt
fault view bytes (Err f) e = λ p s. not_read f p (sym e ∙ dialogue_again bytes p s)
