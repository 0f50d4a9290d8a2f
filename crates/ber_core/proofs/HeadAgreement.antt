-- From what reading a head gives to what a head is.
use Rattle.std.proofs.Common.{◌≡◌, ℕ, ◌++◌, Bool, List, Option, Some, None, Ok, Err, Result, sym, ap, ◌∙◌, ◌∷◌}
use Rattle.std.specs.Prelude.{IfOk, IfErr, IsOkAnd}
use Rattle.ber_core.specs.declared.fault.BerFault.{BerFault}
use Rattle.ber_core.specs.Tag.{is_constructor}
use Rattle.ber_core.specs.Head.{SaysLength, BeginsWithHead}
use Rattle.ber_core.specs.Fault.{HeadFault}
use Rattle.ber_core.specs.Results.{Gives}
use Rattle.ber_core.specs.HeadReading.{head_at}
use Rattle.ber_core.proofs.ResultSteps.{read_is, not_read}
use Rattle.ber_core.proofs.HeadGrammar.{HeadRead, SpellsLength, head_takes, head_again-definite, head_again-indefinite}
use Rattle.ber_core.proofs.HeadFaults.{head_fails}

says : (tag : List ℕ) (c : Bool) (len : Option ℕ) (octets : List ℕ) → c ≡ is_constructor tag → SpellsLength c len octets → SaysLength tag len octets
says tag c None octets e h = (sym e ∙ h.0, h.1)
says tag c (Some n) octets e h = h

pub begins : (bytes : List ℕ) (h : HeadRead) → head_at bytes ≡ Ok h → BeginsWithHead h.0 h.2 h.3 bytes
begins bytes h e =
    let s = head_takes bytes h e in
    record { octets = s.octets; is_tag = s.is_tag; says = says h.0 h.1 h.2 s.octets s.constructs s.spells; parts = s.parts }

abbrev head : List ℕ → Option ℕ → List ℕ → HeadRead
head tag len rest = (tag, is_constructor tag, len, rest)

pub begins_again : (tag : List ℕ) (len : Option ℕ) (rest bytes : List ℕ) → BeginsWithHead tag len rest bytes → head_at bytes ≡ Ok (head tag len rest)
begins_again tag None rest bytes h =
    let is : bytes ≡ tag ++ (0x80 ∷ rest) = h.parts ∙ ap (λ (o : List ℕ). tag ++ (o ++ rest)) h.says.1 in
    rw is (head_again-indefinite tag rest h.is_tag h.says.0)
begins_again tag (Some n) rest bytes h = rw h.parts (head_again-definite tag h.octets rest n h.is_tag h.says)

module _ {X : Type 0} (view : X → HeadRead) (bytes : List ℕ) where
  pub found : (r : Result X BerFault) → Gives view r (head_at bytes) → IfOk r (λ x. BeginsWithHead (view x).0 (view x).2 (view x).3 bytes)
  found (Ok x) e = begins bytes (view x) e
  found (Err f) e = tt

  pub constructs : (r : Result X BerFault) → Gives view r (head_at bytes) → IfOk r (λ x. (view x).1 ≡ is_constructor (view x).0)
  constructs (Ok x) e = (head_takes bytes (view x) e).constructs
  constructs (Err f) e = tt

  pub only : (r : Result X BerFault) → Gives view r (head_at bytes) → (tag rest : List ℕ) (len : Option ℕ) → BeginsWithHead tag len rest bytes → IsOkAnd r (λ x. ((view x).0 ≡ tag) × ((view x).2 ≡ len) × ((view x).3 ≡ rest))
  only (Ok x) e tag rest len h =
      let same : view x ≡ head tag len rest = read_is (view x) (head tag len rest) (sym e ∙ begins_again tag len rest bytes h) in
      (ap (λ (p : HeadRead). p.0) same, ap (λ (p : HeadRead). p.2) same, ap (λ (p : HeadRead). p.3) same)
  only (Err f) e tag rest len h = absurd (not_read f (head tag len rest) (sym e ∙ begins_again tag len rest bytes h))

  pub fault : (r : Result X BerFault) → Gives view r (head_at bytes) → IfErr r (λ f. HeadFault bytes f)
  fault (Ok x) e = tt
  fault (Err f) e = head_fails bytes f e
