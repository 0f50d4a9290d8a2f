-- What outputs tell of the end of one invocation: nothing of the others.
use Rattle.std.proofs.Common.{◌≡◌, ℕ, ℤ, ◌==◌, false, List, [], ◌∷◌, ◌++◌, Option, Some, None, refl, ap, ◌∙◌}
use Rattle.std.specs.Prelude.{flat_map}
use Rattle.std.proofs.lemmas.Grind.{flat_map-append}
use Rattle.tcap_component.specs.Component.{CodeParts}
use Rattle.tcap_laws.proofs.Receptions.EachOutput.{of-abort}
use Rattle.tcap_laws.proofs.Receptions.HandledComponents.{ComesOf, comes_of}
use Rattle.tcap_model.specs.Procedures.AbortRules.{abort_told, sent_if_any}
use Rattle.tcap_model.specs.Invocations.Closings.{Told, told_by_output}
use Rattle.tcap_model.specs.Procedures.ComponentHandling.{Item, SentInvocation, Handled, handled, invoke_handled, uni_told}
use Rattle.tcap_model.specs.Words.Request.{Request}
use Rattle.tcap_model.specs.Words.Output.{Output}
use Rattle.tcap_model.specs.Histories.Pair.{Past}
use Rattle.tcap_pdu.specs.FrameSpelling.{Message, Reason}
use Rattle.tcap_model.specs.Words.Address.{Address}
use Rattle.tcap_model.specs.Histories.Kept.{kept_address}
use Rattle.tcap_model.specs.Replies.Reply.{request_sent}
use Rattle.tcap_model.specs.Procedures.RequestMessage.{request_address, message_of}
use Rattle.tcap_model.specs.Procedures.Standing.{Standing}

-- what some outputs tell of the number n, at a place
abbrev pub told : ℕ → Past → List Output → List Told
told n place outputs = flat_map (told_by_output n place) outputs

pub told-append : (n : ℕ) (place : Past) (xs ys : List Output)
    → told n place (xs ++ ys) ≡ told n place xs ++ told n place ys
told-append n place xs ys = flat_map-append (told_by_output n place) xs ys

-- whoever is Sent has another number
abbrev pub IsOther : ℕ → Option SentInvocation → Type 0
IsOther n sent = (s : SentInvocation) → sent ≡ Some s → (s.number == n) ≡ false

module _ (n : ℕ) (place : Past) where
  pub invoke_silent : (dialogue : Option ℕ) (sent : Option SentInvocation) (id : ℤ) (linked : Option ℤ)
      (code : CodeParts) (parameter : Option (List ℕ))
      → told_by_output n place (invoke_handled dialogue sent id linked code parameter).told ≡ []
  invoke_silent dialogue sent id None code parameter = refl
  invoke_silent dialogue (Some s) id (Some linked) code parameter = refl
  invoke_silent dialogue None id (Some linked) code parameter = refl

  other : (dialogue : Option ℕ) (sent : Option SentInvocation) (item : Item) (h : Handled)
      → ComesOf dialogue sent item h → IsOther n sent → told_by_output n place h.told ≡ []
  other _ _ _ _ (ComesOf.an_invoke sent id linked code parameter) e = refl
  other _ _ _ _ (ComesOf.not_sent item id problem carries here) e = refl
  other _ _ _ _ (ComesOf.a_result_last sent id body) e = rw (e sent refl) refl
  other _ _ _ _ (ComesOf.a_result_more sent id body) e = refl
  other _ _ _ _ (ComesOf.an_error sent id code parameter) e = rw (e sent refl) refl
  other _ _ _ _ (ComesOf.unexpected sent item id problem carries here) e = rw (e sent refl) refl
  other _ _ _ _ (ComesOf.by_provider sent id problem kind provided) e = rw (e sent refl) refl
  other _ _ _ _ (ComesOf.by_user sent id problem kind provided) e = rw (e sent refl) refl
  other _ _ _ _ (ComesOf.of_none sent named id problem) e = refl
  other _ _ _ _ (ComesOf.of_fault sent f) e = refl

  -- a component tells of whoever is Sent alone
  pub handled_other : (dialogue : Option ℕ) (sent : Option SentInvocation) (item : Item) → IsOther n sent
      → told_by_output n place (handled dialogue sent item).told ≡ []
  handled_other dialogue sent item = other dialogue sent item (handled dialogue sent item) (comes_of dialogue sent item)

  pub uni_silent : (items : List Item) → told n place (uni_told items) ≡ []
  uni_silent [] = refl
  uni_silent (item ∷ items) =
      ap (λ z. z ++ told n place (uni_told items)) (handled_other None None item (λ s e. absurd cc)) ∙ uni_silent items

  -- ---- outputs that are about no invocation

  pub sent_silent : (to : Address) (message : Option Message) → told n place (sent_if_any to message) ≡ []
  sent_silent to None = refl
  sent_silent to (Some m) = refl

  pub asked_silent : (past : Past) (d : Standing) (r : Request) → told n place (request_sent past d r) ≡ []
  asked_silent past d r = sent_silent (request_address (kept_address d.identifier past) r) (message_of d r)

  pub abort_silent : (d : ℕ) (reason : Reason) → told_by_output n place (abort_told d reason) ≡ []
  abort_silent = of-abort (λ output. told_by_output n place output ≡ []) (λ d pdu. refl) (λ d why. refl)
