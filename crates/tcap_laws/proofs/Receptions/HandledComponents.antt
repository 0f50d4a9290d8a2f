-- What comes of one received component: the ten forms that it has, whichever the component is.
use Rattle.std.proofs.Common.{◌≡◌, ℕ, ℤ, true, false, Bool, List, Option, Some, None, Ok, Err, if◌then◌else◌, refl, arith}
use Rattle.tcap_component.specs.Component.{CodeParts, BodyParts}
use Rattle.tcap_component.specs.Component.ComponentParts.{invoke, result_last, error_back, reject_back, result_more}
use Rattle.tcap_component.specs.ComponentFault.{FaultParts}
use Rattle.tcap_component.specs.Problem.{ProblemParts, IsProblem, is_by_provider, unexpected_error, unexpected_result, unrecognized_error, unrecognized_linked_id, unrecognized_result}
use Rattle.tcap_invocation.specs.Class.{reports_success, reports_failure}
use Rattle.tcap_model.specs.Procedures.ComponentHandling.{Item, SentInvocation, Handled, telling, rejecting, closing, closing_unexpected, invoke_handled, last_by, last_handled, more_by, more_handled, error_by, error_handled, remote, reject_by, reject_handled, fault_reject, handled}
use Rattle.tcap_model.specs.Procedures.Problems.{is_of_answer}
use Rattle.tcap_model.specs.Words.Output.{Output, Closing, Rejector, ComponentIndication}

-- the identifier that a component carries, or one that can't be read
abbrev pub identifier_of : Item → Option ℤ
identifier_of (Ok (invoke id linked code parameter)) = Some id
identifier_of (Ok (result_last id body)) = Some id
identifier_of (Ok (error_back id code parameter)) = Some id
identifier_of (Ok (reject_back id problem)) = id
identifier_of (Ok (result_more id body)) = Some id
identifier_of (Err f) = f.id

-- a problem that is told and sent here
pub record IsFormedHere (problem : ProblemParts) : Type 0 where
  pub is_problem : IsProblem problem
  pub is_provided : is_by_provider problem ≡ true

-- what comes of a component of a dialogue, where this invocation is Sent
pub data ComesOf (dialogue : Option ℕ) : Option SentInvocation → Item → Handled → Type 0 where
  an_invoke : (sent : Option SentInvocation) (id : ℤ) (linked : Option ℤ) (code : CodeParts)
      (parameter : Option (List ℕ))
      → ComesOf dialogue sent (Ok (invoke id linked code parameter))
      (telling (Output.component (ComponentIndication.invoked dialogue id linked code parameter)))
  not_sent : (item : Item) (id : ℤ) (problem : ProblemParts) → identifier_of item ≡ Some id → IsFormedHere problem
      → ComesOf dialogue None item (rejecting dialogue (Some id) problem)
  a_result_last : (sent : SentInvocation) (id : ℤ) (body : Option BodyParts)
      → ComesOf dialogue (Some sent) (Ok (result_last id body)) (closing sent id (Closing.result_last body))
  a_result_more : (sent : SentInvocation) (id : ℤ) (body : Option BodyParts)
      → ComesOf dialogue (Some sent) (Ok (result_more id body))
      (telling (Output.component (ComponentIndication.result_more sent.dialogue sent.number id body)))
  an_error : (sent : SentInvocation) (id : ℤ) (code : CodeParts) (parameter : Option (List ℕ))
      → ComesOf dialogue (Some sent) (Ok (error_back id code parameter))
      (closing sent id (Closing.error_back code parameter))
  unexpected : (sent : SentInvocation) (item : Item) (id : ℤ) (problem : ProblemParts)
      → identifier_of item ≡ Some id → IsFormedHere problem
      → ComesOf dialogue (Some sent) item (closing_unexpected sent id problem)
  by_provider : (sent : SentInvocation) (id : ℤ) (problem : ProblemParts)
      → is_of_answer problem.kind ≡ false → is_by_provider problem ≡ true
      → ComesOf dialogue (Some sent) (Ok (reject_back (Some id) problem))
      (closing sent id (Closing.rejected problem Rejector.remote_provider))
  by_user : (sent : SentInvocation) (id : ℤ) (problem : ProblemParts)
      → is_of_answer problem.kind ≡ false → is_by_provider problem ≡ false
      → ComesOf dialogue (Some sent) (Ok (reject_back (Some id) problem))
      (closing sent id (Closing.rejected problem Rejector.remote_user))
  of_none : (sent : Option SentInvocation) (named : Option ℕ) (id : Option ℤ) (problem : ProblemParts)
      → ComesOf dialogue sent (Ok (reject_back id problem)) (remote named id problem)
  of_fault : (sent : Option SentInvocation) (f : FaultParts)
      → ComesOf dialogue sent (Err f) (record {
        told = Output.component (ComponentIndication.local_reject dialogue f.id f.problem);
        reject = fault_reject f;
      })

unlinked-here : IsFormedHere unrecognized_linked_id
unlinked-here = record { is_problem = omega arith; is_provided = refl }

no_result-here : IsFormedHere unrecognized_result
no_result-here = record { is_problem = omega arith; is_provided = refl }

result-here : IsFormedHere unexpected_result
result-here = record { is_problem = omega arith; is_provided = refl }

no_error-here : IsFormedHere unrecognized_error
no_error-here = record { is_problem = omega arith; is_provided = refl }

error-here : IsFormedHere unexpected_error
error-here = record { is_problem = omega arith; is_provided = refl }

abbrev rejector_by : Bool → Rejector
rejector_by provided = if provided then Rejector.remote_provider else Rejector.remote_user

module _ (dialogue : Option ℕ) where
  of-invoke : (sent : Option SentInvocation) (id : ℤ) (linked : Option ℤ) (code : CodeParts)
      (parameter : Option (List ℕ))
      → ComesOf dialogue sent (Ok (invoke id linked code parameter))
      (invoke_handled dialogue sent id linked code parameter)
  of-invoke sent id None code parameter = ComesOf.an_invoke sent id None code parameter
  of-invoke (Some sent) id (Some linked) code parameter = ComesOf.an_invoke (Some sent) id (Some linked) code parameter
  of-invoke None id (Some linked) code parameter =
      ComesOf.not_sent (Ok (invoke id (Some linked) code parameter)) id unrecognized_linked_id refl unlinked-here

  of-last : (sent : Option SentInvocation) (id : ℤ) (body : Option BodyParts)
      → ComesOf dialogue sent (Ok (result_last id body)) (last_handled dialogue sent id body)
  of-last None id body = ComesOf.not_sent (Ok (result_last id body)) id unrecognized_result refl no_result-here
  of-last (Some sent) id body = go (reports_success sent.class)
    where
      go : (good : Bool) → ComesOf dialogue (Some sent) (Ok (result_last id body)) (last_by sent id body good)
      go true = ComesOf.a_result_last sent id body
      go false = ComesOf.unexpected sent (Ok (result_last id body)) id unexpected_result refl result-here

  of-more : (sent : Option SentInvocation) (id : ℤ) (body : Option BodyParts)
      → ComesOf dialogue sent (Ok (result_more id body)) (more_handled dialogue sent id body)
  of-more None id body = ComesOf.not_sent (Ok (result_more id body)) id unrecognized_result refl no_result-here
  of-more (Some sent) id body = go (reports_success sent.class)
    where
      go : (good : Bool) → ComesOf dialogue (Some sent) (Ok (result_more id body)) (more_by sent id body good)
      go true = ComesOf.a_result_more sent id body
      go false = ComesOf.unexpected sent (Ok (result_more id body)) id unexpected_result refl result-here

  of-error : (sent : Option SentInvocation) (id : ℤ) (code : CodeParts) (parameter : Option (List ℕ))
      → ComesOf dialogue sent (Ok (error_back id code parameter)) (error_handled dialogue sent id code parameter)
  of-error None id code parameter =
      ComesOf.not_sent (Ok (error_back id code parameter)) id unrecognized_error refl no_error-here
  of-error (Some sent) id code parameter = go (reports_failure sent.class)
    where
      go : (good : Bool)
          → ComesOf dialogue (Some sent) (Ok (error_back id code parameter)) (error_by sent id code parameter good)
      go true = ComesOf.an_error sent id code parameter
      go false = ComesOf.unexpected sent (Ok (error_back id code parameter)) id unexpected_error refl error-here

  of-reject : (sent : Option SentInvocation) (id : Option ℤ) (problem : ProblemParts)
      → ComesOf dialogue sent (Ok (reject_back id problem)) (reject_handled dialogue sent id problem)
  of-reject sent None problem = ComesOf.of_none sent dialogue None problem
  of-reject None (Some id) problem = ComesOf.of_none None dialogue (Some id) problem
  of-reject (Some sent) (Some id) problem = go (is_of_answer problem.kind) refl
    where
      whose : is_of_answer problem.kind ≡ false → (provided : Bool) → is_by_provider problem ≡ provided
          → ComesOf dialogue (Some sent) (Ok (reject_back (Some id) problem))
          (closing sent id (Closing.rejected problem (rejector_by provided)))
      whose of true e = ComesOf.by_provider sent id problem of e
      whose of false e = ComesOf.by_user sent id problem of e

      go : (of : Bool) → is_of_answer problem.kind ≡ of
          → ComesOf dialogue (Some sent) (Ok (reject_back (Some id) problem)) (reject_by sent id problem of)
      go true e = ComesOf.of_none (Some sent) (Some sent.dialogue) (Some id) problem
      go false e = whose e (is_by_provider problem) refl

  pub comes_of : (sent : Option SentInvocation) (item : Item) → ComesOf dialogue sent item (handled dialogue sent item)
  comes_of sent (Ok (invoke id linked code parameter)) = of-invoke sent id linked code parameter
  comes_of sent (Ok (result_last id body)) = of-last sent id body
  comes_of sent (Ok (error_back id code parameter)) = of-error sent id code parameter
  comes_of sent (Ok (reject_back id problem)) = of-reject sent id problem
  comes_of sent (Ok (result_more id body)) = of-more sent id body
  comes_of sent (Err f) = ComesOf.of_fault sent f
