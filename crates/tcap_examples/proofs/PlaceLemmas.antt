-- What holds at every place of a list holds at each that stands in it.
use Rattle.std.proofs.Common.{◌≡◌, ℕ, Bool, false, true, List, [], ◌∷◌, ◌++◌, Some, None, refl, ap, subst, sym, ◌∙◌, inl, inr}
use Rattle.std.specs.List.{AllByRecursion, list_any}
use Rattle.std.proofs.lemmas.Bool.{cases_Bool, false≢true}
use Rattle.ber_core.proofs.CallerLemmas.{not_some, some_is}
use Rattle.tcap_model.specs.Words.Answer.{Answer}
use Rattle.tcap_model.specs.Invocations.Invocation.{Invocation, invocation_of}
use Rattle.tcap_model.specs.Statements.Net.{Engine, Marked, Trace}
use Rattle.tcap_model.specs.Invocations.Outcome.{was_sent_in}
use Rattle.tcap_model.specs.Words.Output.{Output}
use Rattle.tcap_model.specs.Histories.Pair.{Pair, Past}
use Rattle.tcap_model.specs.Statements.Places.{StandsIn, Tells}
use Rattle.tcap_model.specs.Invocations.Span.{span}
use Rattle.tcap_model.specs.Statements.TwoEnds.{WasSent}
use Rattle.tcap_model.specs.Statements.FarAnswer.{Happens}

-- A fact of each entry and of what stands before it.
abbrev pub Everywhere : {X : Type 0} → (X → List X → Type 0) → List X → Type 0
Everywhere P [] = Unit {0}
Everywhere P (x ∷ xs) = P x xs × Everywhere P xs

there : {X : Type 0} (P : X → List X → Type 0) (xs later : List X) (x : X) (before : List X) → xs ≡ later ++ x ∷ before
    → Everywhere P xs → P x before
there P xs [] x before is all = (subst (Everywhere P) is all).0
there P xs (y ∷ later) x before is all =
    there P (later ++ x ∷ before) later x before refl ((subst (Everywhere P) is all).1)

-- At each pair that stands in a history.
pub at_place : (P : Pair → Past → Type 0) (past : Past) → Everywhere P past → (pair : Pair) (before : Past)
    → StandsIn pair before past → P pair before
at_place P past all pair before stands = there P past stands.later pair before stands.is_past all

-- At each pair that happens at one of two engines.
pub at_happening : (P : Marked → Trace → Type 0) (trace : Trace) → Everywhere P trace
    → (engine : Engine) (pair : Pair) (before : Trace) → Happens engine pair before trace
    → P (record { engine = engine; pair = pair }) before
at_happening P trace all engine pair before happens =
    there P trace happens.later (record { engine = engine; pair = pair }) before happens.is_trace all

-- An invocation that wasn't made wasn't sent.
pub not_sent : (number : ℕ) (past : Past) → invocation_of number past ≡ None → WasSent number past → ⊥
not_sent number past none sent = not_some sent.invocation (sym none ∙ sent.is_invocation)

-- One that was closed before its Invoke could go out wasn't sent.
pub never_sent : (number : ℕ) (past : Past) (i : Invocation) → invocation_of number past ≡ Some i
    → was_sent_in i.class i.timeout (span i past) ≡ false → WasSent number past → ⊥
never_sent number past i is never sent =
    let same : i ≡ sent.invocation = some_is i sent.invocation (sym is ∙ sent.is_invocation) in
    false≢true (sym never ∙ (ap (λ (j : Invocation). was_sent_in j.class j.timeout (span j past)) same ∙ sent.is_sent))

-- ---- outputs

-- The outputs of an answer.
abbrev pub outputs_of : Answer → List Output
outputs_of (Answer.new_dialogue dialogue) = []
outputs_of (Answer.number n) = []
outputs_of Answer.done = []
outputs_of (Answer.given_up n) = []
outputs_of (Answer.outputs outputs) = outputs
outputs_of (Answer.refused fault) = []

pub any_there : {X : Type 0} (test : X → Bool) (earlier later : List X) (x : X) → test x ≡ true
    → list_any test (earlier ++ x ∷ later) ≡ true
any_there test [] later x passes = rw passes refl
any_there test (y ∷ earlier) later x passes =
    elim (cases_Bool (test y)) [
      | inl first ↦ rw first refl
      | inr other ↦ rw (other, any_there test earlier later x passes) refl
    ]

-- An output that an answer tells is one of its outputs.
pub told_any : (test : Output → Bool) (answer : Answer) (output : Output) → Tells answer output → test output ≡ true
    → list_any test (outputs_of answer) ≡ true
told_any test answer output tells passes =
    ap (λ (a : Answer). list_any test (outputs_of a)) tells.is_answer
    ∙ any_there test tells.earlier tells.later output passes

all_there : (P : Output → Type 0) (earlier later : List Output) (output : Output)
    → AllByRecursion P (earlier ++ output ∷ later) → P output
all_there P [] later output all = all.0
all_there P (first ∷ earlier) later output all = all_there P earlier later output all.1

-- What holds of each output of an answer holds of one that it tells.
pub told_there : (P : Output → Type 0) (answer : Answer) (output : Output) → Tells answer output
    → AllByRecursion P (outputs_of answer) → P output
told_there P answer output tells all =
    all_there P tells.earlier tells.later output
    (subst (λ (a : Answer). AllByRecursion P (outputs_of a)) tells.is_answer all)
