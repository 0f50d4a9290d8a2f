-- What is submitted, beside what waits in a queue.
use Rattle.std.proofs.Common.{◌≡◌, ℕ, ◌+◌, ◌==◌, Bool, true, false, cond, not, nat_le, List, [], ◌∷◌, ◌++◌, length, map, filter, Option, Some, None, refl, sym, ap, subst, ◌∙◌, inl, inr, append_assoc, append-nil, length-append, arith}
use Rattle.std.specs.List.{AllByRecursion, list_any}
use Rattle.std.proofs.lemmas.Bool.{cases_Bool, true≢false}
use Rattle.std.proofs.lemmas.List.Elements.{filter-append}
use Rattle.tcap_component.specs.Component.{ComponentParts, InRange, SpellsComponent}
use Rattle.tcap_component.specs.ComponentList.{SpellsComponents}
use Rattle.tcap_component.specs.Written.{written_component, CanWriteComponent}
use Rattle.tcap_component.proofs.CallerLemmas.{component_spelled}
use Rattle.tcap_model.specs.Procedures.QueueRules.{Invoking, Queued, queue_limit, queued, joined, fits, queue_each, without_invoke}
use Rattle.tcap_model.specs.Statements.Submitted.{Submitted, is_given_up, without_given_up, fitting, submitted_reject, octet_count}

-- ---- what waits was submitted

-- the number of the invocation of an Invoke that waits
abbrev pub number_waiting : Option Invoking → Option ℕ
number_waiting None = None
number_waiting (Some invoking) = Some invoking.number

-- what waits is the octets of what was submitted, which can be read back
pub record IsWrittenAs (s : Submitted) (q : Queued) : Type 0 where
  pub is_octets : q.octets ≡ written_component s.component
  pub is_number : number_waiting q.invoking ≡ s.number
  pub in_range : InRange s.component
  pub can : CanWriteComponent s.component

abbrev pub AreWritten : List Submitted → List Queued → Type 0
AreWritten [] [] = Unit {0}
AreWritten [] (q ∷ qs) = ⊥
AreWritten (s ∷ ss) [] = ⊥
AreWritten (s ∷ ss) (q ∷ qs) = IsWrittenAs s q × AreWritten ss qs

pub written-append : (ss ts : List Submitted) (qs rs : List Queued) → AreWritten ss qs → AreWritten ts rs →
    AreWritten (ss ++ ts) (qs ++ rs)
written-append [] ts [] rs are others = others
written-append [] ts (q ∷ qs) rs are others = absurd are
written-append (s ∷ ss) ts [] rs are others = absurd are
written-append (s ∷ ss) ts (q ∷ qs) rs are others = (are.0, written-append ss ts qs rs are.1 others)

-- ---- without the Invokes that were given up

-- what waits, without the Invokes of the invocations with these numbers
abbrev pub left_submitted : List ℕ → List Queued → List Queued
left_submitted given waits = filter (λ (q : Queued). not (is_given_up given (number_waiting q.invoking))) waits

pub left-append : (given : List ℕ) (qs rs : List Queued)
    → left_submitted given (qs ++ rs) ≡ left_submitted given qs ++ left_submitted given rs
left-append given qs rs = filter-append (λ (q : Queued). not (is_given_up given (number_waiting q.invoking))) qs rs

kept-alike : (s : Submitted) (q : Queued) (ss : List Submitted) (qs : List Queued) (a b : Bool) → b ≡ a →
    IsWrittenAs s q → AreWritten ss qs → AreWritten (cond a (s ∷ ss) ss) (cond b (q ∷ qs) qs)
kept-alike s q ss qs true true same is are = (is, are)
kept-alike s q ss qs true false same is are = absurd (true≢false (sym same))
kept-alike s q ss qs false true same is are = absurd (true≢false same)
kept-alike s q ss qs false false same is are = are

pub written-without : (given : List ℕ) (ss : List Submitted) (qs : List Queued) → AreWritten ss qs →
    AreWritten (without_given_up given ss) (left_submitted given qs)
written-without given [] [] are = tt
written-without given [] (q ∷ qs) are = absurd are
written-without given (s ∷ ss) [] are = absurd are
written-without given (s ∷ ss) (q ∷ qs) are =
    let first : IsWrittenAs s q = are.0 in
    let mine : Bool = not (is_given_up given s.number) in
    let its : Bool = not (is_given_up given (number_waiting q.invoking)) in
    kept-alike s q (without_given_up given ss) (left_submitted given qs) mine its
    (ap (λ (n : Option ℕ). not (is_given_up given n)) first.is_number) first (written-without given ss qs are.1)

none-given : (n : Option ℕ) → is_given_up [] n ≡ false
none-given None = refl
none-given (Some n) = refl

pub left-all : (qs : List Queued) → left_submitted [] qs ≡ qs
left-all [] = refl
left-all (q ∷ qs) =
    ap (λ (b : Bool). cond (not b) (q ∷ left_submitted [] qs) (left_submitted [] qs))
    (none-given (number_waiting q.invoking))
    ∙ ap (λ (l : List Queued). q ∷ l) (left-all qs)

module _ (n : ℕ) (given : List ℕ) where
  invoke-cancelled : (octets : List ℕ) (invoking : Option Invoking) (qs : List Queued) →
      left_submitted (n ∷ given) qs ≡ left_submitted given (without_invoke n qs) →
      left_submitted (n ∷ given) (record { octets = octets; invoking = invoking } ∷ qs)
      ≡ left_submitted given (without_invoke n (record { octets = octets; invoking = invoking } ∷ qs))
  invoke-cancelled octets None qs same = ap (λ (l : List Queued). record { octets = octets; invoking = None } ∷ l) same
  invoke-cancelled octets (Some v) qs same =
      let q : Queued = record { octets = octets; invoking = Some v } in
      elim (cases_Bool (v.number == n)) [
        | inl asks ↦ rw asks same
        | inr other ↦ rw other (ap (λ l. cond (not (list_any (λ m. v.number == m) given)) (q ∷ l) l) same)
      ]

  pub left-cancelled : (qs : List Queued) → left_submitted (n ∷ given) qs ≡ left_submitted given (without_invoke n qs)
  left-cancelled [] = refl
  left-cancelled (q ∷ qs) = invoke-cancelled q.octets q.invoking qs (left-cancelled qs)

-- ---- octets

pub octets-counted : (ss : List Submitted) (qs : List Queued) → AreWritten ss qs → length (joined qs) ≡ octet_count ss
octets-counted [] [] are = refl
octets-counted [] (q ∷ qs) are = absurd are
octets-counted (s ∷ ss) [] are = absurd are
octets-counted (s ∷ ss) (q ∷ qs) are =
    let first : IsWrittenAs s q = are.0 in
    let here : length q.octets ≡ length (written_component s.component) = ap length first.is_octets in
    let others = octets-counted ss qs are.1 in
    let whole = length-append q.octets (joined qs) in
    omega (arith, here, others, whole)

pub octets-same : (ss : List Submitted) (qs : List Queued) → AreWritten ss qs →
    map (λ (q : Queued). q.octets) qs ≡ map (λ (s : Submitted). written_component s.component) ss
octets-same [] [] are = refl
octets-same [] (q ∷ qs) are = absurd are
octets-same (s ∷ ss) [] are = absurd are
octets-same (s ∷ ss) (q ∷ qs) are =
    let first : IsWrittenAs s q = are.0 in
    let written : List (List ℕ) = map (λ (x : Submitted). written_component x.component) ss in
    ap (λ (octets : List (List ℕ)). q.octets ∷ octets) (octets-same ss qs are.1)
    ∙ ap (λ (octets : List ℕ). octets ∷ written) first.is_octets

abbrev pub components : List Submitted → List ComponentParts
components ss = map (λ (s : Submitted). s.component) ss

pub joined-spelled : (ss : List Submitted) (qs : List Queued) → AreWritten ss qs →
    SpellsComponents (components ss) (joined qs)
joined-spelled [] [] are = refl
joined-spelled [] (q ∷ qs) are = absurd are
joined-spelled (s ∷ ss) [] are = absurd are
joined-spelled (s ∷ ss) (q ∷ qs) are =
    let first : IsWrittenAs s q = are.0 in
    let spelled : SpellsComponent s.component q.octets =
    subst (SpellsComponent s.component) (sym first.is_octets)
    (component_spelled s.component first.in_range first.can) in
    (q.octets, joined qs, spelled, refl, joined-spelled ss qs are.1)

-- ---- Rejects that fit

length-more : (qs : List Queued) (q : Queued) → length (joined (qs ++ q ∷ [])) ≡ length (joined qs) + length q.octets
length-more [] q = let whole = ap length (append-nil q.octets) in omega (arith, whole)
length-more (p ∷ qs) q =
    let more = length-more qs q in
    let whole = length-append p.octets (joined (qs ++ q ∷ [])) in
    let first = length-append p.octets (joined qs) in
    omega (arith, more, whole, first)

abbrev pub written_all : List ComponentParts → List Queued
written_all cs = map (queued None) cs

-- a component more, if it fits
if-fits : (b : Bool) (qs : List Queued) (c : ComponentParts) (cs : List ComponentParts) →
    ((ps : List Queued) →
    queue_each queue_limit ps (written_all cs) ≡ ps ++ written_all (fitting (length (joined ps)) cs)) →
    queue_each queue_limit (cond b (qs ++ queued None c ∷ []) qs) (written_all cs)
    ≡ qs ++ written_all (cond b (c ∷ fitting (length (joined qs) + length (written_component c)) cs)
    (fitting (length (joined qs)) cs))
if-fits true qs c cs others =
    let more : List Queued = qs ++ queued None c ∷ [] in
    others more
    ∙ (append_assoc qs (queued None c ∷ []) (written_all (fitting (length (joined more)) cs))
    ∙ ap (λ (n : ℕ). qs ++ queued None c ∷ written_all (fitting n cs)) (length-more qs (queued None c)))
if-fits false qs c cs others = others qs

pub each-fitting : (cs : List ComponentParts) (qs : List Queued) →
    queue_each queue_limit qs (written_all cs) ≡ qs ++ written_all (fitting (length (joined qs)) cs)
each-fitting [] qs = sym (append-nil qs)
each-fitting (c ∷ cs) qs = if-fits (fits queue_limit qs (queued None c)) qs c cs (each-fitting cs)

-- a component that can be written and read back
abbrev pub IsGood : ComponentParts → Type 0
IsGood c = InRange c × CanWriteComponent c

pub fitting-good : (waiting : ℕ) (cs : List ComponentParts) → AllByRecursion IsGood cs →
    AllByRecursion IsGood (fitting waiting cs)
fitting-good waiting [] good = tt
fitting-good waiting (c ∷ cs) good =
    let more : ℕ = waiting + length (written_component c) in
    elim (cases_Bool (nat_le more queue_limit)) [
      | inl yes' ↦ rw yes' (good.0, fitting-good more cs good.1)
      | inr no' ↦ rw no' (fitting-good waiting cs good.1)
    ]

pub rejects-written : (cs : List ComponentParts) → AllByRecursion IsGood cs →
    AreWritten (map submitted_reject cs) (written_all cs)
rejects-written [] good = tt
rejects-written (c ∷ cs) good = (
  record { is_octets = refl; is_number = refl; in_range = good.0.0; can = good.0.1 },
  rejects-written cs good.1,
)
