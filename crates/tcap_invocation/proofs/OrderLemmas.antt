-- The rows stay in order through each change: the numbers rise, and the moments are within their bounds.
use Rattle.std.proofs.Common.{◌≡◌, ℕ, ℤ, ◌<◌, ◌≤◌, Bool, true, false, cond, List, [], ◌∷◌, ◌++◌, filter, Option, Some, None, refl, ap, sym, arith, ◌∙◌, unwrap_or, nat_lt, tests, if◌then◌else◌}
use Rattle.std.specs.Ordering.{int_eq}
use Rattle.std.specs.List.{AllPass, AllByRecursion}
use Rattle.std.proofs.lemmas.List.Elements.{recursion_from_All, All-from_recursion}
use Rattle.std.specs.Map.{values_of, lookup, remove_entry, set_value}
use Rattle.tcap_invocation.specs.declared.invocations.Invocation.{Invocation}
use Rattle.tcap_invocation.specs.declared.stage.Stage.{Stage}
use Rattle.tcap_invocation.specs.declared.stage.Stage.TheVariants.{Queued, Sent, Waiting}
use Rattle.tcap_invocation.specs.Stage.{moment_limit, IsTimely, is_sent, sent_stage}
use Rattle.tcap_invocation.specs.Invocations.{Row, AllAbove, AllBelow, AreInOrder, entry_at, passing, sent_at, at_stage, sent_rows}

-- one row is taken out
module _ (test : ℤ → Bool) where
  pub AllAbove-remove_entry : (number : ℕ) (rows : List Row) → AllAbove number rows → AllAbove number (remove_entry test rows)
  AllAbove-remove_entry number [] h = tt
  AllAbove-remove_entry number (r ∷ rs) h =
      elim (test r.0) as (λ b. AllAbove number (cond b rs (r ∷ remove_entry test rs))) [ true ↦ h.1 | false ↦ (h.0, AllAbove-remove_entry number rs h.1) ]

  pub AreInOrder-remove_entry : (rows : List Row) → AreInOrder rows → AreInOrder (remove_entry test rows)
  AreInOrder-remove_entry [] h = tt
  AreInOrder-remove_entry (r ∷ rs) h =
      elim (test r.0) as (λ b. AreInOrder (cond b rs (r ∷ remove_entry test rs))) [
        | true ↦ h.2
        | false ↦ (h.0, AllAbove-remove_entry r.1.number rs h.1, AreInOrder-remove_entry rs h.2)
      ]

  -- one row gets another entry of the same number
  module _ (w : Invocation) where
    pub AllAbove-set_value : (number : ℕ) (rows : List Row) → ((e : Invocation) → lookup test rows ≡ Some e → w.number ≡ e.number) → AllAbove number rows → AllAbove number (set_value test rows w)
    AllAbove-set_value number [] same h = tt
    AllAbove-set_value number (r ∷ rs) same h =
        let by : ((e : Invocation) → cond (test r.0) (Some r.1) (lookup test rs) ≡ Some e → w.number ≡ e.number) → AllAbove number (cond (test r.0) ((r.0, w) ∷ rs) (r ∷ set_value test rs w)) =
        elim (test r.0) as (λ b. ((e : Invocation) → cond b (Some r.1) (lookup test rs) ≡ Some e → w.number ≡ e.number) → AllAbove number (cond b ((r.0, w) ∷ rs) (r ∷ set_value test rs w))) [
          | true ↦ λ s. (omega (arith, h.0, s r.1 refl), h.1)
          | false ↦ λ s. (h.0, AllAbove-set_value number rs s h.1)
        ] in
        by same

    pub AreInOrder-set_value : (rows : List Row) → IsTimely w.stage → ((e : Invocation) → lookup test rows ≡ Some e → w.number ≡ e.number) → AreInOrder rows → AreInOrder (set_value test rows w)
    AreInOrder-set_value [] timely same h = tt
    AreInOrder-set_value (r ∷ rs) timely same h =
        let by : ((e : Invocation) → cond (test r.0) (Some r.1) (lookup test rs) ≡ Some e → w.number ≡ e.number) → AreInOrder (cond (test r.0) ((r.0, w) ∷ rs) (r ∷ set_value test rs w)) =
        elim (test r.0) as (λ b. ((e : Invocation) → cond b (Some r.1) (lookup test rs) ≡ Some e → w.number ≡ e.number) → AreInOrder (cond b ((r.0, w) ∷ rs) (r ∷ set_value test rs w))) [
          | true ↦ λ s. (timely, AllAbove-equal rs (s r.1 refl) h.1, h.2)
          | false ↦ λ s. (h.0, AllAbove-set_value r.1.number rs s h.1, AreInOrder-set_value rs timely s h.2)
        ] in
        by same
      where
        AllAbove-equal : {m : ℕ} (rows : List Row) → w.number ≡ m → AllAbove m rows → AllAbove w.number rows
        AllAbove-equal rows e h = rw e h

    -- nothing is written where no key passes
    pub set_value-absent : (rows : List Row) → lookup test rows ≡ None → set_value test rows w ≡ rows
    set_value-absent [] none = refl
    set_value-absent (r ∷ rs) none = go (test r.0) none (set_value-absent rs)
      where
        go : (b : Bool) → cond b (Some r.1) (lookup test rs) ≡ None → (lookup test rs ≡ None → set_value test rs w ≡ rs) → cond b ((r.0, w) ∷ rs) (r ∷ set_value test rs w) ≡ r ∷ rs
        go true h rest = cc
        go false h rest = ap (λ es. r ∷ es) (rest h)

-- the Sent invocation of an identifier is the one that has it
pub entry_at-sent : (rows : List Row) (id : ℤ) (entry : Invocation) → sent_at rows id ≡ Some entry → entry_at rows id ≡ Some entry
entry_at-sent rows id entry = go (entry_at rows id)
  where
    kept : (b : Bool) (e : Invocation) → (if b then Some e else None) ≡ Some entry → Some e ≡ Some entry
    kept true e h = h
    kept false e h = cc

    go : (o : Option Invocation) → passing is_sent o ≡ Some entry → o ≡ Some entry
    go None h = h
    go (Some e) h = kept (is_sent e.stage) e h

-- so it keeps its number where its stage changes
pub AreInOrder-at_stage : (rows : List Row) (id : ℤ) (entry : Invocation) (stage : Stage) → IsTimely stage → sent_at rows id ≡ Some entry → AreInOrder rows → AreInOrder (at_stage rows id entry stage)
AreInOrder-at_stage rows id entry stage timely found o =
    let at : entry_at rows id ≡ Some entry = entry_at-sent rows id entry found in
    AreInOrder-set_value (int_eq id) (record entry { stage = stage }) rows timely (λ e h. ap (λ o. (unwrap_or o entry).number) (sym at ∙ h)) o

-- some rows are taken out
module _ (p : Row → Bool) where
  pub AllAbove-filter : (number : ℕ) (rows : List Row) → AllAbove number rows → AllAbove number (filter p rows)
  AllAbove-filter number [] h = tt
  AllAbove-filter number (r ∷ rs) h =
      elim (p r) as (λ b. AllAbove number (cond b (r ∷ filter p rs) (filter p rs))) [ true ↦ (h.0, AllAbove-filter number rs h.1) | false ↦ AllAbove-filter number rs h.1 ]

  pub AreInOrder-filter : (rows : List Row) → AreInOrder rows → AreInOrder (filter p rows)
  AreInOrder-filter [] h = tt
  AreInOrder-filter (r ∷ rs) h =
      elim (p r) as (λ b. AreInOrder (cond b (r ∷ filter p rs) (filter p rs))) [
        | true ↦ (h.0, AllAbove-filter r.1.number rs h.1, AreInOrder-filter rs h.2)
        | false ↦ AreInOrder-filter rs h.2
      ]

-- the queued ones are sent
pub AllAbove-sent_rows : (clock number : ℕ) (rows : List Row) → AllAbove number rows → AllAbove number (sent_rows clock rows)
AllAbove-sent_rows clock number [] h = tt
AllAbove-sent_rows clock number (r ∷ rs) h = (h.0, AllAbove-sent_rows clock number rs h.1)

pub IsTimely-sent_stage : (clock : ℕ) (s : Stage) → clock ≤ moment_limit → IsTimely s → IsTimely (sent_stage clock s)
IsTimely-sent_stage clock (Queued timeout) late h = let k : timeout ≤ moment_limit = h.1 in omega (arith, late, k)
IsTimely-sent_stage clock (Sent deadline) late h = h
IsTimely-sent_stage clock (Waiting until) late h = h

pub AreInOrder-sent_rows : (clock : ℕ) (rows : List Row) → clock ≤ moment_limit → AreInOrder rows → AreInOrder (sent_rows clock rows)
AreInOrder-sent_rows clock [] late h = tt
AreInOrder-sent_rows clock (r ∷ rs) late h =
    (IsTimely-sent_stage clock r.1.stage late h.0, AllAbove-sent_rows clock r.1.number rs h.1, AreInOrder-sent_rows clock rs late h.2)

-- a row is added
pub AllAbove-push : (number : ℕ) (rows : List Row) (r : Row) → number < r.1.number → AllAbove number rows → AllAbove number (rows ++ r ∷ [])
AllAbove-push number [] r above h = (above, tt)
AllAbove-push number (x ∷ xs) r above h = (h.0, AllAbove-push number xs r above h.1)

pub AreInOrder-push : (rows : List Row) (r : Row) → IsTimely r.1.stage → AllBelow r.1.number rows → AreInOrder rows → AreInOrder (rows ++ r ∷ [])
AreInOrder-push [] r timely below h = (timely, tt, tt)
AreInOrder-push (x ∷ xs) r timely below h = (h.0, AllAbove-push x.1.number xs r below.0 h.1, AreInOrder-push xs r timely below.1 h.2)

-- the numbers of the entries tell what the rows are below
pub AllBelow-values : (number : ℕ) (rows : List Row) → AllPass (λ (e : Invocation). nat_lt e.number number) (values_of rows) → AllBelow number rows
AllBelow-values number rows h = below rows (recursion_from_All (λ (e : Invocation). nat_lt e.number number ≡ true) (values_of rows) h)
  where
    below : (rows : List Row) → AllByRecursion (λ (e : Invocation). nat_lt e.number number ≡ true) (values_of rows) → AllBelow number rows
    below [] h = tt
    below (r ∷ rs) h = (let first = h.0 in grind (arith, tests, first), below rs h.1)

pub AllBelow-values_again : (number : ℕ) (rows : List Row) → AllBelow number rows → AllPass (λ (e : Invocation). nat_lt e.number number) (values_of rows)
AllBelow-values_again number rows h = All-from_recursion (λ (e : Invocation). nat_lt e.number number ≡ true) (values_of rows) (pass rows h)
  where
    pass : (rows : List Row) → AllBelow number rows → AllByRecursion (λ (e : Invocation). nat_lt e.number number ≡ true) (values_of rows)
    pass [] h = tt
    pass (r ∷ rs) h = (let first = h.0 in grind (arith, tests, first), pass rs h.1)

pub ruleset below_rules = (AllBelow-values, AllBelow-values_again)
