-- A dialogue has at most as many invoke identifiers in use as there are octets.
use Rattle.std.proofs.Common.{◌≡◌, ℕ, ℤ, pos, negsuc, ◌+◌, ◌<◌, ◌≤◌, ◌==◌, Bool, true, false, cond, eqb, nat_le, ◌&&◌, ◌||◌, List, [], ◌∷◌, length, map, option_to_list, Option, Some, None, refl, sym, ap, ◌∙◌, subst, arith}
use Rattle.std.specs.Prelude.{filter_map}
use Rattle.std.specs.List.{AllByRecursion, IsDistinct, cons_option, list_any}
use Rattle.std.specs.Map.{keys_of}
use Rattle.std.specs.Ordering.{int_eq}
use Rattle.std.proofs.lemmas.Bool.{and_parts}
use Rattle.std.proofs.lemmas.Bool.Decides.{nat_tests, Decides-eqb, Decides-int_eq}
use Rattle.std.proofs.lemmas.Map.Entries.{length-keys_of}
use Rattle.std.proofs.lemmas.Map.Steps.{length-le_from_distinct_below}
use Rattle.std.proofs.lemmas.List.{length-map}
use Rattle.tcap_invocation.specs.declared.stage.Stage.{Stage}
use Rattle.tcap_invocation.specs.Invocations.{Row}
use Rattle.tcap_model.specs.Invocations.Decision.{decision}
use Rattle.tcap_model.specs.Histories.History.{Start}
use Rattle.tcap_model.specs.Words.InRange.{is_identifier}
use Rattle.tcap_model.specs.Invocations.Invocation.{Invocation, invoked_by, invocations, latest}
use Rattle.tcap_model.specs.Replies.Legal.{AreReplies}
use Rattle.tcap_model.specs.Histories.Pair.{Past}
use Rattle.tcap_model.specs.Table.World.{stage_by, row_by, is_number, row_of, rows_of}
use Rattle.tcap_laws.proofs.Receptions.AcceptedRequests.{made-identifier}
use Rattle.tcap_laws.proofs.Rows.DistinctRows.{rows_distinct}
use Rattle.tcap_laws.proofs.ListLemmas.{each-append}

-- ---- identifiers as numbers below 256

abbrev octet_of : ℤ → ℕ
octet_of (pos n) = n
octet_of (negsuc n) = n + 128

positive : (n : ℕ) → is_identifier (pos n) ≡ true → n ≤ 127
positive n e = grind (arith, nat_tests)

negative : (n : ℕ) → is_identifier (negsuc n) ≡ true → n ≤ 127
negative n e = let first = (and_parts (nat_le n 127) true e).0 in grind (arith, nat_tests)

code-below : (id : ℤ) → is_identifier id ≡ true → octet_of id < 256
code-below (pos n) e = let le = positive n e in omega (arith, le)
code-below (negsuc n) e = let le = negative n e in omega (arith, le)

code-same : (x y : ℤ) → is_identifier x ≡ true → is_identifier y ≡ true → octet_of x ≡ octet_of y → x ≡ y
code-same (pos m) (pos n) p q e = ap (λ (k : ℕ). pos k) e
code-same (pos m) (negsuc n) p q e = let le = positive m p in absurd (omega (arith, le, e))
code-same (negsuc m) (pos n) p q e = let le = positive n q in absurd (omega (arith, le, e))
code-same (negsuc m) (negsuc n) p q e = let same : m ≡ n = omega (arith, e) in ap (λ (k : ℕ). negsuc k) same

-- ---- distinct identifiers

abbrev AreIdentifiers : List ℤ → Type 0
AreIdentifiers ids = AllByRecursion (λ id. is_identifier id ≡ true) ids

codes-apart : (x : ℤ) (ids : List ℤ) → is_identifier x ≡ true → AreIdentifiers ids
    → AllByRecursion (λ y. int_eq x y ≡ false) ids → AllByRecursion (λ c. eqb (octet_of x) c ≡ false) (map octet_of ids)
codes-apart x [] e each apart = tt
codes-apart x (y ∷ ids) e each apart = (go (eqb (octet_of x) (octet_of y)) refl, codes-apart x ids e each.1 apart.1)
  where
    go : (b : Bool) → eqb (octet_of x) (octet_of y) ≡ b → eqb (octet_of x) (octet_of y) ≡ false
    go false q = q
    go true q =
        let equal : int_eq x y ≡ true =
        (Decides-int_eq x y).1 (code-same x y e each.0 ((Decides-eqb (octet_of x) (octet_of y)).0 q)) in
        let never : true ≡ false = sym equal ∙ apart.0 in
        absurd cc

codes-distinct : (ids : List ℤ) → AreIdentifiers ids → IsDistinct int_eq ids → IsDistinct eqb (map octet_of ids)
unfolding IsDistinct
codes-distinct [] each d = tt
codes-distinct (x ∷ ids) each d = (codes-apart x ids each.0 each.1 d.0, codes-distinct ids each.1 d.1)

codes-below : (ids : List ℤ) → AreIdentifiers ids → (c : ℕ) → list_any (eqb c) (map octet_of ids) ≡ true → c < 256
codes-below [] each c e = absurd cc
codes-below (x ∷ ids) each c e = go (eqb c (octet_of x)) refl e (codes-below ids each.1 c)
  where
    go : (b : Bool) → eqb c (octet_of x) ≡ b → (b || list_any (eqb c) (map octet_of ids)) ≡ true
        → (list_any (eqb c) (map octet_of ids) ≡ true → c < 256) → c < 256
    go true q w rest = subst (λ k. k < 256) (sym ((Decides-eqb c (octet_of x)).0 q)) (code-below x each.0)
    go false q w rest = rest w

distinct-bounded : (ids : List ℤ) → AreIdentifiers ids → IsDistinct int_eq ids → length ids ≤ 256
distinct-bounded ids each d =
    let few = length-le_from_distinct_below (map octet_of ids) 256 (codes-distinct ids each d) (codes-below ids each) in
    let long = length-map ids octet_of in
    omega (arith, few, long)

-- ---- the identifiers of invocations and of rows

abbrev HasIdentifier : Invocation → Type 0
HasIdentifier i = is_identifier i.id ≡ true

each-identifier : (start : Start) (past : Past) → AreReplies start past
    → AllByRecursion HasIdentifier (invocations past)
each-identifier start [] legal = tt
each-identifier start (pair ∷ past) legal =
    each-append HasIdentifier (invocations past) (option_to_list (invoked_by pair)) (each-identifier start past legal.2)
    (go (invoked_by pair) refl)
  where
    go : (o : Option Invocation) → invoked_by pair ≡ o → AllByRecursion HasIdentifier (option_to_list o)
    go None e = tt
    go (Some i) e = (made-identifier pair i legal.0.in_range e, tt)

module _ (reject_ms dialogue : ℕ) (past : Past) where
  abbrev row_here : Invocation → Option Row
  row_here i = row_of reject_ms dialogue past i

  row-identifier : (i : Invocation) (r : Row) → row_here i ≡ Some r → HasIdentifier i → is_identifier r.0 ≡ true
  row-identifier i r e has =
      go ((i.dialogue == dialogue) && is_number i.number (latest i.dialogue i.id past))
      (stage_by reject_ms past i (decision i.number past)) e
    where
      go : (b : Bool) (s : Option Stage) → cond b (row_by i s) None ≡ Some r → is_identifier r.0 ≡ true
      go false s q = absurd cc
      go true None q = absurd cc
      go true (Some s) q = let at : i.id ≡ r.0 = cc in subst (λ id. is_identifier id ≡ true) at has

  rows-identifiers : (is : List Invocation) → AllByRecursion HasIdentifier is
      → AreIdentifiers (keys_of (filter_map row_here is))
  rows-identifiers [] each = tt
  rows-identifiers (i ∷ is) each = go (row_here i) refl (rows-identifiers is each.1)
    where
      go : (o : Option Row) → row_here i ≡ o → AreIdentifiers (keys_of (filter_map row_here is))
          → AreIdentifiers (keys_of (cons_option o (filter_map row_here is)))
      go None e rest = rest
      go (Some r) e rest = (row-identifier i r e each.0, rest)

pub identifiers-bounded : (start : Start) (past : Past) → AreReplies start past → (reject_ms dialogue : ℕ)
    → length (rows_of reject_ms dialogue past) ≤ 256
identifiers-bounded start past legal reject_ms dialogue =
    let rows : List Row = rows_of reject_ms dialogue past in
    let few = distinct-bounded (keys_of rows) (rows-identifiers reject_ms dialogue past (invocations past)
    (each-identifier start past legal)) (rows_distinct start past legal reject_ms dialogue) in
    let long = length-keys_of rows in
    omega (arith, few, long)
