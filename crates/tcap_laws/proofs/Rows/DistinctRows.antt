-- No identifier has two rows.
use Rattle.std.proofs.Common.{◌≡◌, ℕ, ◌==◌, Bool, true, false, cond, List, [], ◌∷◌, ◌++◌, Option, Some, None, refl, ap, sym, ◌∙◌}
use Rattle.std.proofs.lemmas.Bool.Decides.{Decides-int_eq}
use Rattle.std.specs.Prelude.{filter_map, is_some, option_to_list}
use Rattle.std.specs.List.{AllByRecursion, IsDistinct, cons_option}
use Rattle.std.specs.Map.{keys_of}
use Rattle.std.specs.Ordering.{int_eq}
use Rattle.tcap_invocation.specs.Invocations.{Row}
use Rattle.tcap_laws.proofs.Spans.LatestInvocations.{other_number, own_number}
use Rattle.tcap_laws.proofs.Rows.IdentifiersInRows.{has_row}
use Rattle.tcap_laws.proofs.Spans.SupersededInvocations.{latest_found}
use Rattle.tcap_laws.proofs.Decisions.ToldInvocations.{IsFound, each_found}
use Rattle.tcap_model.specs.Histories.History.{Start}
use Rattle.tcap_model.specs.Invocations.Invocation.{Invocation, invoked_by, invocations, latest}
use Rattle.tcap_model.specs.Replies.Legal.{AreReplies}
use Rattle.tcap_model.specs.Histories.Pair.{Pair, Past}
use Rattle.tcap_model.specs.Table.World.{row_of, rows_of}
use Rattle.tcap_laws.proofs.Rows.LatestRows.{entry_of}

-- ---- the numbers of invocations

-- no later invocation has the number of an earlier one
abbrev Apart : List Invocation → Type 0
Apart [] = Unit {0}
Apart (x ∷ xs) = AllByRecursion (λ y. (y.number == x.number) ≡ false) xs × Apart xs

all_more : {X : Type 0} (P : X → Type 0) (xs : List X) (y : X) → AllByRecursion P xs → P y
    → AllByRecursion P (xs ++ y ∷ [])
all_more P [] y a p = (p, tt)
all_more P (x ∷ xs) y a p = (a.0, all_more P xs y a.1 p)

apart_more : (xs : List Invocation) (new : Invocation) → Apart xs
    → AllByRecursion (λ x. (new.number == x.number) ≡ false) xs → Apart (xs ++ new ∷ [])
apart_more [] new a n = (tt, tt)
apart_more (x ∷ xs) new a n = (all_more (λ y. (y.number == x.number) ≡ false) xs new a.0 n.0, apart_more xs new a.1 n.1)

each : {X : Type 0} (P Q : X → Type 0) (f : (x : X) → P x → Q x) (xs : List X) → AllByRecursion P xs
    → AllByRecursion Q xs
each P Q f [] a = tt
each P Q f (x ∷ xs) a = (f x a.0, each P Q f xs a.1)

apart_none : (xs : List Invocation) → Apart xs → Apart (xs ++ [])
apart_none [] a = a
apart_none (x ∷ xs) a = (all_none (λ y. (y.number == x.number) ≡ false) xs a.0, apart_none xs a.1)
  where
    all_none : (P : Invocation → Type 0) (ys : List Invocation) → AllByRecursion P ys → AllByRecursion P (ys ++ [])
    all_none P [] b = tt
    all_none P (y ∷ ys) b = (b.0, all_none P ys b.1)

apart_step : (start : Start) (pair : Pair) (past : Past) (o : Option Invocation) → AreReplies start (pair ∷ past)
    → invoked_by pair ≡ o → Apart (invocations past) → Apart (invocations past ++ option_to_list o)
apart_step start pair past None legal e a = apart_none (invocations past) a
apart_step start pair past (Some new) legal e a =
    apart_more (invocations past) new a
    (each (IsFound past) (λ x. (new.number == x.number) ≡ false)
    (λ x f. other_number start pair past legal new x e (ap is_some f)) (invocations past)
    (each_found start past legal.2))

invocations-apart : (start : Start) (past : Past) → AreReplies start past → Apart (invocations past)
invocations-apart start [] legal = tt
invocations-apart start (pair ∷ past) legal =
    apart_step start pair past (invoked_by pair) legal refl (invocations-apart start past legal.2)

-- ---- the rows

module _ (start : Start) (past : Past) (legal : AreReplies start past) (reject_ms dialogue : ℕ) where
  abbrev row_here : Invocation → Option Row
  row_here i = row_of reject_ms dialogue past i

  own_entry : (r : Row) → entry_of r.0 (Some r) ≡ Some r.1
  own_entry r = ap (λ b. cond b (Some r.1) None) ((Decides-int_eq r.0 r.0).1 refl)

  -- an invocation with a row is the latest one with that identifier
  row_last : (i : Invocation) (r : Row) → IsFound past i → row_here i ≡ Some r → latest dialogue r.0 past ≡ Some i
  row_last i r f e =
      let has = has_row reject_ms dialogue r.0 past i r.1 (ap (entry_of r.0) e ∙ own_entry r) in
      ap (λ d. latest d r.0 past) (sym has.dialogue_is)
      ∙ (ap (λ k. latest i.dialogue k past) (sym has.id_is) ∙ latest_found start past i legal f has.is_last)

  other_row : (x y : Invocation) (r q : Row) → IsFound past x → IsFound past y → (y.number == x.number) ≡ false
      → row_here x ≡ Some r → row_here y ≡ Some q → int_eq r.0 q.0 ≡ false
  other_row x y r q f g n e w = go (int_eq r.0 q.0) refl
    where
      go : (b : Bool) → int_eq r.0 q.0 ≡ b → int_eq r.0 q.0 ≡ false
      go false p = p
      go true p =
          let one : Some x ≡ Some y =
          sym (row_last x r f e) ∙ (ap (λ k. latest dialogue k past) ((Decides-int_eq r.0 q.0).0 p)
          ∙ row_last y q g w) in
          let same : x ≡ y = cc in
          let never : true ≡ false =
          sym (own_number y) ∙ (ap (λ (z : Invocation). y.number == z.number) (sym same) ∙ n) in
          absurd cc

  other_rows : (x : Invocation) (r : Row) → IsFound past x → row_here x ≡ Some r → (ys : List Invocation)
      → AllByRecursion (IsFound past) ys → AllByRecursion (λ y. (y.number == x.number) ≡ false) ys
      → AllByRecursion (λ k. int_eq r.0 k ≡ false) (keys_of (filter_map row_here ys))
  other_rows x r f e [] a n = tt
  other_rows x r f e (y ∷ ys) a n = go (row_here y) refl (other_rows x r f e ys a.1 n.1)
    where
      go : (o : Option Row) → row_here y ≡ o → AllByRecursion (λ k. int_eq r.0 k ≡ false)
          (keys_of (filter_map row_here ys)) → AllByRecursion (λ k. int_eq r.0 k ≡ false)
          (keys_of (cons_option o (filter_map row_here ys)))
      go None w b = b
      go (Some q) w b = (other_row x y r q f a.0 n.0 e w, b)

  distinct_rows : (xs : List Invocation) → AllByRecursion (IsFound past) xs → Apart xs
      → IsDistinct int_eq (keys_of (filter_map row_here xs))
  unfolding IsDistinct
  distinct_rows [] a p = tt
  distinct_rows (x ∷ xs) a p = go (row_here x) refl (distinct_rows xs a.1 p.1)
    where
      go : (o : Option Row) → row_here x ≡ o → IsDistinct int_eq (keys_of (filter_map row_here xs))
          → IsDistinct int_eq (keys_of (cons_option o (filter_map row_here xs)))
      go None e d = d
      go (Some r) e d = (other_rows x r a.0 e xs a.1 p.0, d)

  pub rows_distinct : IsDistinct int_eq (keys_of (rows_of reject_ms dialogue past))
  rows_distinct = distinct_rows (invocations past) (each_found start past legal) (invocations-apart start past legal)
