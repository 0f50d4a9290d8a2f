-- What a pair adds to the span of an invocation.
use Rattle.std.proofs.Common.{◌≡◌, ℕ, ◌==◌, Bool, true, false, cond, ◌||◌, List, [], ◌∷◌, ◌++◌, Option, Some, None, refl, ap, sym, ◌∙◌}
use Rattle.std.specs.Prelude.{find, flat_map, is_some, option_to_list}
use Rattle.std.specs.Option.{option_or}
use Rattle.std.specs.List.{list_any}
use Rattle.std.proofs.lemmas.List.{append-nil}
use Rattle.std.proofs.lemmas.List.Folds.{find-append, list_any-append}
use Rattle.std.proofs.lemmas.Grind.{flat_map-append}
use Rattle.tcap_model.specs.Invocations.Invocation.{Invocation, invoked_by, invocations, invocation_of, has_id}
use Rattle.tcap_model.specs.Invocations.Marks.{Noted, marks}
use Rattle.tcap_model.specs.Histories.Pair.{Pair, Past}
use Rattle.tcap_model.specs.Invocations.Reuse.{places_after_invoke, is_reused}
use Rattle.tcap_model.specs.Invocations.Span.{Place, place, places, following, up_to, is_invoked, invokes_number, uses_id, span}
use Rattle.tcap_laws.proofs.BoolLemmas.{or_false}

-- ---- lists

following-found : {X : Type 0} (test : X → Bool) (xs ys : List X) → list_any test xs ≡ true
    → following test (xs ++ ys) ≡ following test xs ++ ys
following-found test [] ys e = absurd cc
following-found test (x ∷ xs) ys e = go (test x) e (following-found test xs ys)
  where
    go : (b : Bool) → (b || list_any test xs) ≡ true
        → (list_any test xs ≡ true → following test (xs ++ ys) ≡ following test xs ++ ys)
        → cond b (xs ++ ys) (following test (xs ++ ys)) ≡ cond b xs (following test xs) ++ ys
    go true e more = refl
    go false e more = more e

following-missing : {X : Type 0} (test : X → Bool) (xs ys : List X) → list_any test xs ≡ false
    → following test (xs ++ ys) ≡ following test ys
following-missing test [] ys e = refl
following-missing test (x ∷ xs) ys e = go (test x) e (following-missing test xs ys)
  where
    go : (b : Bool) → (b || list_any test xs) ≡ false
        → (list_any test xs ≡ false → following test (xs ++ ys) ≡ following test ys)
        → cond b (xs ++ ys) (following test (xs ++ ys)) ≡ following test ys
    go true e more = absurd cc
    go false e more = more e

up_to-found : {X : Type 0} (test : X → Bool) (xs ys : List X) → list_any test xs ≡ true
    → up_to test (xs ++ ys) ≡ up_to test xs
up_to-found test [] ys e = absurd cc
up_to-found test (x ∷ xs) ys e = go (test x) e (up_to-found test xs ys)
  where
    go : (b : Bool) → (b || list_any test xs) ≡ true → (list_any test xs ≡ true → up_to test (xs ++ ys) ≡ up_to test xs)
        → cond b [] (x ∷ up_to test (xs ++ ys)) ≡ cond b [] (x ∷ up_to test xs)
    go true e more = refl
    go false e more = ap (λ z. x ∷ z) (more e)

up_to-missing : {X : Type 0} (test : X → Bool) (xs : List X) → list_any test xs ≡ false → up_to test xs ≡ xs
up_to-missing test [] e = refl
up_to-missing test (x ∷ xs) e = go (test x) e (up_to-missing test xs)
  where
    go : (b : Bool) → (b || list_any test xs) ≡ false → (list_any test xs ≡ false → up_to test xs ≡ xs)
        → cond b [] (x ∷ up_to test xs) ≡ x ∷ xs
    go true e more = absurd cc
    go false e more = ap (λ z. x ∷ z) (more e)

up_to-stop : {X : Type 0} (test : X → Bool) (xs : List X) (x : X) → list_any test xs ≡ false → test x ≡ true
    → up_to test (xs ++ x ∷ []) ≡ xs
up_to-stop test [] x e here = rw here refl
up_to-stop test (y ∷ ys) x e here = go (test y) e (up_to-stop test ys x)
  where
    go : (b : Bool) → (b || list_any test ys) ≡ false
        → (list_any test ys ≡ false → test x ≡ true → up_to test (ys ++ x ∷ []) ≡ ys)
        → cond b [] (y ∷ up_to test (ys ++ x ∷ [])) ≡ y ∷ ys
    go true e more = absurd cc
    go false e more = ap (λ z. y ∷ z) (more e here)

pub none_before : (a b : Bool) → (a || b) ≡ false → (a ≡ false) × (b ≡ false)
none_before false b e = (refl, e)
none_before true b e = absurd cc

-- ---- whether an invocation is made

invoked_one : (test : Invocation → Bool) (o : Option Invocation)
    → (is_invoked test o || false) ≡ is_some (find test (option_to_list o))
invoked_one test None = refl
invoked_one test (Some i) = go (test i)
  where
    go : (b : Bool) → (b || false) ≡ is_some (cond b (Some i) None)
    go true = refl
    go false = refl

some_or : (o p : Option Invocation) → is_some (option_or o p) ≡ (is_some o || is_some p)
some_or None p = refl
some_or (Some i) p = refl

-- the invoke of a number stands among the places where the number is found
pub places_of_number : (n : ℕ) (past : Past)
    → list_any (invokes_number n) (places past) ≡ is_some (invocation_of n past)
places_of_number n [] = refl
places_of_number n (pair ∷ past) =
    let test : Invocation → Bool = λ (i : Invocation). i.number == n in
    rw (
      list_any-append (invokes_number n) (places past) (place pair past ∷ []),
      places_of_number n past,
      invoked_one test (invoked_by pair),
      find-append test (invocations past) (option_to_list (invoked_by pair)),
    )
    (sym (some_or (find test (invocations past)) (find test (option_to_list (invoked_by pair)))))

-- ---- the places after an invoke

after_made : (n : ℕ) (pair : Pair) (past : Past) → is_some (invocation_of n past) ≡ true
    → places_after_invoke n (pair ∷ past) ≡ places_after_invoke n past ++ place pair past ∷ []
after_made n pair past made =
    following-found (invokes_number n) (places past) (place pair past ∷ []) (places_of_number n past ∙ made)

following_one : {X : Type 0} (test : X → Bool) (x : X) → following test (x ∷ []) ≡ []
following_one {X = X} test x = go (test x)
  where
    none : List X
    none = []

    go : (b : Bool) → cond b none none ≡ none
    go true = refl
    go false = refl

after_new : (n : ℕ) (pair : Pair) (past : Past) → is_some (invocation_of n past) ≡ false
    → places_after_invoke n (pair ∷ past) ≡ []
after_new n pair past new =
    following-missing (invokes_number n) (places past) (place pair past ∷ []) (places_of_number n past ∙ new)
    ∙ following_one (invokes_number n) (place pair past)

pub reused_step : (i : Invocation) (pair : Pair) (past : Past) → is_some (invocation_of i.number past) ≡ true
    → is_reused i (pair ∷ past) ≡ (is_reused i past || is_invoked (has_id i.dialogue i.id) (invoked_by pair))
reused_step i pair past made =
    let test : Place → Bool = uses_id i.dialogue i.id in
    ap (list_any test) (after_made i.number pair past made)
    ∙ (list_any-append test (places_after_invoke i.number past) (place pair past ∷ [])
    ∙ ap (λ b. is_reused i past || b) (or_false (test (place pair past))))

pub reused_new : (i : Invocation) (pair : Pair) (past : Past) → is_some (invocation_of i.number past) ≡ false
    → is_reused i (pair ∷ past) ≡ false
reused_new i pair past new = ap (list_any (uses_id i.dialogue i.id)) (after_new i.number pair past new)

-- ---- the span

abbrev spanned : Invocation → List Place → List Noted
spanned i ps = flat_map (λ (p : Place). marks i.dialogue i.id p.pair p.before) ps

pub span_new : (i : Invocation) (pair : Pair) (past : Past) → is_some (invocation_of i.number past) ≡ false
    → span i (pair ∷ past) ≡ []
span_new i pair past new = ap (λ ps. spanned i (up_to (uses_id i.dialogue i.id) ps)) (after_new i.number pair past new)

pub span_grows : (i : Invocation) (pair : Pair) (past : Past) → is_some (invocation_of i.number past) ≡ true
    → is_reused i (pair ∷ past) ≡ false
    → span i (pair ∷ past) ≡ span i past ++ marks i.dialogue i.id pair past
span_grows i pair past made fresh =
    let test : Place → Bool = uses_id i.dialogue i.id in
    let before = (none_before (is_reused i past) (is_invoked (has_id i.dialogue i.id) (invoked_by pair))
    (sym (reused_step i pair past made) ∙ fresh)).0 in
    ap (spanned i) (up_to-missing test (places_after_invoke i.number (pair ∷ past)) fresh)
    ∙ (ap (spanned i) (after_made i.number pair past made)
    ∙ (flat_map-append (λ (p : Place). marks i.dialogue i.id p.pair p.before) (places_after_invoke i.number past)
    (place pair past ∷ [])
    ∙ (ap (λ z. z ++ spanned i (place pair past ∷ []))
    (ap (spanned i) (sym (up_to-missing test (places_after_invoke i.number past) before)))
    ∙ ap (λ z. span i past ++ z) (append-nil (marks i.dialogue i.id pair past)))))

pub span_stays : (i : Invocation) (pair : Pair) (past : Past) → is_some (invocation_of i.number past) ≡ true
    → is_reused i (pair ∷ past) ≡ true → span i (pair ∷ past) ≡ span i past
span_stays i pair past made used = go (is_reused i past) refl
  where
    test : Place → Bool
    test = uses_id i.dialogue i.id

    go : (b : Bool) → is_reused i past ≡ b → span i (pair ∷ past) ≡ span i past
    go true e = ap (λ ps. spanned i (up_to test ps)) (after_made i.number pair past made)
        ∙ ap (spanned i) (up_to-found test (places_after_invoke i.number past) (place pair past ∷ []) e)
    go false e =
        let here : is_invoked (has_id i.dialogue i.id) (invoked_by pair) ≡ true =
        ap (λ b. b || is_invoked (has_id i.dialogue i.id) (invoked_by pair)) (sym e)
        ∙ (sym (reused_step i pair past made) ∙ used) in
        ap (λ ps. spanned i (up_to test ps)) (after_made i.number pair past made)
        ∙ (ap (spanned i) (up_to-stop test (places_after_invoke i.number past) (place pair past) e here)
        ∙ ap (spanned i) (sym (up_to-missing test (places_after_invoke i.number past) e)))
