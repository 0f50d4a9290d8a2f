-- What is told of all invocations tells of the number n what it tells of the one of that number.
use Rattle.std.proofs.Common.{◌≡◌, ℕ, ◌==◌, Bool, true, false, cond, ◌&&◌, nat_le, List, [], ◌∷◌, ◌++◌, Option, Some, None, refl, ap, sym, ◌∙◌, arith, append_assoc}
use Rattle.std.proofs.lemmas.Bool.Decides.{nat_tests}
use Rattle.std.proofs.lemmas.List.{append-nil}
use Rattle.std.proofs.lemmas.List.Folds.{flat_map-map}
use Rattle.std.proofs.lemmas.Grind.{flat_map-append}
use Rattle.std.specs.Prelude.{find, filter_map, flat_map, is_none, is_some, option_to_list}
use Rattle.std.specs.List.{AllByRecursion, cons_option}
use Rattle.std.specs.Option.{option_or}
use Rattle.tcap_laws.proofs.Spans.DecisionSteps.{number_found, invocation_stays}
use Rattle.tcap_laws.proofs.Spans.DrawnInvocations.{invocation_step}
use Rattle.tcap_laws.proofs.Spans.LatestInvocations.{new_found, other_number}
use Rattle.tcap_laws.proofs.Decisions.ToldOutputs.{told}
use Rattle.tcap_model.specs.Invocations.Closings.{Told, told_by_output}
use Rattle.tcap_model.specs.Procedures.ComponentHandling.{Item}
use Rattle.tcap_model.specs.Invocations.Deadline.{deadline}
use Rattle.tcap_model.specs.Histories.History.{Start}
use Rattle.tcap_model.specs.Invocations.Invocation.{Invocation, invoked_by, invocations, invocation_of}
use Rattle.tcap_model.specs.Replies.Legal.{AreReplies}
use Rattle.tcap_model.specs.Invocations.Outcome.{first_closing, is_sent_in}
use Rattle.tcap_model.specs.Words.Output.{Output, Closing, ComponentIndication}
use Rattle.tcap_model.specs.Histories.Pair.{Pair, Past}
use Rattle.tcap_model.specs.Invocations.SentThere.{marks_up_to}
use Rattle.tcap_invocation.proofs.CallerLemmas.{all_in_order}
use Rattle.tcap_model.specs.Words.KeyOrder.{comes_before, key_before, put, in_order}
use Rattle.tcap_model.specs.Replies.Reply.{ended_of, ended_in, Lapsing, lapse_key, lapsing_by, lapsing_at, lapse_told, lapses}
use Rattle.tcap_model.specs.Invocations.Span.{span}
use Rattle.tcap_laws.proofs.ListLemmas.{each-append}

-- ---- each invocation is found under its number

each-implied : {X : Type 0} (P Q : X → Type 0) (f : (x : X) → P x → Q x) (xs : List X) → AllByRecursion P xs
    → AllByRecursion Q xs
each-implied P Q f [] p = tt
each-implied P Q f (x ∷ xs) p = (f x p.0, each-implied P Q f xs p.1)

abbrev pub IsFound : Past → Invocation → Type 0
IsFound past i = invocation_of i.number past ≡ Some i

each_new : (start : Start) (pair : Pair) (past : Past) (o : Option Invocation) → AreReplies start (pair ∷ past)
    → invoked_by pair ≡ o → AllByRecursion (IsFound (pair ∷ past)) (option_to_list o)
each_new start pair past None legal e = tt
each_new start pair past (Some i) legal e = (new_found start pair past legal i e, tt)

pub each_found : (start : Start) (past : Past) → AreReplies start past
    → AllByRecursion (IsFound past) (invocations past)
each_found start [] legal = tt
each_found start (pair ∷ past) legal =
    each-append (IsFound (pair ∷ past)) (invocations past) (option_to_list (invoked_by pair))
    (each-implied (IsFound past) (IsFound (pair ∷ past)) (λ i e. invocation_stays i.number pair past i e)
    (invocations past) (each_found start past legal.2))
    (each_new start pair past (invoked_by pair) legal refl)

-- ---- gathering over the invocations

abbrev pub told_one : (Invocation → List Told) → Option Invocation → List Told
told_one tells None = []
told_one tells (Some i) = tells i

module _ (n : ℕ) (tells : Invocation → List Told) (others : (i : Invocation) → (i.number == n) ≡ false → tells i ≡ [])
  where
    gathered_step : (start : Start) (pair : Pair) (past : Past) (o p : Option Invocation) → AreReplies start (pair ∷ past)
        → invocation_of n past ≡ o → invoked_by pair ≡ p
        → told_one tells o ++ flat_map tells (option_to_list p)
        ≡ told_one tells (option_or o (find (λ (i : Invocation). i.number == n) (option_to_list p)))
    gathered_step start pair past None None legal q w = refl
    gathered_step start pair past (Some i) None legal q w = append-nil (tells i)
    gathered_step start pair past (Some i) (Some new) legal q w =
        let same : i.number ≡ n = number_found n past i q in
        let made : is_some (invocation_of i.number past) ≡ true =
        ap (λ m. is_some (invocation_of m past)) same ∙ ap is_some q in
        let other : (new.number == n) ≡ false =
        ap (λ m. new.number == m) (sym same) ∙ other_number start pair past legal new i w made in
        ap (λ z. tells i ++ (z ++ [])) (others new other) ∙ append-nil (tells i)
    gathered_step start pair past None (Some new) legal q w = go (new.number == n) refl
      where
        go : (b : Bool) → (new.number == n) ≡ b → tells new ++ [] ≡ told_one tells (cond b (Some new) None)
        go true e = append-nil (tells new)
        go false e = append-nil (tells new) ∙ others new e

    pub gathered_number : (start : Start) (past : Past) → AreReplies start past
        → flat_map tells (invocations past) ≡ told_one tells (invocation_of n past)
    gathered_number start [] legal = refl
    gathered_number start (pair ∷ past) legal =
        flat_map-append tells (invocations past) (option_to_list (invoked_by pair))
        ∙ (ap (λ z. z ++ flat_map tells (option_to_list (invoked_by pair))) (gathered_number start past legal.2)
        ∙ (gathered_step start pair past (invocation_of n past) (invoked_by pair) legal refl refl
        ∙ ap (told_one tells) (sym (invocation_step n pair past))))

-- ---- what is told in some order, where the order doesn't matter

module _ {X : Type 0} (key : X → List ℕ) (tells : X → List Told) (IsOne : X → Type 0)
    (swapped : (x y : X) → IsOne x → IsOne y → tells y ++ tells x ≡ tells x ++ tells y) where
  told_put : (x : X) (ys : List X) → IsOne x → AllByRecursion IsOne ys
      → flat_map tells (put key x ys) ≡ tells x ++ flat_map tells ys
  told_put x [] p q = refl
  told_put x (y ∷ ys) p q = go (comes_before (key y) (key x)) (told_put x ys p q.1)
    where
      go : (b : Bool) → flat_map tells (put key x ys) ≡ tells x ++ flat_map tells ys
          → flat_map tells (cond b (y ∷ put key x ys) (x ∷ y ∷ ys)) ≡ tells x ++ flat_map tells (y ∷ ys)
      go false e = refl
      go true e =
          ap (λ z. tells y ++ z) e ∙ (sym (append_assoc (tells y) (tells x) (flat_map tells ys))
          ∙ (ap (λ z. z ++ flat_map tells ys) (swapped x y p q.0)
          ∙ append_assoc (tells x) (tells y) (flat_map tells ys)))

  pub told_in_order : (xs : List X) → AllByRecursion IsOne xs
      → flat_map tells (in_order key xs) ≡ flat_map tells xs
  told_in_order [] p = refl
  told_in_order (x ∷ xs) p =
      told_put x (in_order key xs) p.0 (all_in_order (key_before key) IsOne xs p.1)
      ∙ ap (λ z. tells x ++ z) (told_in_order xs p.1)

-- ---- what is told where something is

abbrev pub told_if_any : ℕ → Past → Option Output → List Told
told_if_any n place None = []
told_if_any n place (Some output) = told_by_output n place output

pub told_filter_map : (n : ℕ) (place : Past) (g : Invocation → Option Output) (is : List Invocation)
    → told n place (filter_map g is) ≡ flat_map (λ i. told_if_any n place (g i)) is
told_filter_map n place g [] = refl
told_filter_map n place g (i ∷ is) = go (g i) (told_filter_map n place g is)
  where
    rest : List Told
    rest = flat_map (λ i. told_if_any n place (g i)) is

    go : (o : Option Output) → told n place (filter_map g is) ≡ rest
        → told n place (cons_option o (filter_map g is)) ≡ told_if_any n place o ++ rest
    go None e = e
    go (Some output) e = ap (λ z. told_by_output n place output ++ z) e

-- ---- the end of a dialogue

module _ (n : ℕ) (place past : Past) (dialogue : ℕ) (items : List Item) where
  abbrev pub ended_told : Invocation → List Told
  ended_told i = told_if_any n place (ended_of dialogue past items i)

  ended_others : (i : Invocation) → (i.number == n) ≡ false → ended_told i ≡ []
  ended_others i e = go ((i.dialogue == dialogue)
      && is_none (first_closing i.class i.timeout (marks_up_to past items i)))
    where
      go : (b : Bool) → told_if_any n place (cond b
          (Some (Output.component (ComponentIndication.closed dialogue i.number i.id Closing.ended))) None) ≡ []
      go true = rw e refl
      go false = refl

  pub ended_number : (start : Start) → AreReplies start past
      → told n place (ended_in dialogue past items) ≡ told_one ended_told (invocation_of n past)
  ended_number start legal =
      told_filter_map n place (ended_of dialogue past items) (invocations past)
      ∙ gathered_number n ended_told ended_others start past legal

-- ---- lapses

module _ (n : ℕ) (place past : Past) where
  abbrev pub lapse : Lapsing → List Told
  lapse l = told_by_output n place (lapse_told l)

  abbrev IsOne : Lapsing → Type 0
  IsOne l = IsFound past l.invocation

  swapped : (x y : Lapsing) → IsOne x → IsOne y → lapse y ++ lapse x ≡ lapse x ++ lapse y
  swapped x y p q = go (x.invocation.number == n) (y.invocation.number == n) refl refl
    where
      go : (a b : Bool) → (x.invocation.number == n) ≡ a → (y.invocation.number == n) ≡ b
          → lapse y ++ lapse x ≡ lapse x ++ lapse y
      go true true u w =
          let at_x : x.invocation.number ≡ n = grind (arith, nat_tests) in
          let at_y : y.invocation.number ≡ n = grind (arith, nat_tests) in
          let found_x : invocation_of n past ≡ Some x.invocation = ap (λ m. invocation_of m past) (sym at_x) ∙ p in
          let found_y : invocation_of n past ≡ Some y.invocation = ap (λ m. invocation_of m past) (sym at_y) ∙ q in
          let same : x.invocation ≡ y.invocation = cc in
          let equal : lapse x ≡ lapse y =
          ap (λ (i : Invocation). told_by_output n place
          (Output.component (ComponentIndication.closed i.dialogue i.number i.id Closing.lapsed))) same in
          ap (λ z. lapse y ++ z) equal ∙ ap (λ z. z ++ lapse y) (sym equal)
      go true false u w = rw w (sym (append-nil (lapse x)))
      go false b u w = rw u (append-nil (lapse y))

  abbrev pub lapse_if_any : Option Lapsing → List Told
  lapse_if_any None = []
  lapse_if_any (Some l) = lapse l

  module _ (now : ℕ) where
    each_lapsing : (is : List Invocation) → AllByRecursion (IsFound past) is
        → AllByRecursion IsOne (filter_map (lapsing_at past now) is)
    each_lapsing [] p = tt
    each_lapsing (i ∷ is) p = go (is_sent_in i.class i.timeout (span i past)) (deadline i past) (each_lapsing is p.1)
      where
        rest : List Lapsing
        rest = filter_map (lapsing_at past now) is

        one : (b : Bool) (t : ℕ) → AllByRecursion IsOne rest
            → AllByRecursion IsOne (cons_option (cond b (Some (record { deadline = t; invocation = i })) None) rest)
        one true t q = (p.0, q)
        one false t q = q

        go : (b : Bool) (o : Option ℕ) → AllByRecursion IsOne rest
            → AllByRecursion IsOne (cons_option (lapsing_by now b i o) rest)
        go b None q = q
        go b (Some t) q = one (b && nat_le t now) t q

    abbrev pub lapse_of : Invocation → List Told
    lapse_of i = lapse_if_any (lapsing_at past now i)

    told_lapsing : (is : List Invocation) → flat_map lapse (filter_map (lapsing_at past now) is) ≡ flat_map lapse_of is
    told_lapsing [] = refl
    told_lapsing (i ∷ is) = go (lapsing_at past now i) (told_lapsing is)
      where
        go : (o : Option Lapsing) → flat_map lapse (filter_map (lapsing_at past now) is) ≡ flat_map lapse_of is
            → flat_map lapse (cons_option o (filter_map (lapsing_at past now) is))
            ≡ lapse_if_any o ++ flat_map lapse_of is
        go None e = e
        go (Some l) e = ap (λ z. lapse l ++ z) e

    lapse_others : (i : Invocation) → (i.number == n) ≡ false → lapse_of i ≡ []
    lapse_others i e = go (is_sent_in i.class i.timeout (span i past)) (deadline i past)
      where
        one : (b : Bool) (t : ℕ) → lapse_if_any (cond b (Some (record { deadline = t; invocation = i })) None) ≡ []
        one true t = rw e refl
        one false t = refl

        go : (b : Bool) (o : Option ℕ) → lapse_if_any (lapsing_by now b i o) ≡ []
        go b None = refl
        go b (Some t) = one (b && nat_le t now) t

    pub lapses_number : (start : Start) → AreReplies start past
        → told n place (lapses past now) ≡ told_one lapse_of (invocation_of n past)
    lapses_number start legal =
        flat_map-map (told_by_output n place) lapse_told
        (in_order lapse_key (filter_map (lapsing_at past now) (invocations past)))
        ∙ (told_in_order lapse_key lapse IsOne swapped (filter_map (lapsing_at past now) (invocations past))
        (each_lapsing (invocations past) (each_found start past legal))
        ∙ (told_lapsing (invocations past)
        ∙ gathered_number n lapse_of lapse_others start past legal))
