-- What the dialogues tell at a moment, in order, are the lapses of the history.
use Rattle.std.proofs.Common.{◌≡◌, ◌≢◌, ◌≤◌, ◌<◌, ℕ, ◌+◌, ◌==◌, ◌&&◌, Bool, true, false, cond, nat_le, List, [], ◌∷◌}
use Rattle.std.proofs.Common.{◌++◌, map, get_or, Contains, refl, sym, ap, ◌∙◌, arith}
use Rattle.std.proofs.Common.{Option, Some, None}
use Rattle.std.proofs.lemmas.Bool.{eqb-true, true≢false}
use Rattle.std.proofs.lemmas.List.FromFn.{length-range_with_len, get_or-range_with_len}
use Rattle.std.specs.Prelude.{filter, filter_map, option_map}
use Rattle.std.specs.List.{AllByRecursion, cons_option, flat_map, range_with_len}
use Rattle.tcap_laws.proofs.Births.DrawnDialogues.{dialogues-drawn, was_born-listed, was_born-lives}
use Rattle.tcap_laws.proofs.Decisions.OpenReplies.{found_alive}
use Rattle.tcap_laws.proofs.Decisions.ToldInvocations.{IsFound, each_found}
use Rattle.tcap_laws.proofs.Engine.DueRows.{due_of, due_by_marks, due_there, due-by_rows, fallen_stays}
use Rattle.tcap_laws.proofs.Engine.GroupedOrder.{grouped-in_order}
use Rattle.tcap_laws.proofs.Rows.InvocationsLeft.{same_kept}
use Rattle.tcap_laws.proofs.Spans.MarksAfterBirth.{was_alive}
use Rattle.tcap_model.specs.Histories.Birth.{births, dialogues}
use Rattle.tcap_model.specs.Histories.History.{Start}
use Rattle.tcap_model.specs.Histories.Life.{Life, is_standing, life}
use Rattle.tcap_model.specs.Histories.Pair.{Past}
use Rattle.tcap_model.specs.Invocations.Deadline.{deadline}
use Rattle.tcap_model.specs.Invocations.Invocation.{Invocation, invocations}
use Rattle.tcap_model.specs.Invocations.Outcome.{is_sent_in}
use Rattle.tcap_model.specs.Invocations.Span.{span}
use Rattle.tcap_model.specs.Replies.Legal.{AreReplies}
use Rattle.tcap_model.specs.Replies.Reply.{Lapsing, lapse_key, lapsing_by, lapsing_at, lapse_told, lapses}
use Rattle.tcap_model.specs.Table.DueLapses.{DueLapse, due_key, due_told, all_due, all_told}
use Rattle.tcap_model.specs.Table.World.{dialogue_at, dialogue_by}
use Rattle.tcap_model.specs.Words.KeyOrder.{comes_before, put, in_order}

-- ---- lists

each_made : {X Y : Type 0} (P : X → Type 0) (Q : Y → Type 0) (f : X → Option Y)
    → ((x : X) (y : Y) → P x → f x ≡ Some y → Q y)
    → (xs : List X) → AllByRecursion P xs → AllByRecursion Q (filter_map f xs)
each_made P Q f step [] all = tt
each_made {Y = Y} P Q f step (x ∷ xs) all = go (f x) refl (each_made P Q f step xs all.1)
  where
    go : (o : Option Y) → f x ≡ o → AllByRecursion Q (filter_map f xs)
        → AllByRecursion Q (cons_option o (filter_map f xs))
    go None e rest = rest
    go (Some y) e rest = (step x y all.0 e, rest)

abbrev no_due : Invocation → Option DueLapse
no_due i = None

none_made : (is : List Invocation) → filter_map no_due is ≡ []
none_made [] = refl
none_made (i ∷ is) = none_made is

-- ---- lapses as what is due

put_made : (x : Lapsing) (ys : List Lapsing) → put due_key (due_of x) (map due_of ys) ≡ map due_of (put lapse_key x ys)
put_made x [] = refl
put_made x (y ∷ ys) = go (comes_before (lapse_key y) (lapse_key x)) (put_made x ys)
  where
    go : (b : Bool) → put due_key (due_of x) (map due_of ys) ≡ map due_of (put lapse_key x ys)
        → cond b (due_of y ∷ put due_key (due_of x) (map due_of ys)) (due_of x ∷ due_of y ∷ map due_of ys)
        ≡ map due_of (cond b (y ∷ put lapse_key x ys) (x ∷ y ∷ ys))
    go true ih = ap (λ z. due_of y ∷ z) ih
    go false ih = refl

ordered_made : (ls : List Lapsing) → in_order due_key (map due_of ls) ≡ map due_of (in_order lapse_key ls)
ordered_made [] = refl
ordered_made (l ∷ ls) = ap (put due_key (due_of l)) (ordered_made ls) ∙ put_made l (in_order lapse_key ls)

told_made : (ls : List Lapsing) → map due_told (map due_of ls) ≡ map lapse_told ls
told_made [] = refl
told_made (l ∷ ls) = ap (λ z. lapse_told l ∷ z) (told_made ls)

apart : (x y : DueLapse) → (x.dialogue ≡ y.dialogue → ⊥) → due_key x ≡ due_key y → ⊥
apart x y different same = different (ap (λ (key : List ℕ). get_or key 1 0) same)

module _ (start : Start) (past : Past) (legal : AreReplies start past) (now : ℕ) where
  -- what is due of all invocations, by their marks
  abbrev dues : List DueLapse
  dues = filter_map (due_by_marks past now) (invocations past)

  abbrev of_dialogue : ℕ → List DueLapse
  of_dialogue d = filter (λ x. x.dialogue == d) dues

  dues_are : (is : List Invocation) → filter_map (due_by_marks past now) is ≡ map due_of
      (filter_map (lapsing_at past now) is)
  dues_are [] = refl
  dues_are (i ∷ is) = go (lapsing_at past now i) (dues_are is)
    where
      go : (o : Option Lapsing) → filter_map (due_by_marks past now) is ≡ map due_of
          (filter_map (lapsing_at past now) is)
          → cons_option (option_map due_of o) (filter_map (due_by_marks past now) is) ≡ map due_of
          (cons_option o (filter_map (lapsing_at past now) is))
      go None e = e
      go (Some l) e = ap (λ z. due_of l ∷ z) e

  dues_told : map due_told (in_order due_key dues) ≡ lapses past now
  dues_told =
      let ls = filter_map (lapsing_at past now) (invocations past) in
      ap (λ z. map due_told (in_order due_key z)) (dues_are (invocations past))
      ∙ (ap (map due_told) (ordered_made ls) ∙ told_made (in_order lapse_key ls))

  -- ---- one dialogue

  there_are : (d : ℕ) (is : List Invocation)
      → filter_map (due_there past now d) is ≡ filter (λ x. x.dialogue == d) (filter_map (due_by_marks past now) is)
  there_are d [] = refl
  there_are d (i ∷ is) = go (is_sent_in i.class i.timeout (span i past)) (deadline i past) (there_are d is)
    where
      some : List DueLapse
      some = filter_map (due_there past now d) is

      all : List DueLapse
      all = filter_map (due_by_marks past now) is

      none : (b : Bool) → some ≡ filter (λ x. x.dialogue == d) all
          → cons_option (cond b None None) some ≡ filter (λ x. x.dialogue == d) all
      none true e = e
      none false e = e

      here : (l : DueLapse) (b : Bool) → some ≡ filter (λ x. x.dialogue == d) all
          → cons_option (cond b (Some l) None) some ≡ cond b (l ∷ filter (λ x. x.dialogue == d) all)
          (filter (λ x. x.dialogue == d) all)
      here l true e = ap (λ z. l ∷ z) e
      here l false e = e

      one : (t : ℕ) (c : Bool) → some ≡ filter (λ x. x.dialogue == d) all
          → cons_option (cond (i.dialogue == d)
          (option_map due_of (cond c (Some (record { deadline = t; invocation = i })) None)) None) some
          ≡ filter (λ x. x.dialogue == d)
          (cons_option (option_map due_of (cond c (Some (record { deadline = t; invocation = i })) None)) all)
      one t true e = here (due_of (record { deadline = t; invocation = i })) (i.dialogue == d) e
      one t false e = none (i.dialogue == d) e

      go : (sent : Bool) (o : Option ℕ) → some ≡ filter (λ x. x.dialogue == d) all
          → cons_option (cond (i.dialogue == d) (option_map due_of (lapsing_by now sent i o)) None) some
          ≡ filter (λ x. x.dialogue == d) (cons_option (option_map due_of (lapsing_by now sent i o)) all)
      go sent None e = none (i.dialogue == d) e
      go sent (Some t) e = one t (sent && nat_le t now) e

  none_there : (d : ℕ) → is_standing (life d past) ≡ false → of_dialogue d ≡ []
  none_there d fallen =
      sym (there_are d (invocations past))
      ∙ (same_kept (IsFound past) (due_there past now d) no_due (λ i found. one i found (i.dialogue == d) refl)
      (invocations past) (each_found start past legal)
      ∙ none_made (invocations past))
    where
      one : (i : Invocation) → IsFound past i → (b : Bool) → (i.dialogue == d) ≡ b
          → cond b (due_by_marks past now i) None ≡ no_due i
      one i found true e =
          fallen_stays start past legal now i found
          (ap (λ k. is_standing (life k past)) (eqb-true i.dialogue d e) ∙ fallen)
      one i found false e = refl

  -- ---- all dialogues

  module _ (reject_ms idle_ms : ℕ) where
    all_are : (ids : List ℕ) → all_due now (filter_map (dialogue_at reject_ms idle_ms past) ids)
        ≡ flat_map of_dialogue ids
    all_are [] = refl
    all_are (d ∷ ids) = go (life d past) refl (all_are ids)
      where
        rest : List DueLapse
        rest = flat_map of_dialogue ids

        go : (l : Life) → life d past ≡ l → all_due now (filter_map (dialogue_at reject_ms idle_ms past) ids) ≡ rest
            → all_due now (cons_option (dialogue_by reject_ms idle_ms d past l)
            (filter_map (dialogue_at reject_ms idle_ms past) ids))
            ≡ of_dialogue d ++ rest
        go Life.unborn e ih = ih ∙ sym (ap (λ z. z ++ rest) (none_there d (ap is_standing e)))
        go (Life.standing state context) e ih =
            ap (λ z. z ++ all_due now (filter_map (dialogue_at reject_ms idle_ms past) ids))
            (due-by_rows start past legal now reject_ms d ∙ there_are d (invocations past))
            ∙ ap (λ z. of_dialogue d ++ z) ih
        go Life.over e ih = ih ∙ sym (ap (λ z. z ++ rest) (none_there d (ap is_standing e)))

    within : (i : Invocation) → IsFound past i → (start.next_dialogue ≤ i.dialogue)
        × (i.dialogue < start.next_dialogue + births past)
    within i found =
        let lives : life i.dialogue past ≢ Life.unborn =
        λ unborn. true≢false (sym (found_alive start past i.number i legal found) ∙ ap was_alive unborn) in
        let there : Contains (dialogues past) i.dialogue =
        was_born-listed i.dialogue past ((was_born-lives start past legal i.dialogue).1 lives) in
        let drawn : Contains (range_with_len start.next_dialogue (births past)) i.dialogue =
        rw (dialogues-drawn start past legal) at there in
        let long = length-range_with_len start.next_dialogue (births past) in
        let few = drawn.1 in
        let same = drawn.2 in
        let is = get_or-range_with_len start.next_dialogue (births past) drawn.0 i.dialogue
        (omega (arith, long, few)) in
        (omega (arith, is, same), omega (arith, is, same, long, few))

    each_within : AllByRecursion (λ x. (start.next_dialogue ≤ x.dialogue)
        × (x.dialogue < start.next_dialogue + births past)) dues
    each_within =
        each_made (IsFound past) (λ x. (start.next_dialogue ≤ x.dialogue)
        × (x.dialogue < start.next_dialogue + births past)) (due_by_marks past now) step (invocations past)
        (each_found start past legal)
      where
        step : (i : Invocation) (x : DueLapse) → IsFound past i → due_by_marks past now i ≡ Some x
            → (start.next_dialogue ≤ x.dialogue) × (x.dialogue < start.next_dialogue + births past)
        step i x found e = go (is_sent_in i.class i.timeout (span i past)) (deadline i past) e
          where
            one : (t : ℕ) (c : Bool) → option_map due_of
                (cond c (Some (record { deadline = t; invocation = i })) None) ≡ Some x
                → (start.next_dialogue ≤ x.dialogue) × (x.dialogue < start.next_dialogue + births past)
            one t true e =
                let same : due_of (record { deadline = t; invocation = i }) ≡ x = cc in
                let owner : i.dialogue ≡ x.dialogue = ap (λ (l : DueLapse). l.dialogue) same in
                let both = within i found in
                let low = both.0 in
                let high = both.1 in
                (omega (arith, owner, low), omega (arith, owner, high))
            one t false e = absurd cc

            go : (sent : Bool) (o : Option ℕ) → option_map due_of (lapsing_by now sent i o) ≡ Some x
                → (start.next_dialogue ≤ x.dialogue) × (x.dialogue < start.next_dialogue + births past)
            go sent None e = absurd cc
            go sent (Some t) e = one t (sent && nat_le t now) e

    pub lapses-alike : all_told now (filter_map (dialogue_at reject_ms idle_ms past) (dialogues past)) ≡ lapses past now
    lapses-alike =
        ap (λ z. map due_told (in_order due_key z))
        (all_are (dialogues past) ∙ ap (flat_map of_dialogue) (dialogues-drawn start past legal))
        ∙ (ap (map due_told) (grouped-in_order due_key (λ (x : DueLapse). x.dialogue) apart dues start.next_dialogue
        (births past) each_within)
        ∙ dues_told)
