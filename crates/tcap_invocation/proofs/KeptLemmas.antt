-- What each call keeps: the numbers stay below a number, and one component adds nothing to what is told
-- at the end of the dialogue.
use Rattle.std.proofs.Common.{◌≡◌, ℕ, ℤ, ◌+◌, ◌<◌, ◌≤◌, Bool, true, false, cond, List, [], ◌∷◌, ◌++◌, length, filter, Option, Some, None, refl, ap, arith, unwrap_or}
use Rattle.std.specs.Prelude.{is_some}
use Rattle.std.specs.List.{cons_option}
use Rattle.std.specs.Map.{lookup, remove_entry, set_value}
use Rattle.std.specs.Ordering.{int_eq}
use Rattle.tcap_component.specs.declared.problem.Kind.{Kind}
use Rattle.tcap_invocation.specs.declared.class.Class.{Class}
use Rattle.tcap_invocation.specs.declared.invocations.Invocation.{Invocation}
use Rattle.tcap_invocation.specs.declared.stage.Stage.TheVariants.{Waiting}
use Rattle.tcap_invocation.specs.Class.{Received, Consequence, class_rule}
use Rattle.tcap_invocation.specs.Class.Consequence.{result_last, result_more, error_back, rejected_result, rejected_error, rejected, not_of_the_invoke}
use Rattle.tcap_invocation.specs.Stage.{is_pending}
use Rattle.tcap_invocation.specs.Invocations.{Row, InvocationList, AllBelow, sent_at, at_stage, freed, added, sent_rows, after_sent}
use Rattle.tcap_invocation.specs.Answers.{after_consequence, rows_after, after_received, rejected_at, after_reject}
use Rattle.tcap_invocation.specs.Lapses.{after_lapse_one, after_free_due, after_lapse}
use Rattle.tcap_invocation.specs.Closing.{ended_of, ended_at, first_ended_at, without_ended, after_give_up, after_free_wait, after_close_one}
use Rattle.tcap_invocation.proofs.OrderLemmas.{entry_at-sent}
use Rattle.tcap_invocation.proofs.RemovalLemmas.{length-removed}

-- ---- all numbers are below a number

module _ (number : ℕ) where
  pub AllBelow-remove_entry : (test : ℤ → Bool) (rows : List Row) → AllBelow number rows → AllBelow number (remove_entry test rows)
  AllBelow-remove_entry test [] h = tt
  AllBelow-remove_entry test (r ∷ rs) h =
      elim (test r.0) as (λ b. AllBelow number (cond b rs (r ∷ remove_entry test rs))) [ true ↦ h.1 | false ↦ (h.0, AllBelow-remove_entry test rs h.1) ]

  pub AllBelow-set_value : (test : ℤ → Bool) (w : Invocation) (rows : List Row) → w.number < number → AllBelow number rows → AllBelow number (set_value test rows w)
  AllBelow-set_value test w [] below h = tt
  AllBelow-set_value test w (r ∷ rs) below h =
      elim (test r.0) as (λ b. AllBelow number (cond b ((r.0, w) ∷ rs) (r ∷ set_value test rs w))) [ true ↦ (below, h.1) | false ↦ (h.0, AllBelow-set_value test w rs below h.1) ]

  pub AllBelow-filter : (p : Row → Bool) (rows : List Row) → AllBelow number rows → AllBelow number (filter p rows)
  AllBelow-filter p [] h = tt
  AllBelow-filter p (r ∷ rs) h =
      elim (p r) as (λ b. AllBelow number (cond b (r ∷ filter p rs) (filter p rs))) [ true ↦ (h.0, AllBelow-filter p rs h.1) | false ↦ AllBelow-filter p rs h.1 ]

  pub AllBelow-sent_rows : (clock : ℕ) (rows : List Row) → AllBelow number rows → AllBelow number (sent_rows clock rows)
  AllBelow-sent_rows clock [] h = tt
  AllBelow-sent_rows clock (r ∷ rs) h = (h.0, AllBelow-sent_rows clock rs h.1)

  pub AllBelow-push : (rows : List Row) (r : Row) → r.1.number < number → AllBelow number rows → AllBelow number (rows ++ r ∷ [])
  AllBelow-push [] r below h = (below, tt)
  AllBelow-push (x ∷ xs) r below h = (h.0, AllBelow-push xs r below h.1)

  pub AllBelow-more : (more : ℕ) (rows : List Row) → number ≤ more → AllBelow number rows → AllBelow more rows
  AllBelow-more more [] le h = tt
  AllBelow-more more (r ∷ rs) le h = (let first = h.0 in omega (arith, first, le), AllBelow-more more rs le h.1)

  -- an entry of the rows is below the number
  pub AllBelow-lookup : (test : ℤ → Bool) (rows : List Row) (e : Invocation) → lookup test rows ≡ Some e → AllBelow number rows → e.number < number
  AllBelow-lookup test [] e found h = absurd cc
  AllBelow-lookup test (r ∷ rs) e found h = go (test r.0) found (λ q. AllBelow-lookup test rs e q h.1)
    where
      here : Some r.1 ≡ Some e → e.number < number
      here q = let same : r.1.number ≡ e.number = ap (λ o. (unwrap_or o e).number) q in let first : r.1.number < number = h.0 in omega (arith, first, same)

      go : (b : Bool) → cond b (Some r.1) (lookup test rs) ≡ Some e → (lookup test rs ≡ Some e → e.number < number) → e.number < number
      go true q rest = here q
      go false q rest = rest q

  -- ---- call by call

  module _ (list : InvocationList) (below : AllBelow number list.rows) where
    pub AllBelow-freed : (id : ℤ) (b : Bool) → AllBelow number (freed list id b).rows
    AllBelow-freed id true = AllBelow-remove_entry (int_eq id) list.rows below
    AllBelow-freed id false = below

    pub AllBelow-after_received : (id : ℤ) (received : Received) (clock : ℕ) → AllBelow number (after_received list id received clock).rows
    AllBelow-after_received id received clock = go (sent_at list.rows id) refl
      where
        waits : (e : Invocation) (until : ℕ) → sent_at list.rows id ≡ Some e → AllBelow number (at_stage list.rows id e (Waiting until))
        waits e until q = AllBelow-set_value (int_eq id) (record e { stage = Waiting until }) list.rows (AllBelow-lookup (int_eq id) list.rows e (entry_at-sent list.rows id e q) below) below

        by : (c : Consequence) (e : Invocation) (until : ℕ) → sent_at list.rows id ≡ Some e → AllBelow number (after_consequence c list.rows id e until)
        by result_last e until q = waits e until q
        by result_more e until q = below
        by error_back e until q = waits e until q
        by rejected_result e until q = AllBelow-remove_entry (int_eq id) list.rows below
        by rejected_error e until q = AllBelow-remove_entry (int_eq id) list.rows below
        by rejected e until q = AllBelow-remove_entry (int_eq id) list.rows below
        by not_of_the_invoke e until q = below

        go : (o : Option Invocation) → sent_at list.rows id ≡ o → AllBelow number (rows_after o received list.rows id (clock + list.reject_ms))
        go None q = below
        go (Some e) q = by (class_rule e.class received) e (clock + list.reject_ms) q

    pub AllBelow-after_reject : (id : ℤ) (kind : Kind) → AllBelow number (after_reject list id kind).rows
    AllBelow-after_reject id kind = AllBelow-freed id (is_some (rejected_at list.rows id kind))

    pub AllBelow-after_give_up : (id : ℤ) → AllBelow number (after_give_up list id).rows
    AllBelow-after_give_up id = AllBelow-freed id _

    pub AllBelow-after_free_wait : (id : ℤ) → AllBelow number (after_free_wait list id).rows
    AllBelow-after_free_wait id = AllBelow-freed id _

    pub AllBelow-after_lapse_one : (id : ℤ) (clock : ℕ) → AllBelow number (after_lapse_one list id clock).rows
    AllBelow-after_lapse_one id clock = AllBelow-freed id _

    pub AllBelow-after_lapse : (clock : ℕ) → AllBelow number (after_lapse list clock).rows
    AllBelow-after_lapse clock = AllBelow-filter _ list.rows below

    pub AllBelow-after_free_due : (clock : ℕ) → AllBelow number (after_free_due list clock).rows
    AllBelow-after_free_due clock = AllBelow-filter _ list.rows below

    pub AllBelow-after_sent : (clock : ℕ) → AllBelow number (after_sent list clock).rows
    AllBelow-after_sent clock = AllBelow-sent_rows clock list.rows below

    pub AllBelow-after_close_one : AllBelow number (after_close_one list).rows
    AllBelow-after_close_one = go (first_ended_at list.rows)
      where
        go : (o : Option (ℕ × ℤ)) → AllBelow number (without_ended list o).rows
        go None = below
        go (Some e) = AllBelow-remove_entry (int_eq e.1) list.rows below

    pub AllBelow-added : (id : ℤ) (new : ℕ) (class : Class) (timeout : ℕ) → new < number → AllBelow number (added list id new class timeout).rows
    AllBelow-added id new class timeout less = AllBelow-push list.rows _ less below

-- ---- what is told at the end of the dialogue grows by no component

ended-set : (test : ℤ → Bool) (w : Invocation) (rows : List Row) → is_pending w.stage ≡ false → length (ended_at (set_value test rows w)) ≤ length (ended_at rows)
ended-set test w [] over = omega arith
ended-set test w (r ∷ rs) over = go (test r.0) (ended-set test w rs over)
  where
    more : (o : Option (ℕ × ℤ)) → length (ended_at rs) ≤ length (cons_option o (ended_at rs))
    more None = omega arith
    more (Some e) = omega arith

    kept : (o : Option (ℕ × ℤ)) → length (ended_at (set_value test rs w)) ≤ length (ended_at rs) → length (cons_option o (ended_at (set_value test rs w))) ≤ length (cons_option o (ended_at rs))
    kept None h = h
    kept (Some e) h = omega (arith, h)

    go : (b : Bool) → length (ended_at (set_value test rs w)) ≤ length (ended_at rs) → length (ended_at (cond b ((r.0, w) ∷ rs) (r ∷ set_value test rs w))) ≤ length (ended_at (r ∷ rs))
    go true h = rw over (more (ended_of r))
    go false h = kept (ended_of r) h

module _ (list : InvocationList) where
  ended-freed : (id : ℤ) (b : Bool) → length (ended_at (freed list id b).rows) ≤ length (ended_at list.rows)
  ended-freed id true = length-removed ended_of (int_eq id) list.rows
  ended-freed id false = omega arith

  pub ended_at-after_reject : (id : ℤ) (kind : Kind) → length (ended_at (after_reject list id kind).rows) ≤ length (ended_at list.rows)
  ended_at-after_reject id kind = ended-freed id (is_some (rejected_at list.rows id kind))

  pub ended_at-after_received : (id : ℤ) (received : Received) (clock : ℕ) → length (ended_at (after_received list id received clock).rows) ≤ length (ended_at list.rows)
  ended_at-after_received id received clock = go (sent_at list.rows id)
    where
      by : (c : Consequence) (e : Invocation) (until : ℕ) → length (ended_at (after_consequence c list.rows id e until)) ≤ length (ended_at list.rows)
      by result_last e until = ended-set (int_eq id) (record e { stage = Waiting until }) list.rows refl
      by result_more e until = omega arith
      by error_back e until = ended-set (int_eq id) (record e { stage = Waiting until }) list.rows refl
      by rejected_result e until = length-removed ended_of (int_eq id) list.rows
      by rejected_error e until = length-removed ended_of (int_eq id) list.rows
      by rejected e until = length-removed ended_of (int_eq id) list.rows
      by not_of_the_invoke e until = omega arith

      go : (o : Option Invocation) → length (ended_at (rows_after o received list.rows id (clock + list.reject_ms))) ≤ length (ended_at list.rows)
      go None = omega arith
      go (Some e) = by (class_rule e.class received) e (clock + list.reject_ms)
