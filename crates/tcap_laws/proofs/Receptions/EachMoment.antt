-- A property of all that is told at a moment, shown once for all moments.
use Rattle.std.proofs.Common.{ℕ, ℤ, true, false, Bool, List, [], ◌∷◌, filter_map, ◌==◌, ◌&&◌, is_none, Some, None, if◌then◌else◌}
use Rattle.std.specs.List.{AllByRecursion, cons_option, flat_map}
use Rattle.tcap_model.specs.Histories.Pair.{Past}
use Rattle.tcap_model.specs.Invocations.Invocation.{Invocation, invocations}
use Rattle.tcap_model.specs.Invocations.Outcome.{first_closing}
use Rattle.tcap_model.specs.Replies.Reply.{Lapsing, lapse_told, lapse_key, lapsing_at, lapses, ended_at_moment, marks_up_to_moment, idle_told, idle_dialogues, moment_outputs}
use Rattle.tcap_model.specs.Words.KeyOrder.{in_order}
use Rattle.tcap_model.specs.Words.Output.{Output, AbortCause}
use Rattle.tcap_laws.proofs.ListLemmas.{each-append}
use Rattle.tcap_laws.proofs.Receptions.EachComponent.{each-map}
use Rattle.tcap_laws.proofs.Receptions.EachOutput.{told_ended, told_p_abort}

-- the property holds of a lapse, of the abort of a dialogue that was idle, and of each end
pub record HoldsAtMoments (P : Output → Type 0) : Type 0 where
  pub lapses : (l : Lapsing) → P (lapse_told l)
  pub aborts : (dialogue : ℕ) → P (told_p_abort dialogue AbortCause.idle)
  pub ends : (dialogue number : ℕ) (id : ℤ) → P (told_ended dialogue number id)

module _ (P : Output → Type 0) (holds : HoldsAtMoments P) (past : Past) (now : ℕ) where
  each-end : (dialogue : ℕ) (is : List Invocation)
      → AllByRecursion P (filter_map (ended_at_moment dialogue past now) is)
  each-end dialogue [] = tt
  each-end dialogue (i ∷ is) =
      one (filter_map (ended_at_moment dialogue past now) is) ((i.dialogue == dialogue) && still_open)
      (each-end dialogue is)
    where
      still_open : Bool
      still_open = is_none (first_closing i.class i.timeout (marks_up_to_moment past now i))

      one : (others : List Output) (test : Bool) → AllByRecursion P others
          → AllByRecursion P (cons_option (if test then Some (told_ended dialogue i.number i.id) else None) others)
      one others true all = (holds.ends dialogue i.number i.id, all)
      one others false all = all

  each-idle : (dialogues : List ℕ) → AllByRecursion P (flat_map (idle_told past now) dialogues)
  each-idle [] = tt
  each-idle (dialogue ∷ dialogues) =
      each-append P (idle_told past now dialogue) (flat_map (idle_told past now) dialogues)
      (holds.aborts dialogue, each-end dialogue (invocations past)) (each-idle dialogues)

  pub each-moment : (idle_ms : ℕ) → AllByRecursion P (moment_outputs idle_ms past now)
  each-moment idle_ms =
      each-append P (lapses past now) (flat_map (idle_told past now) (idle_dialogues idle_ms past now))
      (each-map P lapse_told holds.lapses (in_order lapse_key (filter_map (lapsing_at past now) (invocations past))))
      (each-idle (idle_dialogues idle_ms past now))
