-- What the dialogues that were idle too long tell at a moment, in order, is what the history says.
use Rattle.std.proofs.Common.{◌≡◌, ℕ, ◌&&◌, Bool, true, false, cond, List, [], ◌∷◌, ◌++◌, Option, Some, refl, sym, ap, ◌∙◌}
use Rattle.std.specs.Prelude.{filter, filter_map}
use Rattle.std.specs.List.{AllByRecursion, cons_option, flat_map}
use Rattle.tcap_invocation.proofs.CallerLemmas.{all_in_order}
use Rattle.tcap_laws.proofs.Rows.EndsAtMoments.{ended-at-moment}
use Rattle.tcap_model.specs.Histories.Birth.{dialogues}
use Rattle.tcap_model.specs.Histories.History.{Start}
use Rattle.tcap_model.specs.Histories.Life.{Life, life, touched, live_in}
use Rattle.tcap_model.specs.Histories.Pair.{Past}
use Rattle.tcap_model.specs.Replies.Due.{standing_of}
use Rattle.tcap_model.specs.Replies.Legal.{AreReplies}
use Rattle.tcap_model.specs.Replies.Reply.{is_idle_by, idle_dialogues, idle_key as key_said, idle_told as told_said}
use Rattle.tcap_model.specs.Table.Dialogue.{Dialogue, is_idle_at}
use Rattle.tcap_model.specs.Table.DueLapses.{table_idle_key, table_idle_told, all_idle_told}
use Rattle.tcap_model.specs.Table.World.{dialogue_at, dialogue_by, rows_of}
use Rattle.tcap_model.specs.Words.KeyOrder.{comes_before, key_before, put, in_order}
use Rattle.tcap_model.specs.Words.Output.{Output, AbortCause, DialogueIndication}
use Rattle.tcap_model.specs.Words.State.{State, is_live}
use Rattle.tcap_model.specs.Words.Time.{is_idle}
use Rattle.tcap_model.specs.Histories.Kept.{kept_address}

-- ---- what is made of each, in order

module _ {X Y Z : Type 0} (at : X → Option Y) (key : X → List ℕ) (key_made : Y → List ℕ) (say : X → List Z)
    (say_made : Y → List Z) where
  -- one is made, which has the same key and says the same
  record IsMade (x : X) : Type 0 where
    made : Y
    is_made : at x ≡ Some made
    is_key : key_made made ≡ key x
    is_said : say_made made ≡ say x

  put_made : (x : X) (xs : List X) (one : IsMade x) → AllByRecursion IsMade xs
      → put key_made one.made (filter_map at xs) ≡ filter_map at (put key x xs)
  put_made x [] one all = sym (ap (λ o. cons_option o []) one.is_made)
  put_made x (z ∷ xs) one all =
      ap (λ o. put key_made one.made (cons_option o (filter_map at xs))) all.0.is_made
      ∙ (ap (λ b. cond b (all.0.made ∷ put key_made one.made (filter_map at xs))
      (one.made ∷ all.0.made ∷ filter_map at xs))
      (ap (λ k. comes_before k (key_made one.made)) all.0.is_key ∙ ap (comes_before (key z)) one.is_key)
      ∙ go (comes_before (key z) (key x)) (put_made x xs one all.1))
    where
      go : (b : Bool) → put key_made one.made (filter_map at xs) ≡ filter_map at (put key x xs)
          → cond b (all.0.made ∷ put key_made one.made (filter_map at xs))
          (one.made ∷ all.0.made ∷ filter_map at xs) ≡ filter_map at (cond b (z ∷ put key x xs) (x ∷ z ∷ xs))
      go true ih =
          ap (λ l. all.0.made ∷ l) ih
          ∙ ap (λ o. cons_option o (filter_map at (put key x xs))) (sym all.0.is_made)
      go false ih =
          ap (λ o. cons_option (Some one.made) (cons_option o (filter_map at xs))) (sym all.0.is_made)
          ∙ ap (λ o. cons_option o (filter_map at (z ∷ xs))) (sym one.is_made)

  order_made : (xs : List X) → AllByRecursion IsMade xs
      → in_order key_made (filter_map at xs) ≡ filter_map at (in_order key xs)
  order_made [] all = refl
  order_made (x ∷ xs) all =
      ap (λ o. in_order key_made (cons_option o (filter_map at xs))) all.0.is_made
      ∙ (ap (put key_made all.0.made) (order_made xs all.1)
      ∙ put_made x (in_order key xs) all.0 (all_in_order (key_before key) IsMade xs all.1))

  say_all : (xs : List X) → AllByRecursion IsMade xs → flat_map say_made (filter_map at xs) ≡ flat_map say xs
  say_all [] all = refl
  say_all (x ∷ xs) all =
      ap (λ o. flat_map say_made (cons_option o (filter_map at xs))) all.0.is_made
      ∙ (ap (λ l. l ++ flat_map say_made (filter_map at xs)) all.0.is_said
      ∙ ap (λ l. say x ++ l) (say_all xs all.1))

  said-in_order : (xs : List X) → AllByRecursion IsMade xs
      → flat_map say_made (in_order key_made (filter_map at xs)) ≡ flat_map say (in_order key xs)
  said-in_order xs all =
      ap (flat_map say_made) (order_made xs all)
      ∙ say_all (in_order key xs) (all_in_order (key_before key) IsMade xs all)

-- ---- the dialogues

module _ (start : Start) (past : Past) (legal : AreReplies start past) (now reject_ms idle_ms : ℕ) where
  abbrev at : ℕ → Option Dialogue
  at dialogue = dialogue_at reject_ms idle_ms past dialogue

  -- a dialogue that stands
  abbrev stood : ℕ → State → Option (List ℕ) → Dialogue
  stood dialogue state context =
      record {
        standing = standing_of dialogue past state context;
        invocations = record { reject_ms = reject_ms; rows = rows_of reject_ms dialogue past };
        idle_ms = idle_ms;
        touched = touched dialogue past;
        kept = kept_address dialogue past;
      }

  abbrev idle : List ℕ → List ℕ
  idle ids = filter (is_idle_by idle_ms past now) ids

  -- those that were idle too long by what the dialogues keep did so by the history
  filtered : (ids : List ℕ) → filter (is_idle_at now) (filter_map at ids) ≡ filter_map at (idle ids)
  filtered [] = refl
  filtered (i ∷ ids) = go (life i past) refl (filtered ids)
    where
      kept : (d : Dialogue) (b : Bool) → at i ≡ Some d
          → filter (is_idle_at now) (filter_map at ids) ≡ filter_map at (idle ids)
          → cond b (d ∷ filter (is_idle_at now) (filter_map at ids)) (filter (is_idle_at now) (filter_map at ids))
          ≡ filter_map at (cond b (i ∷ idle ids) (idle ids))
      kept d true e ih = ap (λ l. d ∷ l) ih ∙ ap (λ o. cons_option o (filter_map at (idle ids))) (sym e)
      kept d false e ih = ih

      go : (l : Life) → life i past ≡ l
          → filter (is_idle_at now) (filter_map at ids) ≡ filter_map at (idle ids)
          → filter (is_idle_at now) (cons_option (dialogue_by reject_ms idle_ms i past l) (filter_map at ids))
          ≡ filter_map at (cond (live_in l && is_idle idle_ms (touched i past) now) (i ∷ idle ids) (idle ids))
      go Life.unborn e ih = ih
      go (Life.standing state context) e ih =
          kept (stood i state context) (is_live state && is_idle idle_ms (touched i past) now)
          (ap (dialogue_by reject_ms idle_ms i past) e) ih
      go Life.over e ih = ih

  -- each of them has its key, and tells what the history says
  abbrev Tells : ℕ → Type 0
  Tells i = IsMade at (key_said idle_ms past) table_idle_key (told_said past now) (table_idle_told now) i

  each_idle : (ids : List ℕ) → AllByRecursion Tells (idle ids)
  each_idle [] = tt
  each_idle (i ∷ ids) = go (life i past) refl (each_idle ids)
    where
      kept : (b : Bool) → Tells i → AllByRecursion Tells (idle ids)
          → AllByRecursion Tells (cond b (i ∷ idle ids) (idle ids))
      kept true one ih = (one, ih)
      kept false one ih = ih

      go : (l : Life) → life i past ≡ l → AllByRecursion Tells (idle ids)
          → AllByRecursion Tells (cond (live_in l && is_idle idle_ms (touched i past) now) (i ∷ idle ids) (idle ids))
      go Life.unborn e ih = ih
      go (Life.standing state context) e ih =
          kept (is_live state && is_idle idle_ms (touched i past) now)
          (record {
            made = stood i state context;
            is_made = ap (dialogue_by reject_ms idle_ms i past) e;
            is_key = refl;
            is_said =
                ap (λ z. Output.dialogue (DialogueIndication.p_abort i AbortCause.idle) ∷ z)
                (ended-at-moment reject_ms i now start past legal);
          }) ih
      go Life.over e ih = ih

  pub idle-alike : all_idle_told now (filter_map at (dialogues past))
      ≡ flat_map (told_said past now) (idle_dialogues idle_ms past now)
  idle-alike =
      ap (λ ds. flat_map (table_idle_told now) (in_order table_idle_key ds)) (filtered (dialogues past))
      ∙ said-in_order at (key_said idle_ms past) table_idle_key (told_said past now) (table_idle_told now) (idle (dialogues past))
      (each_idle (dialogues past))
