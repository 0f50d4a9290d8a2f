-- The engine at a history finds each dialogue that stands, and no other.
use Rattle.std.proofs.Common.{◌≡◌, ◌≢◌, ℕ, zero, suc, ◌<◌, ◌||◌, Bool, true, false, cond, nat_eq, List, [], ◌∷◌, length}
use Rattle.std.proofs.Common.{get_or}
use Rattle.std.proofs.Common.{Option, Some, None, filter_map, refl, sym, ap, ◌∙◌, arith}
use Rattle.std.proofs.lemmas.Bool.{eq-eqb}
use Rattle.std.specs.Prelude.{filter}
use Rattle.std.specs.List.{cons_option, list_any}
use Rattle.tcap_laws.proofs.Births.DrawnDialogues.{was_born-listed, was_born-lives}
use Rattle.tcap_laws.proofs.Engine.TableLookup.{IsOwn, found-at, absent-at}
use Rattle.tcap_model.specs.Histories.Birth.{dialogues, next_dialogue}
use Rattle.tcap_model.specs.Histories.History.{History}
use Rattle.tcap_model.specs.Histories.Life.{Life, is_standing, life, live_in}
use Rattle.tcap_model.specs.Histories.Pair.{Past}
use Rattle.tcap_model.specs.Replies.Due.{birth_due}
use Rattle.tcap_model.specs.Replies.Legal.{IsLegal}
use Rattle.tcap_model.specs.Table.Dialogue.{Dialogue}
use Rattle.tcap_model.specs.Table.EngineMove.{dialogue_in, is_live_if_any, is_live_in, birth_fault_in}
use Rattle.tcap_model.specs.Table.World.{dialogue_at, dialogue_by, world_of}
use Rattle.tcap_model.specs.Words.Identifiers.{birth_fault}

-- ---- the dialogue of an identifier

own_by : (r m : ℕ) (past : Past) (i : ℕ) (l : Life) (x : Dialogue) → dialogue_by r m i past l ≡ Some x
    → x.standing.identifier ≡ i
own_by r m past i Life.unborn x e = absurd cc
own_by r m past i (Life.standing state context) x e = sym (ap identifier e)
  where
    identifier : Option Dialogue → ℕ
    identifier None = i
    identifier (Some d) = d.standing.identifier
own_by r m past i Life.over x e = absurd cc

pub own-at : (r m : ℕ) (past : Past) → IsOwn (dialogue_at r m past)
own-at r m past i x e = own_by r m past i (life i past) x e

contains_any : (d : ℕ) (ids : List ℕ) (k : ℕ) → k < length ids → get_or ids k d ≡ d → list_any (nat_eq d) ids ≡ true
contains_any d [] k lt e = absurd (omega arith)
contains_any d (i ∷ ids) zero lt e = ap (λ b. b || list_any (nat_eq d) ids) (eq-eqb d i (sym e))
contains_any d (i ∷ ids) (suc k) lt e =
    ap (λ b. nat_eq d i || b) (contains_any d ids k (omega arith) e) ∙ or_true (nat_eq d i)
  where
    or_true : (b : Bool) → (b || true) ≡ true
    or_true true = refl
    or_true false = refl

lives_by : (r m : ℕ) (past : Past) (i : ℕ) (l : Life) (x : Dialogue) → dialogue_by r m i past l ≡ Some x
    → l ≢ Life.unborn
lives_by r m past i l x e = λ unborn.
    let none : None ≡ Some x = ap (dialogue_by r m i past) (sym unborn) ∙ e in absurd cc

module _ (h : History) (legal : IsLegal h) where
  -- the dialogues of the engine at the history
  abbrev standing : List Dialogue
  standing = filter_map (dialogue_at h.start.reject_ms h.start.idle_ms h.pairs) (dialogues h.pairs)

  listed : (i : ℕ) (x : Dialogue) → dialogue_at h.start.reject_ms h.start.idle_ms h.pairs i ≡ Some x
      → list_any (nat_eq i) (dialogues h.pairs) ≡ true
  listed i x e =
      let there = was_born-listed i h.pairs
      ((was_born-lives h.start h.pairs legal.1 i).1
      (lives_by h.start.reject_ms h.start.idle_ms h.pairs i (life i h.pairs) x e)) in
      contains_any i (dialogues h.pairs) there.0 there.1 there.2

  pub looked-up : (i : ℕ) (o : Option Dialogue) → dialogue_at h.start.reject_ms h.start.idle_ms h.pairs i ≡ o
      → dialogue_in i standing ≡ o
  looked-up i None e =
      absent-at (dialogue_at h.start.reject_ms h.start.idle_ms h.pairs)
      (own-at h.start.reject_ms h.start.idle_ms h.pairs) i (dialogues h.pairs) e
  looked-up i (Some x) e =
      found-at (dialogue_at h.start.reject_ms h.start.idle_ms h.pairs)
      (own-at h.start.reject_ms h.start.idle_ms h.pairs) i (dialogues h.pairs) x e (listed i x e)

  live_by : (i : ℕ) (l : Life) → is_live_if_any (dialogue_by h.start.reject_ms h.start.idle_ms i h.pairs l) ≡ live_in l
  live_by i Life.unborn = refl
  live_by i (Life.standing state context) = refl
  live_by i Life.over = refl

  pub live-alike : (i : ℕ) → is_live_in standing i ≡ live_in (life i h.pairs)
  live-alike i =
      ap is_live_if_any (looked-up i (dialogue_at h.start.reject_ms h.start.idle_ms h.pairs i) refl)
      ∙ live_by i (life i h.pairs)

-- ---- how many stand

count_alike : (r m : ℕ) (past : Past) (ids : List ℕ)
    → length (filter_map (dialogue_at r m past) ids) ≡ length (filter (λ i. is_standing (life i past)) ids)
count_alike r m past [] = refl
count_alike r m past (i ∷ ids) = go (life i past) (count_alike r m past ids)
  where
    go : (l : Life) → length (filter_map (dialogue_at r m past) ids) ≡ length
        (filter (λ i. is_standing (life i past)) ids)
        → length (cons_option (dialogue_by r m i past l) (filter_map (dialogue_at r m past) ids))
        ≡ length (cond (is_standing l) (i ∷ filter (λ i. is_standing (life i past)) ids)
        (filter (λ i. is_standing (life i past)) ids))
    go Life.unborn e = e
    go (Life.standing state context) e = ap suc e
    go Life.over e = e

pub births-alike : (h : History) → birth_fault_in (world_of h) ≡ birth_due h
births-alike h =
    ap (λ n. birth_fault h.start.max_dialogues n (next_dialogue h))
    (count_alike h.start.reject_ms h.start.idle_ms h.pairs (dialogues h.pairs))
