-- The dialogues of an engine that are looked up by identifier, and one of them that changes.
use Rattle.std.proofs.Common.{◌≡◌, ℕ, ◌||◌, Bool, true, false, cond, nat_eq, List, [], ◌∷◌, Option, Some, None}
use Rattle.std.proofs.Common.{filter_map, refl, sym, ap, ◌∙◌}
use Rattle.std.proofs.lemmas.Bool.{eqb-true, true≢false}
use Rattle.std.specs.List.{cons_option, list_any}
use Rattle.tcap_model.specs.Table.Dialogue.{Dialogue}
use Rattle.tcap_model.specs.Table.EngineMove.{dialogue_in, with_dialogue}

-- What is looked up under an identifier has it.
abbrev pub IsOwn : (ℕ → Option Dialogue) → Type 0
IsOwn at = (i : ℕ) (x : Dialogue) → at i ≡ Some x → x.standing.identifier ≡ i

module _ (at : ℕ → Option Dialogue) (own : IsOwn at) (d : ℕ) where
  -- The dialogue of an identifier that is listed is the one that is looked up.
  pub found-at : (ids : List ℕ) (x : Dialogue) → at d ≡ Some x → list_any (nat_eq d) ids ≡ true
      → dialogue_in d (filter_map at ids) ≡ Some x
  found-at [] x e h = absurd (true≢false (sym h))
  found-at (i ∷ ids) x e h = go (at i) refl (λ more. found-at ids x e more) (nat_eq d i) refl h
    where
      go : (o : Option Dialogue) → at i ≡ o
          → (list_any (nat_eq d) ids ≡ true → dialogue_in d (filter_map at ids) ≡ Some x) → (b : Bool)
          → nat_eq d i ≡ b → (b || list_any (nat_eq d) ids) ≡ true
          → dialogue_in d (cons_option o (filter_map at ids)) ≡ Some x
      go None q ih true b h =
          let clash : Some x ≡ None = sym e ∙ ap at (eqb-true d i b) ∙ q in absurd cc
      go None q ih false b h = ih h
      go (Some y) q ih true b h =
          let is : Some y ≡ Some x = sym q ∙ ap at (sym (eqb-true d i b)) ∙ e in
          let one : nat_eq d y.standing.identifier ≡ true = ap (nat_eq d) (own i y q) ∙ b in
          ap (λ t. cond t (Some y) (dialogue_in d (filter_map at ids))) one ∙ is
      go (Some y) q ih false b h =
          let one : nat_eq d y.standing.identifier ≡ false = ap (nat_eq d) (own i y q) ∙ b in
          ap (λ t. cond t (Some y) (dialogue_in d (filter_map at ids))) one ∙ ih h

  -- One that doesn't stand isn't found.
  pub absent-at : (ids : List ℕ) → at d ≡ None → dialogue_in d (filter_map at ids) ≡ None
  absent-at [] e = refl
  absent-at (i ∷ ids) e = go (at i) refl (absent-at ids e) (nat_eq d i) refl
    where
      go : (o : Option Dialogue) → at i ≡ o → dialogue_in d (filter_map at ids) ≡ None → (b : Bool) → nat_eq d i ≡ b
          → dialogue_in d (cons_option o (filter_map at ids)) ≡ None
      go None q ih b w = ih
      go (Some y) q ih true w =
          let clash : None ≡ Some y = sym e ∙ ap at (eqb-true d i w) ∙ q in absurd cc
      go (Some y) q ih false w =
          let one : nat_eq d y.standing.identifier ≡ false = ap (nat_eq d) (own i y q) ∙ w in
          ap (λ t. cond t (Some y) (dialogue_in d (filter_map at ids))) one ∙ ih

  -- One that changes, while all others stay.
  pub one-changes : (later : ℕ → Option Dialogue) (after : Option Dialogue) (x : Dialogue) → at d ≡ Some x
      → later d ≡ after → ((i : ℕ) → nat_eq d i ≡ false → later i ≡ at i)
      → (ids : List ℕ) → with_dialogue d after (filter_map at ids) ≡ filter_map later ids
  one-changes later after x e here others [] = refl
  one-changes later after x e here others (i ∷ ids) =
      go (at i) refl (nat_eq d i) refl (one-changes later after x e here others ids)
    where
      go : (o : Option Dialogue) → at i ≡ o → (b : Bool) → nat_eq d i ≡ b
          → with_dialogue d after (filter_map at ids) ≡ filter_map later ids
          → with_dialogue d after (cons_option o (filter_map at ids)) ≡ cons_option (later i) (filter_map later ids)
      go None q true b ih =
          let clash : Some x ≡ None = sym e ∙ ap at (eqb-true d i b) ∙ q in absurd cc
      go None q false b ih =
          ih ∙ ap (λ (o : Option Dialogue). cons_option o (filter_map later ids)) (sym (others i b ∙ q))
      go (Some y) q true b ih =
          let one : nat_eq d y.standing.identifier ≡ true = ap (nat_eq d) (own i y q) ∙ b in
          ap (λ t. cons_option (cond t after (Some y)) (with_dialogue d after (filter_map at ids))) one
          ∙ ap (λ (l : List Dialogue). cons_option after l) ih
          ∙ ap (λ (o : Option Dialogue). cons_option o (filter_map later ids)) (sym here ∙ ap later (eqb-true d i b))
      go (Some y) q false b ih =
          let one : nat_eq d y.standing.identifier ≡ false = ap (nat_eq d) (own i y q) ∙ b in
          ap (λ t. cons_option (cond t after (Some y)) (with_dialogue d after (filter_map at ids))) one
          ∙ ap (λ (l : List Dialogue). y ∷ l) ih
          ∙ ap (λ (o : Option Dialogue). cons_option o (filter_map later ids)) (sym (others i b ∙ q))
