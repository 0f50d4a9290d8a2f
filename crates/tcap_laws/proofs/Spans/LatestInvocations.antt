-- The latest invocation of an identifier is the one of its number, and one that was superseded is decided.
use Rattle.std.proofs.Common.{◌≡◌, ℕ, ℤ, ◌+◌, ◌==◌, Bool, true, false, not, cond, ◌&&◌, ◌||◌, [], ◌∷◌, Option, Some, None, refl, ap, sym, ◌∙◌, subst, arith}
use Rattle.std.proofs.lemmas.Bool.Decides.{nat_tests, Decides-int_eq}
use Rattle.std.specs.Prelude.{is_some}
use Rattle.std.specs.Option.{option_or}
use Rattle.std.specs.Ordering.{int_eq}
use Rattle.tcap_laws.proofs.Spans.DecisionSteps.{invocation_stays}
use Rattle.tcap_laws.proofs.Spans.DrawnInvocations.{draws, invocation_step, IsDrawn, number_drawn}
use Rattle.tcap_laws.proofs.Spans.SpanSteps.{reused_step, reused_new}
use Rattle.tcap_model.specs.Histories.History.{Start}
use Rattle.tcap_model.specs.Invocations.Invocation.{Invocation, invoked_by, invokes, invocation_of, has_id, with_id, latest}
use Rattle.tcap_model.specs.Replies.Legal.{AreReplies}
use Rattle.tcap_model.specs.Histories.Pair.{Pair, Past}
use Rattle.tcap_model.specs.Invocations.Reuse.{is_reused}
use Rattle.tcap_model.specs.Invocations.Span.{is_invoked}
use Rattle.tcap_model.specs.Table.World.{is_number}

-- ---- identifiers

pub id_of : (dialogue : ℕ) (id : ℤ) (i : Invocation) → has_id dialogue id i ≡ true
    → (i.dialogue ≡ dialogue) × (i.id ≡ id)
id_of dialogue id i e = go (i.dialogue == dialogue) (int_eq i.id id) refl refl e
  where
    go : (a b : Bool) → (i.dialogue == dialogue) ≡ a → int_eq i.id id ≡ b → (a && b) ≡ true
        → (i.dialogue ≡ dialogue) × (i.id ≡ id)
    go true true p q e = (grind (arith, nat_tests), (Decides-int_eq i.id id).0 q)
    go true false p q e = absurd cc
    go false b p q e = absurd cc

pub has_own_id : (i : Invocation) → has_id i.dialogue i.id i ≡ true
has_own_id i =
    let d : (i.dialogue == i.dialogue) ≡ true = grind (arith, nat_tests) in
    let k : int_eq i.id i.id ≡ true = (Decides-int_eq i.id i.id).1 refl in
    rw (d, k) refl

pub own_number : (i : Invocation) → (i.number == i.number) ≡ true
own_number i = grind (arith, nat_tests)

-- ---- the latest invocation

-- the latest invocation of an identifier of a dialogue, under its number
pub record IsLatest (dialogue : ℕ) (id : ℤ) (past : Past) (i : Invocation) : Type 0 where
  pub dialogue_is : i.dialogue ≡ dialogue
  pub id_is : i.id ≡ id
  pub is_found : invocation_of i.number past ≡ Some i

module _ (start : Start) (pair : Pair) (past : Past) (legal : AreReplies start (pair ∷ past)) where
  -- what is made here has a number that isn't found before
  pub new_number : (i : Invocation) → invoked_by pair ≡ Some i → invocation_of i.number past ≡ None
  new_number i e = go (invocation_of i.number past) refl
    where
      go : (o : Option Invocation) → invocation_of i.number past ≡ o → invocation_of i.number past ≡ None
      go None q = q
      go (Some j) q =
          let drawn : IsDrawn start past i.number = number_drawn start past i.number j legal.2 q in
          let number : i.number ≡ start.next_number + invokes past = (draws start pair past i legal e).number in
          let below = drawn.below in
          absurd (omega arith)

  pub new_found : (i : Invocation) → invoked_by pair ≡ Some i → invocation_of i.number (pair ∷ past) ≡ Some i
  new_found i e =
      let before : invocation_of i.number past ≡ None = new_number i e in
      let same = own_number i in
      invocation_step i.number pair past ∙ rw (before, e, same) refl

  -- what is made here has another number than what was made before
  pub other_number : (i j : Invocation) → invoked_by pair ≡ Some i → is_some (invocation_of j.number past) ≡ true
      → (i.number == j.number) ≡ false
  other_number i j e made = go (i.number == j.number) refl
    where
      go : (b : Bool) → (i.number == j.number) ≡ b → (i.number == j.number) ≡ false
      go false q = q
      go true q =
          let same : i.number ≡ j.number = grind (arith, nat_tests) in
          let never : false ≡ true =
          ap is_some (sym (new_number i e)) ∙ (ap (λ n. is_some (invocation_of n past)) same ∙ made) in
          absurd cc

  latest_step : (dialogue : ℕ) (id : ℤ) (i : Invocation)
      → ((j : Invocation) → latest dialogue id past ≡ Some j → IsLatest dialogue id past j)
      → (o : Option Invocation) → invoked_by pair ≡ o
      → option_or (with_id dialogue id o) (latest dialogue id past) ≡ Some i → IsLatest dialogue id (pair ∷ past) i
  latest_step dialogue id i ih None q e =
      let l = ih i e in
      record {
        dialogue_is = l.dialogue_is;
        id_is = l.id_is;
        is_found =
            invocation_stays i.number pair past i l.is_found;
      }
  latest_step dialogue id i ih (Some new) q e = go (has_id dialogue id new) refl e
    where
      go : (b : Bool) → has_id dialogue id new ≡ b
          → option_or (cond b (Some new) None) (latest dialogue id past) ≡ Some i → IsLatest dialogue id (pair ∷ past) i
      go true p e =
          let same : new ≡ i = cc in
          let ids = id_of dialogue id new p in
          subst (λ (i : Invocation). IsLatest dialogue id (pair ∷ past) i) same
          (record { dialogue_is = ids.0; id_is = ids.1; is_found = new_found new q })
      go false p e =
          let l = ih i e in
          record {
            dialogue_is = l.dialogue_is;
            id_is = l.id_is;
            is_found =
                invocation_stays i.number pair past i l.is_found;
          }

pub latest_is : (start : Start) (past : Past) (dialogue : ℕ) (id : ℤ) (i : Invocation) → AreReplies start past
    → latest dialogue id past ≡ Some i → IsLatest dialogue id past i
latest_is start [] dialogue id i legal e = absurd cc
latest_is start (pair ∷ past) dialogue id i legal e =
    latest_step start pair past legal dialogue id i (λ j q. latest_is start past dialogue id j legal.2 q)
    (invoked_by pair) refl e

-- ---- an identifier is used again where its latest invocation has another number

abbrev Reused : Invocation → Past → Type 0
Reused i past = is_reused i past ≡ not (is_number i.number (latest i.dialogue i.id past))

module _ (start : Start) (pair : Pair) (past : Past) (legal : AreReplies start (pair ∷ past)) (i : Invocation) where
  reused_by : (o p : Option Invocation) → invocation_of i.number past ≡ o → invoked_by pair ≡ p
      → invocation_of i.number (pair ∷ past) ≡ Some i
      → (invocation_of i.number past ≡ Some i → Reused i past)
      → is_reused i (pair ∷ past) ≡ not (is_number i.number
      (option_or (with_id i.dialogue i.id p) (latest i.dialogue i.id past)))
  reused_by (Some j) None q w e ih =
      let same : j ≡ i = let stays : invocation_of i.number (pair ∷ past) ≡ Some j =
      invocation_stays i.number pair past j q in cc in
      let found : invocation_of i.number past ≡ Some i = q ∙ ap Some same in
      reused_step i pair past (ap is_some q) ∙ (ap (λ o. is_reused i past || is_invoked (has_id i.dialogue i.id) o) w
      ∙ (or_nothing (is_reused i past) ∙ ih found))
    where
      or_nothing : (b : Bool) → (b || false) ≡ b
      or_nothing true = refl
      or_nothing false = refl
  reused_by (Some j) (Some new) q w e ih =
      let same : j ≡ i = let stays : invocation_of i.number (pair ∷ past) ≡ Some j =
      invocation_stays i.number pair past j q in cc in
      let found : invocation_of i.number past ≡ Some i = q ∙ ap Some same in
      reused_step i pair past (ap is_some q) ∙ (ap (λ o. is_reused i past || is_invoked (has_id i.dialogue i.id) o) w
      ∙ go (has_id i.dialogue i.id new) (ih found))
    where
      other : (new.number == i.number) ≡ false
      other = other_number start pair past legal new i w (ap is_some q)

      go : (b : Bool) → Reused i past → (is_reused i past || b)
          ≡ not (is_number i.number (option_or (cond b (Some new) None) (latest i.dialogue i.id past)))
      go true r = or_true (is_reused i past) ∙ ap not (sym other)
        where
          or_true : (b : Bool) → (b || true) ≡ true
          or_true true = refl
          or_true false = refl
      go false r = or_nothing (is_reused i past) ∙ r
        where
          or_nothing : (b : Bool) → (b || false) ≡ b
          or_nothing true = refl
          or_nothing false = refl
  reused_by None None q w e ih =
      let never : None ≡ Some i = sym (invocation_step i.number pair past ∙ rw (q, w) refl) ∙ e in absurd cc
  reused_by None (Some new) q w e ih =
      reused_new i pair past (ap is_some q) ∙ go (new.number == i.number) refl
      (sym (invocation_step i.number pair past ∙ rw (q, w) refl) ∙ e)
    where
      go : (b : Bool) → (new.number == i.number) ≡ b → cond b (Some new) None ≡ Some i
          → false ≡ not (is_number i.number (option_or (with_id i.dialogue i.id (Some new))
          (latest i.dialogue i.id past)))
      go false p e = absurd cc
      go true p e =
          let same : i ≡ new = cc in
          let has = has_own_id i in
          let me = own_number i in
          rw (sym same, has, me) refl

pub reused_is : (start : Start) (past : Past) (i : Invocation) → AreReplies start past
    → invocation_of i.number past ≡ Some i → is_reused i past ≡ not (is_number i.number (latest i.dialogue i.id past))
reused_is start [] i legal e = absurd cc
reused_is start (pair ∷ past) i legal e =
    reused_by start pair past legal i (invocation_of i.number past) (invoked_by pair) refl refl e
    (λ q. reused_is start past i legal.2 q)
