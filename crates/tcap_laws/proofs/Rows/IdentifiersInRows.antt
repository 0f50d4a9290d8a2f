-- The rows of a dialogue say of an identifier what its history says.
use Rattle.std.proofs.Common.{◌≡◌, ℕ, ℤ, ◌+◌, ◌==◌, ◌&&◌, Bool, true, false, cond, Option, Some, None, refl, ap, sym, ◌∙◌, subst}
use Rattle.std.proofs.lemmas.Bool.Decides.{Decides-int_eq}
use Rattle.std.specs.Prelude.{is_some, is_none, option_map}
use Rattle.std.specs.List.{AllByRecursion}
use Rattle.std.specs.Ordering.{int_eq}
use Rattle.tcap_invocation.specs.declared.invocations.Invocation.{Invocation as Entry}
use Rattle.tcap_invocation.specs.declared.stage.Stage.{Stage}
use Rattle.tcap_invocation.specs.declared.stage.Stage.TheVariants.{Waiting}
use Rattle.tcap_invocation.specs.Closing.{number_of, given_up_at}
use Rattle.tcap_invocation.specs.Invocations.{passing, entry_at}
use Rattle.tcap_invocation.specs.Stage.{is_pending}
use Rattle.tcap_laws.proofs.Spans.DecisionSteps.{closing_of_decision}
use Rattle.tcap_model.specs.Histories.Clock.{clock}
use Rattle.tcap_model.specs.Invocations.Closings.{Told}
use Rattle.tcap_model.specs.Invocations.Deadline.{deadline}
use Rattle.tcap_model.specs.Invocations.Decision.{decision}
use Rattle.tcap_model.specs.Replies.Held.{is_waiting, holds_identifier, held, pending, held_by, if_pending}
use Rattle.tcap_model.specs.Invocations.Invocation.{Invocation, invocations, latest}
use Rattle.tcap_model.specs.Invocations.Outcome.{outcome}
use Rattle.tcap_model.specs.Histories.Pair.{Past}
use Rattle.tcap_model.specs.Table.World.{pending_stage, stage_by, row, row_by, is_number, row_of, rows_of}
use Rattle.tcap_laws.proofs.Rows.LatestRows.{entry_of, Found, found, each_passes, both, same_number, number_itself, latest_has, latest_among}

-- ---- what the rows say

-- what an entry for an identifier, or the want of one, says where this is the latest invocation with it
record Says (reject_ms dialogue : ℕ) (id : ℤ) (past : Past) (last : Option Invocation) (o : Option Entry) : Type 0 where
  in_use : is_some o ≡ held_by reject_ms dialogue id past last
  pending : number_of (passing is_pending o) ≡ if_pending past last

some_same : {X : Type 0} (x y : X) → Some x ≡ Some y → x ≡ y
some_same x y e = cc

pub pending_is : (i : Invocation) (o : Option ℕ) → is_pending (pending_stage i o) ≡ true
pending_is i None = refl
pending_is i (Some t) = refl

-- what a decision, or the want of one, makes of an identifier
abbrev Decides : ℕ → Past → Invocation → Option Entry → Option Told → Type 0
Decides reject_ms past i o decided =
    (is_some o ≡ holds_identifier reject_ms i.dialogue i.id past decided)
    × (number_of (passing is_pending o) ≡ cond (is_none (option_map (λ (t : Told). t.closing) decided)) (Some i.number)
    None)

row_decides : (reject_ms : ℕ) (past : Past) (i : Invocation) (s : Stage) (decided : Option Told)
    → stage_by reject_ms past i decided ≡ Some s → Decides reject_ms past i (Some (row i s).1) decided
row_decides reject_ms past i s None e =
    let same : pending_stage i (deadline i past) ≡ s = some_same (pending_stage i (deadline i past)) s e in (
      refl,
      ap (λ b. number_of (cond b (Some (row i s).1) None))
          (sym (ap is_pending same) ∙ pending_is i (deadline i past)),
    )
row_decides reject_ms past i s (Some told) e = go (is_waiting reject_ms i.dialogue i.id past told) refl e
  where
    until : Stage
    until = Waiting (clock told.place + reject_ms)

    go : (b : Bool) → is_waiting reject_ms i.dialogue i.id past told ≡ b → cond b (Some until) None ≡ Some s
        → Decides reject_ms past i (Some (row i s).1) (Some told)
    go true q w = (
      sym q,
      ap (λ b. number_of (cond b (Some (row i s).1) None))
          (sym (ap is_pending (some_same until s w))),
    )
    go false q w = absurd cc

no_row_decides : (reject_ms : ℕ) (past : Past) (i : Invocation) (decided : Option Told)
    → stage_by reject_ms past i decided ≡ None → Decides reject_ms past i None decided
no_row_decides reject_ms past i None e = absurd cc
no_row_decides reject_ms past i (Some told) e = go (is_waiting reject_ms i.dialogue i.id past told) refl e
  where
    go : (b : Bool) → is_waiting reject_ms i.dialogue i.id past told ≡ b
        → cond b (Some (Waiting (clock told.place + reject_ms))) None ≡ None → Decides reject_ms past i None (Some told)
    go true q w = absurd cc
    go false q w = (sym q, refl)

-- an invocation with the number of the latest one says the same of the identifier
says_decided : (reject_ms : ℕ) (past : Past) (i j : Invocation) (o : Option Entry) → i.number ≡ j.number
    → Decides reject_ms past i o (decision i.number past) → Says reject_ms i.dialogue i.id past (Some j) o
says_decided reject_ms past i j o e d = record {
  in_use = d.0 ∙ ap (λ n. holds_identifier reject_ms i.dialogue i.id past (decision n past)) e;
  pending = d.1 ∙ (ap (λ c. cond (is_none c) (Some i.number) None) (closing_of_decision i.number past)
      ∙ ap (λ n. cond (is_none (outcome n past)) (Some n) None) e);
}

says_row : (reject_ms : ℕ) (past : Past) (i : Invocation) (s : Stage) (last : Option Invocation)
    → is_number i.number last ≡ true → stage_by reject_ms past i (decision i.number past) ≡ Some s
    → Says reject_ms i.dialogue i.id past last (Some (row i s).1)
says_row reject_ms past i s None e w = absurd cc
says_row reject_ms past i s (Some j) e w =
    says_decided reject_ms past i j (Some (row i s).1) (sym (same_number j.number i.number e))
    (row_decides reject_ms past i s (decision i.number past) w)

-- an invocation whose row is that of the identifier
pub record HasRow (reject_ms dialogue : ℕ) (id : ℤ) (past : Past) (i : Invocation) (e : Entry) : Type 0 where
  pub dialogue_is : i.dialogue ≡ dialogue
  pub id_is : i.id ≡ id
  pub is_last : is_number i.number (latest i.dialogue i.id past) ≡ true
  pub stage : Stage
  pub at_stage : stage_by reject_ms past i (decision i.number past) ≡ Some stage
  pub entry_is : Some (row i stage).1 ≡ Some e

pub has_row : (reject_ms dialogue : ℕ) (id : ℤ) (past : Past) (i : Invocation) (e : Entry)
    → entry_of id (row_of reject_ms dialogue past i) ≡ Some e → HasRow reject_ms dialogue id past i e
has_row reject_ms dialogue id past i e w =
    go ((i.dialogue == dialogue) && is_number i.number (latest i.dialogue i.id past)) refl w
  where
    at_id : (s : Stage) (b : Bool) → int_eq id i.id ≡ b → i.dialogue ≡ dialogue
        → is_number i.number (latest i.dialogue i.id past) ≡ true
        → stage_by reject_ms past i (decision i.number past) ≡ Some s
        → cond b (Some (row i s).1) None ≡ Some e → HasRow reject_ms dialogue id past i e
    at_id s true q d n p w =
        record {
          dialogue_is = d;
          id_is = sym ((Decides-int_eq id i.id).0 q);
          is_last = n;
          stage = s;
          at_stage =
              p;
          entry_is = w;
        }
    at_id s false q d n p w = absurd cc

    staged : (o : Option Stage) → stage_by reject_ms past i (decision i.number past) ≡ o → i.dialogue ≡ dialogue
        → is_number i.number (latest i.dialogue i.id past) ≡ true
        → entry_of id (row_by i o) ≡ Some e → HasRow reject_ms dialogue id past i e
    staged None p d n w = absurd cc
    staged (Some s) p d n w = at_id s (int_eq id i.id) refl d n p w

    go : (b : Bool) → ((i.dialogue == dialogue) && is_number i.number (latest i.dialogue i.id past)) ≡ b
        → entry_of id (cond b (row_by i (stage_by reject_ms past i (decision i.number past))) None) ≡ Some e
        → HasRow reject_ms dialogue id past i e
    go true q w =
        let t = both (i.dialogue == dialogue) (is_number i.number (latest i.dialogue i.id past)) q in
        staged (stage_by reject_ms past i (decision i.number past)) refl (same_number i.dialogue dialogue t.0) t.1 w
    go false q w = absurd cc

-- it says so
says_found : (reject_ms dialogue : ℕ) (id : ℤ) (past : Past) (i : Invocation) (e : Entry)
    → HasRow reject_ms dialogue id past i e → Says reject_ms dialogue id past (latest dialogue id past) (Some e)
says_found reject_ms dialogue id past i e r =
    let there = says_row reject_ms past i r.stage (latest i.dialogue i.id past) r.is_last r.at_stage in
    let named = subst (λ (k : ℤ). Says reject_ms i.dialogue k past (latest i.dialogue k past) (Some (row i r.stage).1))
    r.id_is there in
    let placed = subst (λ (k : ℕ). Says reject_ms k id past (latest k id past) (Some (row i r.stage).1)) r.dialogue_is
    named in
    subst (λ (y : Option Entry). Says reject_ms dialogue id past (latest dialogue id past) y) r.entry_is placed

-- where the latest invocation has no row, it says so
no_stage : (id : ℤ) (i : Invocation) (o : Option Stage) → int_eq id i.id ≡ true → entry_of id (row_by i o) ≡ None
    → o ≡ None
no_stage id i None q w = refl
no_stage id i (Some s) q w =
    let some : cond (int_eq id i.id) (Some (row i s).1) None ≡ Some (row i s).1 =
    ap (λ b. cond b (Some (row i s).1) None) q in
    let never : Some (row i s).1 ≡ None = sym some ∙ w in absurd cc

says_missing : (reject_ms : ℕ) (past : Past) (j : Invocation) → latest j.dialogue j.id past ≡ Some j
    → entry_of j.id (row_of reject_ms j.dialogue past j) ≡ None
    → Says reject_ms j.dialogue j.id past (latest j.dialogue j.id past) None
says_missing reject_ms past j e w =
    let is_last : is_number j.number (latest j.dialogue j.id past) ≡ true =
    ap (is_number j.number) e ∙ number_itself j.number in
    let test : ((j.dialogue == j.dialogue) && is_number j.number (latest j.dialogue j.id past)) ≡ true =
    ap (λ b. b && is_number j.number (latest j.dialogue j.id past)) (number_itself j.dialogue) ∙ is_last in
    let stage : Option Stage = stage_by reject_ms past j (decision j.number past) in
    let none : entry_of j.id (row_by j stage) ≡ None =
    sym (ap (λ b. entry_of j.id (cond b (row_by j stage) None)) test) ∙ w in
    let free = no_stage j.id j stage ((Decides-int_eq j.id j.id).1 refl) none in
    subst (λ (l : Option Invocation). Says reject_ms j.dialogue j.id past l None) (sym e)
    (says_decided reject_ms past j j None refl (no_row_decides reject_ms past j (decision j.number past) free))

says_none : (reject_ms dialogue : ℕ) (id : ℤ) (past : Past) (last : Option Invocation) → latest dialogue id past ≡ last
    → AllByRecursion (λ i. entry_of id (row_of reject_ms dialogue past i) ≡ None) (invocations past)
    → Says reject_ms dialogue id past (latest dialogue id past) None
says_none reject_ms dialogue id past None e a =
    subst (λ (l : Option Invocation). Says reject_ms dialogue id past l None) (sym e)
    (record { in_use = refl; pending = refl })
says_none reject_ms dialogue id past (Some j) e a =
    let t = both (j.dialogue == dialogue) (int_eq j.id id) (latest_has dialogue id past j e) in
    free dialogue id (same_number j.dialogue dialogue t.0) ((Decides-int_eq j.id id).0 t.1) e
    (latest_among (λ i. entry_of id (row_of reject_ms dialogue past i) ≡ None) dialogue id past j e a)
  where
    free : (d : ℕ) (k : ℤ) → j.dialogue ≡ d → j.id ≡ k → latest d k past ≡ Some j
        → entry_of k (row_of reject_ms d past j) ≡ None → Says reject_ms d k past (latest d k past) None
    free d k p q = subst (λ (y : ℤ). latest d y past ≡ Some j → entry_of y (row_of reject_ms d past j) ≡ None
        → Says reject_ms d y past (latest d y past) None) q
        (subst (λ (x : ℕ). latest x j.id past ≡ Some j → entry_of j.id (row_of reject_ms x past j) ≡ None
        → Says reject_ms x j.id past (latest x j.id past) None) p (says_missing reject_ms past j))

rows_say : (reject_ms dialogue : ℕ) (past : Past) (id : ℤ)
    → Says reject_ms dialogue id past (latest dialogue id past) (entry_at (rows_of reject_ms dialogue past) id)
rows_say reject_ms dialogue past id =
    go (entry_at (rows_of reject_ms dialogue past) id)
    (found (λ i. Unit {0}) id (row_of reject_ms dialogue past) (invocations past) (each_passes (invocations past)))
  where
    go : (o : Option Entry) → Found (λ i. Unit {0}) id (row_of reject_ms dialogue past) (invocations past) o
        → Says reject_ms dialogue id past (latest dialogue id past) o
    go None f = says_none reject_ms dialogue id past (latest dialogue id past) refl f
    go (Some e) f = says_found reject_ms dialogue id past f.0 e (has_row reject_ms dialogue id past f.0 e f.2)

pub in_use-rows : (reject_ms dialogue : ℕ) (past : Past) (id : ℤ)
    → is_some (entry_at (rows_of reject_ms dialogue past) id) ≡ held reject_ms dialogue id past
in_use-rows reject_ms dialogue past id = (rows_say reject_ms dialogue past id).in_use

pub pending-rows : (reject_ms dialogue : ℕ) (past : Past) (id : ℤ)
    → given_up_at (rows_of reject_ms dialogue past) id ≡ pending dialogue id past
pending-rows reject_ms dialogue past id = (rows_say reject_ms dialogue past id).pending
