-- A handle as a machine value: a pointer, an allocator of no octets, and whether it is open; with what it owns. Assumes `Logic`.
--     E, From_parts, From_alloc     a box of what a handle keeps; its parts and an allocator as parameters
--     word, word_typed              a handle's machine value
--     open_out, open_in             an open handle is what a box owns, and the allocator
--     closed_in                     a closed one is the allocator alone
use Rattle.std.proofs.Common.{◌≡◌, ℕ, List, [], ◌∷◌, ◌++◌, refl, subst}
use mathlib.Core.Bool.{Bool, true, false, ◌&&◌}
use lib.Dec.{T, lit<}
use seplogic.Ra.Ura.{Ura}
use mir.Syntax.{impl, tnil, dnil}
use mir.Raw.{raw as bare}
use mir.Val.{Val, vptr, vnull, vbool, vstruct, vcons, vnil, of_list, has_ty, WT}
use base.Logic.{never, fst∗}
use types.Logic.{Logic, sem}
use types.Kit.{Item, Goal, Seq, Step, step, ‵, ◌$◌, move, drop, fsplit, fjoin, fpick, fpack, rewrite, feq_i, feq_l}
use denote.RattleType.{RattleType, Valss}
use denote.Builtin.{RawPtr, bool}
use denote.RawPtr.{Ptr, block_ptr, null_ptr, ptr_val, in_a_block}
use denote.Steps.{nothing}
use denote.Param.{layout}
use denote.Signature.{Slot, plain}
use denote.Struct.Struct.{within}
use denote.Struct.Owning.{shape}
use Rattle.std.proofs.alloc.Calls.{token, handle_tells, Fits}
use Rattle.std.proofs.BoxSteps.Form.{Bx, R, P}
use Rattle.std.specs.Box.Ownership.{box_owns}
use Rattle.std.specs.contracts.alloc.Global as Heap
use Rattle.std.specs.contracts.impls.GlobalAllocator.TheImpl.{ghosts, dict}
use Rattle.std.proofs.alloc.Global.TheLaws as heap_laws
use Rattle.tcap_station.proofs.station.Station.TheLaws as kept_laws
use Rattle.tcap_c.specs.Handle.{station_row, handle_owns}
use Rattle.tcap_c.specs.contracts.box_parts.BoxParts as Parts
use Rattle.tcap_c.specs.contracts.handle.Handle as Handle

abbrev pub E : Bx
E = record {
  row = station_row;
  laws = kept_laws.the_row_laws Heap.the_row ghosts heap_laws.the_row_laws;
  al = record { row = Heap.the_row; laws = heap_laws.the_row_laws; g = ghosts; d = dict; drops = impl [] tnil dnil };
}

abbrev pub From_parts : Slot 0
From_parts = plain (λ _. Parts.the_row station_row Heap.the_row ghosts)

abbrev pub From_alloc : Slot 0
From_alloc = plain (λ _. Heap.the_row)

abbrev pub From_handle : Slot 0
From_handle = plain (λ _. Handle.the_row)

abbrev pub Own : RattleType
Own = Handle.the_row

-- of a pointer, an allocator and whether it is open
abbrev pub word : Val → Val → Bool → Val
word p h is_open = vstruct (vcons p (vcons h (vcons (vbool is_open) vnil)))

-- an open one, at a block
abbrev pub open_word : ℕ → ℕ → Val → Val
open_word b o h = word (vptr b o) h true

abbrev pub closed_word : Val → Val
closed_word h = word vnull h false

both : (x : Bool) → T x → T (x && true)
both true t = tt
both false t = absurd t

pub open_typed : (h : Val) (b o : ℕ) → Fits E.al h → T (has_ty (layout Heap.the_row) h && true) × WT (open_word b o h)
open_typed h b o fits = (both (has_ty (layout Heap.the_row) h) fits.0, (tt, (fits.1, (tt, tt))))

pub closed_typed : (h : Val) → Fits E.al h → T (has_ty (layout Heap.the_row) h && true) × WT (closed_word h)
closed_typed h fits = (both (has_ty (layout Heap.the_row) h) fits.0, (record { fits = lit< tt }, (fits.1, (tt, tt))))

module _ {M : Type 1} {𝓤 : Ura M} {𝓛 : Logic 𝓤} {K : Type 0} {Γ : List (Item 𝓤)} {G : Goal 𝓤 𝓛.H} where
  pub open_out : K → (d : Own.Denot) (vs : List Val) → d.is_open ≡ true
      → ((b o : ℕ) (h : Val) → d.at ≡ block_ptr b o → vs ≡ open_word b o h ∷ [] → Fits E.al h
      → Seq K 𝓛 (‵ (box_owns (token E.al d.alloc) (R E) (block_ptr b o) d.value) ∷ ‵ ((P E).own_val d.alloc (h ∷ [])) ∷ Γ) G)
      → Seq K 𝓛 (‵ (Own.own_val d vs) ∷ Γ) G
  unfolding handle_owns
  open_out t d vs is_open k =
      fsplit t $ fpick t (λ vss. fsplit t $ feq_l t (λ ev. fsplit t $ feq_l t (λ ep. fsplit t $
      handle_tells E.al t d.alloc vss.1.0 (λ h ea fits. move t (1 ∷ []) $ fsplit t $ feq_l t (λ eb. drop t $ move t (1 ∷ []) $
      rewrite t 0 (λ (y : Bool). ‵ (handle_owns y d.alloc d.at d.value)) is_open refl $
      in_a_block t d.at (λ p. box_owns (token E.al d.alloc) (R E) p d.value) (fst∗ 𝓤 (never 𝓤) (sem 𝓛 (token E.al d.alloc (bare (layout station_row)) null_ptr))) (λ b o at. k b o h at
      (subst (λ (y : Bool). vs ≡ word (vptr b o) h y ∷ []) is_open
      (subst (λ (p : Ptr). vs ≡ vstruct (of_list (ptr_val p ∷ h ∷ vbool d.is_open ∷ [])) ∷ []) at
      (subst (λ (ws : List Val). vs ≡ vstruct (of_list (ptr_val d.at ∷ h ∷ (ws ++ []))) ∷ []) eb
      (subst (λ (ws : List Val). vs ≡ vstruct (of_list (ptr_val d.at ∷ (ws ++ (vss.1.1.0 ++ [])))) ∷ []) ea
      (subst (λ (ps : List Val). vs ≡ vstruct (of_list (ps ++ (vss.1.0 ++ (vss.1.1.0 ++ [])))) ∷ []) ep ev))))) fits))))))

  pub open_in : K → (b o : ℕ) (h : Val) (a : Heap.the_row.Denot) (x : station_row.Denot)
      → Step K 𝓛 (‵ (Own.own_val (record { at = block_ptr b o; alloc = a; is_open = true; value = x }) (open_word b o h ∷ [])) ∷ Γ) G
      (‵ (box_owns (token E.al a) (R E) (block_ptr b o) x) ∷ ‵ ((P E).own_val a (h ∷ [])) ∷ Γ) G
  unfolding handle_owns
  open_in t b o h a x = step (λ s. let v : Val = open_word b o h in
      nothing t $ feq_i t (List Val) (vbool true ∷ []) (vbool true ∷ []) refl $ fjoin t $ move t (2 ∷ 0 ∷ []) $ fjoin t $
      feq_i t (List Val) (vptr b o ∷ []) (vptr b o ∷ []) refl $ fjoin t $ feq_i t (List Val) (v ∷ []) (v ∷ []) refl $ fjoin t $
      fpack t (Valss (RawPtr ∷ P E ∷ bool ∷ [])) (within (shape Handle.the_type) (block_ptr b o, (((a.memory.seal, tt), tt), (true, tt))) (v ∷ [])) (vptr b o ∷ [], (h ∷ [], (vbool true ∷ [], tt))) $ fjoin t $ s)

  pub closed_in : K → (h : Val) (a : Heap.the_row.Denot) (x : station_row.Denot)
      → Step K 𝓛 (‵ (Own.own_val (record { at = null_ptr; alloc = a; is_open = false; value = x }) (closed_word h ∷ [])) ∷ Γ) G
      (‵ ((P E).own_val a (h ∷ [])) ∷ Γ) G
  unfolding handle_owns
  closed_in t h a x = step (λ s. let v : Val = closed_word h in
      nothing t $ nothing t $ feq_i t (List Val) (vbool false ∷ []) (vbool false ∷ []) refl $ fjoin t $ move t (2 ∷ 0 ∷ []) $ fjoin t $
      feq_i t (List Val) (vnull ∷ []) (vnull ∷ []) refl $ fjoin t $ feq_i t (List Val) (v ∷ []) (v ∷ []) refl $ fjoin t $
      fpack t (Valss (RawPtr ∷ P E ∷ bool ∷ [])) (within (shape Handle.the_type) (null_ptr, (((a.memory.seal, tt), tt), (false, tt))) (v ∷ [])) (vnull ∷ [], (h ∷ [], (vbool false ∷ [], tt))) $ fjoin t $ s)
