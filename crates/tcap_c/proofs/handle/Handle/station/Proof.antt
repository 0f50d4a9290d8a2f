-- `station`: the value behind the pointer is lent, and the handle keeps what it is left as.
use Rattle.std.proofs.Common.{◌≡◌, ℕ, List, [], ◌∷◌, refl, sym}
use mathlib.Core.Bool.{Bool, true}
use seplogic.Ra.Ura.{Ura}
use mir.Syntax.{Body, named, place, copy, assign, rv_opd, seq, return}
use mir.Raw.{raw as bare}
use mir.Val.{Val, vptr}
use base.Fraction.{full_share}
use base.Fml.{GName, Fml, ftrue, fsep, flft}
use base.Logic.{SProp, ent, sep, id⊢}
use prog.Wp.{Env}
use types.Logic.{Logic, sem}
use types.Kit.{‵, raw, ◌⊛◌, some, later, await, pick, at_ret, ◌$◌, ◌∵◌, !, qed, move, keep, use1, split, join, group, rewrite, fsplit, fsplit3, fjoin, fpack, suffices, frame, done}
use types.Part.{whole, sub, look_in}
use types.Run.{stop, fld, load, of_opd, addr, first, blocks, exec, returns, enter}
use types.ByLocal.{alloc_all, pass_all, free_all, look_at, get, through, sets, sets_last, env}
use contract.Monad.{fact}
use contract.Running.{tables}
use denote.Exit.{no}
use denote.Follow.{follows, Part, lends_Part}
use denote.Memory.{mem, cell_at, part_at, part_of}
use denote.RawPtr.{Ptr, block_ptr}
use denote.Ref.{MutBor, MutRef, mut_vals, mut_Tells}
use denote.Signature.{plain, mut_ref_to}
use denote.Steps.{nothing, opens, heard}
use denote.Triple.Walked.{Stays, stay_dropped, walk_of, says, ends_at, Goes-spent_ref}
use Rattle.std.proofs.alloc.Calls.{token}
use Rattle.std.proofs.raw_atomic.Walks.{proved}
use Rattle.std.proofs.BoxSteps.Form.{P, τ}
use Rattle.tcap_c.specs.Handle.{station_row}
use Rattle.tcap_c.specs.Lending.{with_station}
use Rattle.tcap_c.specs.contracts.handle.Handle.station as f
use Rattle.tcap_c.proofs.HandleValues.{E, Own, open_word, open_out, open_in}
use Rattle.tcap_c.proofs.handle.Handle.station.Statement.{statement}
use Rattle.tcap_c.proofs.handle.Handle.station.Code as code

-- what is left of the body once the reference is made: it is the result
abbrev rest : Body
rest = seq (assign (place 0 []) (rv_opd (copy (place 2 [])))) return

abbrev stayed : Stays f.ended.signature.params f.ended.kept
stayed = (stay_dropped (mut_ref_to (0 ∷ []) tt (plain (λ _. Own))) no, tt)

module _ {M : Type 1} {𝓤 : Ura M} (𝓛 : Logic 𝓤) (rb ro b o : ℕ) (hv : Val) (d : Own.Denot) where
  -- all of the handle but the station
  abbrev Rest : Fml
  Rest = fsep (fsep (token E.al d.alloc (bare (τ E)) (block_ptr b o)) ((P E).own_val d.alloc (hv ∷ []))) (cell_at full_share Own.mir (open_word b o hv ∷ []) rb ro)

  pub back : d.at ≡ block_ptr b o → d.is_open ≡ true → (w : station_row.Denot)
      → ent 𝓤 (sep 𝓤 (sem 𝓛 ((mem station_row).own_at w b o)) (sem 𝓛 Rest)) (sem 𝓛 ((mem Own).own_at (with_station d w) rb ro))
  unfolding part_of
  back at is_open w =
      qed 𝓛 (‵ (part_at station_row full_share w b o) ∷ ‵ Rest ∷ []) ∵ move ! (1 ∷ []) $ fsplit ! $ fsplit ! $ move ! (3 ∷ 0 ∷ []) $ fjoin ! $
      open_in ! b o hv d.alloc w $
      rewrite ! 0 (λ (p : Ptr). ‵ (Own.own_val (record { at = p; alloc = d.alloc; is_open = true; value = w }) (open_word b o hv ∷ []))) (sym at) refl $
      rewrite ! 0 (λ (y : Bool). ‵ (Own.own_val (record { at = d.at; alloc = d.alloc; is_open = y; value = w }) (open_word b o hv ∷ []))) (sym is_open) refl $
      move ! (1 ∷ 0 ∷ []) $ fjoin ! $
      fpack ! (List Val) (λ us. fsep (cell_at full_share Own.mir us rb ro) (Own.own_val (with_station d w) us)) (open_word b o hv ∷ []) $ done !

pub station_spec : {M : Type 1} → statement M
station_spec 𝓤 𝓛 𝓜 𝓡 wired =
    let c = f.clauses 𝓛 𝓜.mem 𝓡.returns in let W = walk_of 𝓛 f.ended stayed c in let 𝓣 = tables 𝓤 𝓛.H 𝓜 𝓡 𝓡.env in
    proved 𝓛 f.ended stayed c 𝓜 𝓡 (Goes-spent_ref 𝓛 1 (0 ∷ []) tt (plain (λ _. Own)), tt)
    f.Key.name code.function (code.unfolded 𝓤 𝓛.H 𝓜 𝓡 wired)
    (λ κs. (mut_vals, tt)) (λ κs. (mut_Tells (named 0) κs.0 Own, tt)) (λ κs qs bounds a g are.
    let κ = κs.0 in let q = qs.0 in let rb = a.0.ref_ptr.0 in let ro = a.0.ref_ptr.1 in let γ = a.0.ghost_name in let d = a.0.now in
    let y : W.Ghost = ((κs, qs, bounds, a, (mut_vals a.0, tt)), g) in
    let Post : Val → SProp 𝓤 = W.post y in
    qed 𝓛 (((‵ (flft κ q) ⊛ ‵ ftrue) ⊛ ‵ ((MutRef (named 0) κ Own).own_val a.0 (mut_vals a.0)) ⊛ ‵ ftrue) ∷ raw (fact 𝓤 (d.is_open ≡ true)) ∷ []) ∵
    split ! $ split ! $ move ! (2 ∷ []) $ split ! $ move ! (4 ∷ []) $ heard ! (d.is_open ≡ true) (λ is_open. keep ! (0 ∷ 2 ∷ []) $
    enter ! 𝓣.C 𝓣.Λ code.function (mut_vals a.0) Post $ alloc_all ! (λ l. pass_all ! refl ((tt, tt), tt) $
    let En : Env 𝓤 𝓛.H = env code.function.locals l in
    fsplit3 ! $ move ! (1 ∷ 2 ∷ 3 ∷ []) $ opens ! tt Own {h = d} rb ro (λ us. move ! (1 ∷ []) $
    open_out ! d us is_open (λ b o hv at ws fits. fsplit ! $
    rewrite ! 3 (λ (vs : List Val). ‵ (cell_at full_share Own.mir vs rb ro)) ws refl $
    move ! (1 ∷ 2 ∷ []) $ fjoin ! $ move ! (1 ∷ []) $
    -- [the station; the token with the allocator; the word; the open borrow; obs; auth]
    first ! $ blocks ! $
    sets ! (of_opd ! (load ! (through ! refl (fld ! refl (stop !))) (look_in ! 2 (sub ! 0 refl (whole !))))) refl (tt, tt) $
    sets ! (of_opd ! (get ! refl)) refl (tt, tt) $
    sets_last ! (addr ! (through ! refl (stop !))) refl (tt, tt) $
    exec ! 𝓣.C 𝓣.Λ En rest (at_ret En Post) $
    sets ! (of_opd ! (get ! refl)) refl (tt, tt) $
    move ! (1 ∷ 2 ∷ []) $ fjoin ! $ move ! (2 ∷ 3 ∷ 4 ∷ 1 ∷ 0 ∷ []) $ group ! 5 $
    let way = back 𝓛 rb ro b o hv d at is_open in
    use1 𝓛 (later (some (λ (γ' : GName). raw (Part 𝓛 Own station_row (with_station d) (named 0) κ q rb ro b o γ (sem 𝓛 (Rest 𝓛 rb ro b o hv d)) way d.value γ'))))
    (lends_Part 𝓛 Own station_row (with_station d) (named 0) κ q rb ro b o γ (sem 𝓛 (Rest 𝓛 rb ro b o hv d)) way (Own.coded.code d) (Own.coded.code d) d.value) $ await ! tt $ pick ! (λ γ'.
    let lent : MutBor station_row.Denot = record { ref_ptr = (b, o); ghost_name = γ'; now = d.value } in
    returns ! (look_at ! 0 refl) $ free_all ! refl $ keep ! (0 ∷ []) $
    use1 𝓛 (‵ ((MutRef (named 0) κ station_row).own_val lent (vptr b o ∷ [])) ⊛ ‵ (flft κ q) ⊛ ‵ (follows Own station_row γ γ' (with_station d))) (id⊢ 𝓤 _) $ split ! $ move ! (1 ∷ []) $ split ! $ move ! (2 ∷ []) $
    suffices ! _ (ends_at 𝓛 f.ended stayed c y (vptr b o) lent (tt, tt) (tt, tt)) $
    nothing ! $ nothing ! $ fjoin ! $ join ! $ nothing ! $ move ! (2 ∷ 0 ∷ []) $ join ! $ join ! $ frame ! $ says ! refl $ done !))))))
