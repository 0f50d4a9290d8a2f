-- `into_parts`: a pointer and an allocator are moved, and what they own goes with them.
use Rattle.std.proofs.Common.{◌≡◌, List, [], ◌∷◌, ◌++◌, refl, sym, subst}
use mathlib.Core.Bool.{true}
use mir.Val.{Val}
use base.Logic.{SProp, ent, emp, id⊢}
use base.Fml.{ftrue, fsep}
use prog.Wp.{WpFn}
use types.Kit.{‵, raw, ◌⊛◌, ◌$◌, ◌∵◌, !, qed, by, move, keep, use0, use1, split, fsplit, fjoin, suffices}
use types.Part.{whole, sub, agg}
use types.Run.{stop, fld, no_more, and_then, of_opd, returns, enter}
use types.ByLocal.{alloc_all, pass_all, free_all, look_at, get, get_in, sets}
use contract.Monad.{fact, fact_i}
use contract.Running.{tables}
use denote.Exit.{yes}
use denote.RattleType.{RattleType}
use denote.RawPtr.{block_ptr}
use denote.Signature.{type_at}
use denote.Steps.{heard, nothing}
use denote.Triple.Walked.{Stays, stay_dropped, walk_of, Goes-dropped}
use Rattle.std.proofs.raw_atomic.Walks.{proved_at, leaves}
use Rattle.std.proofs.BoxSteps.Form.{D, box_typed}
use Rattle.std.proofs.BoxSteps.Form as box
use Rattle.std.proofs.BoxSteps.Steps.{box_in}
use Rattle.tcap_c.specs.contracts.handle.Handle.into_parts.{signature, ended, clauses}
use Rattle.tcap_c.specs.contracts.handle.Handle.into_parts.Key.{name as #self}
use Rattle.tcap_c.proofs.HandleValues.{E, From_handle, Own, open_word, open_typed, open_out}
use Rattle.tcap_c.proofs.handle.Handle.into_parts.Statement.{statement}
use Rattle.tcap_c.proofs.handle.Handle.into_parts.Code as code

pub into_parts_spec : {M : Type 1} → statement M
into_parts_spec 𝓤 𝓛 𝓜 𝓡 wired =
    let 𝓣 = tables 𝓤 𝓛.H 𝓜 𝓡 𝓡.env in let c = clauses 𝓛 𝓜.mem 𝓡.returns in let fn = code.function in
    let To : RattleType = type_at signature.result tt in
    let stays : Stays ended.signature.params ended.kept = (stay_dropped From_handle yes, tt) in
    proved_at 𝓛 ended stays c 𝓜 𝓡 (Goes-dropped 𝓛 0 From_handle yes (λ κs x f. refl), tt) #self fn (code.unfolded 𝓤 𝓛.H 𝓜 𝓡 wired) (λ z are.
    let Post : Val → SProp 𝓤 = (walk_of 𝓛 ended stays c).post z in
    let Run : List Val → SProp 𝓤 = λ ws. WpFn 𝓤 𝓛.H 𝓣.C 𝓣.Λ fn ws Post in
    let d = z.0.3.0 in
    qed 𝓛 ((‵ ftrue ⊛ ‵ (fsep (Own.own_val d z.0.4.0) ftrue)) ∷ raw (fact 𝓤 (d.is_open ≡ true)) ∷ []) ∵ split ! $
    move ! (2 ∷ []) $ heard ! (d.is_open ≡ true) (λ is_open. move ! (1 ∷ []) $ fsplit ! $
    open_out ! d z.0.4.0 is_open (λ b o h at ws fits. fsplit ! $
    let v : D E = record { ptr = block_ptr b o; alloc = d.alloc; value = d.value } in
    let made : To.Denot = record { at = block_ptr b o; alloc = d.alloc; value = d.value } in
    let w : Val = open_word b o h in let w' : Val = box.word E h b o in
    let Said : Type 0 = v.value ≡ v.value in
    box_in E ! v b o v.value refl refl $
    suffices ! (Run (w ∷ [])) (subst (λ (us : List Val). ent 𝓤 (Run (w ∷ [])) (Run us)) (sym (λ i. ws i ++ [])) (id⊢ 𝓤 (Run (w ∷ [])))) $
    enter ! 𝓣.C 𝓣.Λ fn (w ∷ []) Post $ alloc_all ! (λ l. pass_all ! refl (open_typed h b o fits, tt) $
    sets ! (of_opd ! (get_in ! (fld ! refl (stop !)) (sub ! 0 refl (whole !)))) refl (tt, tt) $
    sets ! (of_opd ! (get_in ! (fld ! refl (stop !)) (sub ! 1 refl (whole !)))) refl fits $ sets ! (of_opd ! (get ! refl)) refl (tt, tt) $
    sets ! (agg ! (and_then ! (get ! refl) (and_then ! (get ! refl) (no_more !)))) refl (box_typed E h b o fits) $
    returns ! (look_at ! 0 refl) $ free_all ! refl $ use1 𝓛 (‵ (To.own_val made (w' ∷ []))) (id⊢ 𝓤 _) $
    use0 𝓛 (raw (fact 𝓤 Said)) (fact_i 𝓤 Said (emp 𝓤) refl) $ nothing ! $ nothing ! $ fjoin ! $
    keep ! (4 ∷ 0 ∷ 2 ∷ 1 ∷ []) $ by ! (leaves 𝓛 ended stays c z w' made (tt, tt) (tt, tt))))))
