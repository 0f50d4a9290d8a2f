-- `into_box`: what the parts own makes the box again.
use Rattle.std.proofs.Common.{◌≡◌, List, [], ◌∷◌, ◌++◌, refl, sym, ap, subst}
use lib.Dec.{T}
use mir.Syntax.{Body, a_type, dcons, dnil, place, copy, assign, rv_opd, seq, return}
use mir.Val.{Val, vptr, has_ty, WT}
use mir.MapTy.{inst_fn}
use base.Logic.{SProp, ent, emp, id⊢}
use base.Fml.{ftrue, fsep, flft}
use prog.Wp.{WpFn}
use types.Kit.{Item, at_ret, ‵, raw, ◌⊛◌, some, later, ◌$◌, ◌∵◌, !, qed, by, move, keep, drop, use0, use1, join, split, split3, pick, rewrite, fsplit, fjoin, feq_i, suffices, await}
use types.Part.{whole, sub}
use types.Run.{stop, fld, no_more, and_then, of_opd, returns, enter, first, blocks, exec}
use types.ByLocal.{alloc_all, pass_all, free_all, look_at, get, get_in, sets, lands_last, env}
use contract.Monad.{fact, fact_i}
use contract.BorrowLft.{◌⊑◌}
use contract.Running.{tables, tables_of}
use sound.WpLaws.{fm_of}
use denote.Exit.{no}
use denote.RattleType.{RattleType}
use denote.RawPtr.{block_ptr}
use denote.Param.{bounded}
use denote.Signature.{plain}
use denote.Steps.{heard, nothing, only}
use denote.Triple.Call.{calls_at_last}
use denote.Triple.Spec.{triple_of}
use denote.Triple.Walked.{Stays, stay_dropped, walk_of}
use Rattle.std.proofs.alloc.Calls.{Goes-blank}
use Rattle.std.proofs.raw_atomic.Walks.{proved_at, leaves}
use Rattle.std.proofs.BoxSteps.Form.{Bx, D, R, P, B, box_ty, word, box_typed}
use Rattle.std.proofs.BoxSteps.Steps.{box_out, box_in}
use Rattle.std.specs.contracts.boxed.Box.from_raw as callee
use Rattle.std.proofs.boxed.Box.from_raw.Met as callee_met
use Rattle.tcap_c.specs.contracts.box_parts.BoxParts as parts
use Rattle.tcap_c.specs.contracts.box_parts.BoxParts.into_box.{ended, clauses}
use Rattle.tcap_c.specs.contracts.box_parts.BoxParts.into_box.Key.{name as #self}
use Rattle.tcap_c.proofs.box_parts.BoxParts.into_box.Statement.{statement}
use Rattle.tcap_c.proofs.box_parts.BoxParts.into_box.Code as code

-- what is left of the body once the box is made: it is the result
abbrev rest : Body
rest = seq (assign (place 0 []) (rv_opd (copy (place 4 [])))) return

pub into_box_spec : {M : Type 1} → statement M
unfolding tables_of
into_box_spec 𝓤 𝓛 𝓜 𝓡 wired X Z LX LZ g d dd allocator md =
    let 𝓣 = tables 𝓤 𝓛.H 𝓜 𝓡 𝓡.env in
    let E : Bx = record { row = X; laws = LX; al = record { row = Z; laws = LZ; g = g; d = d; drops = dd } } in
    let From : RattleType = parts.the_row (R E) (P E) g in
    let End = ended X Z g d dd in let c = clauses X Z g d dd 𝓛 𝓜.mem 𝓡.returns in
    let kinds = bounded (a_type ∷ a_type ∷ []) (X, (Z, tt)) (dcons d (dcons dd dnil)) in
    let fn = inst_fn kinds code.function in
    let stays : Stays End.signature.params End.kept = (stay_dropped (plain (λ _. From)) no, tt) in
    let Whole = triple_of 𝓛 (callee.signature X Z g d dd) (callee.spec X Z g d dd 𝓛 𝓜.mem 𝓡.returns) in
    let known = callee_met.met 𝓤 𝓛 𝓜 𝓡 (code.calls-std_alloc::boxed::Box::from_raw 𝓡.env wired) X Z LX LZ g d dd allocator md in
    proved_at 𝓛 End stays c 𝓜 𝓡 (Goes-blank 𝓛 2 (plain (λ _. From)) no (λ κs x f. tt), tt) (#self kinds) fn (code.unfolded 𝓤 𝓛.H 𝓜 𝓡 wired (X, (Z, tt)) d dd) (λ z are.
    let κs = z.0.0 in let qs = z.0.1 in let a = z.0.3.0.alloc in let x = z.0.3.0.value in
    let Post : Val → SProp 𝓤 = (walk_of 𝓛 End stays c).post z in
    let Run : List Val → SProp 𝓤 = λ ws. WpFn 𝓤 𝓛.H 𝓣.C 𝓣.Λ fn ws Post in
    let v : D E = record { ptr = z.0.3.0.at; alloc = a; value = x } in
    let tokens : Item 𝓤 = ‵ (flft κs.0 qs.0) ⊛ ‵ (flft κs.1.0 qs.1.0) ⊛ ‵ ftrue in
    let alive : Item 𝓤 = raw (fact 𝓤 (κs.0 ⊑ X.lives)) ⊛ raw (fact 𝓤 (κs.1.0 ⊑ Z.lives)) ⊛ ‵ ftrue in
    qed 𝓛 ((tokens ⊛ ‵ (fsep ((B E).own_val v z.0.4.0) ftrue)) ∷ alive ∷ []) ∵ split ! $ move ! (1 ∷ []) $ fsplit ! $
    box_out E ! v z.0.4.0 (λ b o h at ws fits. fjoin ! $
    let typed = box_typed E h b o fits in let w : Val = word E h b o in
    let y : Whole.Ghost = ((κs, qs, tt, (a, (block_ptr b o, tt)), (h ∷ [], (vptr b o ∷ [], tt))), x) in
    suffices ! (Run (w ∷ [])) (subst (λ (us : List Val). ent 𝓤 (Run (w ∷ [])) (Run us)) (sym (λ i. ws i ++ [])) (id⊢ 𝓤 (Run (w ∷ [])))) $
    enter ! 𝓣.C 𝓣.Λ fn (w ∷ []) Post $ alloc_all ! (λ l. pass_all ! refl (typed, tt) $
    sets ! (of_opd ! (get_in ! (fld ! refl (stop !)) (sub ! 0 refl (whole !)))) refl (tt, tt) $
    sets ! (of_opd ! (get_in ! (fld ! refl (stop !)) (sub ! 1 refl (whole !)))) refl fits $
    first ! $ blocks ! $ sets ! (of_opd ! (get ! refl)) refl fits $
    -- [what it owned; the allocator; nothing; the tokens; that they live]
    move ! (4 ∷ []) $ split3 ! $ move ! (2 ∷ []) $ drop ! $ move ! (1 ∷ 2 ∷ []) $ join ! $ move ! (1 ∷ 0 ∷ []) $ join ! $
    move ! (2 ∷ []) $ feq_i ! (List Val) (vptr b o ∷ []) (vptr b o ∷ []) refl $ fjoin ! $ move ! (2 ∷ 0 ∷ []) $ fjoin ! $ move ! (2 ∷ 0 ∷ []) $ join ! $ join ! $
    use1 𝓛 (raw (Whole.pre y)) (id⊢ 𝓤 _) $
    calls_at_last ! (fm_of 𝓤 𝓛.H 𝓛.laws (tables_of 𝓤 𝓛.H 𝓜 𝓣)) Whole known y (and_then ! (get ! refl) (and_then ! (get ! refl) (no_more !))) (λ u.
    use1 𝓛 (later (some (λ (r : (B E).Denot). (tokens ⊛ ‵ ((B E).own_val r (u ∷ []))) ⊛ some (λ (_ : Unit {0} × (Unit {0} × Unit {0})).
    ‵ (fsep ftrue (fsep ftrue ftrue)) ⊛ (raw (fact 𝓤 (r.value ≡ x)) ⊛ raw (fact 𝓤 (r.alloc ≡ a))))))) (id⊢ 𝓤 _) $
    await ! tt $ pick ! (λ r. split ! $ move ! (1 ∷ []) $ pick ! (λ _. split3 ! $ drop ! $ heard ! (r.value ≡ x) (λ same. drop ! $ split ! $ move ! (1 ∷ []) $
    box_out E ! r (u ∷ []) (λ b' o' h' at' us fits'. box_in E ! r b' o' r.value at' refl $
    rewrite ! 0 (λ (ts : List Val). ‵ ((B E).own_val r ts)) (sym us) refl $
    let made : T (has_ty (box_ty E) u) × WT u = subst (λ (s : Val). T (has_ty (box_ty E) s) × WT s) (sym (ap only us)) (box_typed E h' b' o' fits') in
    lands_last ! refl made $ exec ! 𝓣.C 𝓣.Λ (env fn.locals l) rest (at_ret (env fn.locals l) Post) $
    sets ! (of_opd ! (get ! refl)) refl made $ returns ! (look_at ! 0 refl) $ free_all ! refl $
    use0 𝓛 (raw (fact 𝓤 (r.value ≡ x))) (fact_i 𝓤 (r.value ≡ x) (emp 𝓤) same) $ nothing ! $ nothing ! $ fjoin ! $
    keep ! (3 ∷ 0 ∷ 2 ∷ 1 ∷ []) $ by ! (leaves 𝓛 End stays c z u r ((tt, (tt, tt)), tt) (tt, tt))))))))))
