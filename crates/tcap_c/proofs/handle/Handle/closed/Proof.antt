-- `closed`: a closed handle owns nothing but its allocator.
use Rattle.std.proofs.Common.{◌≡◌, List, [], ◌∷◌, ◌++◌, refl, sym, subst}
use mathlib.Core.Bool.{false}
use mir.Val.{Val}
use base.Logic.{SProp, ent, emp, id⊢}
use base.Fml.{ftrue, fsep}
use prog.Wp.{WpFn}
use types.Kit.{‵, raw, ◌⊛◌, ◌$◌, ◌∵◌, !, qed, by, move, keep, use0, use1, split, fsplit, fjoin, suffices}
use types.Part.{agg}
use types.Run.{false_lit, lit, no_more, and_then, returns, enter}
use types.ByLocal.{alloc_all, pass_all, free_all, look_at, get, sets}
use contract.Monad.{fact, fact_i}
use contract.Running.{tables}
use denote.Exit.{yes}
use denote.RattleType.{RattleType}
use denote.RawPtr.{null_ptr}
use denote.Signature.{type_at}
use denote.Steps.{nothing}
use denote.Triple.Walked.{Stays, stay_dropped, walk_of, Goes-dropped}
use Rattle.std.proofs.alloc.Calls.{handle_tells}
use Rattle.std.proofs.raw_atomic.Walks.{proved_at, leaves}
use Rattle.std.proofs.BoxSteps.Form.{P}
use Rattle.tcap_station.specs.Station.{StationState}
use Rattle.tcap_c.specs.contracts.handle.Handle.closed.{signature, ended, clauses}
use Rattle.tcap_c.specs.contracts.handle.Handle.closed.Key.{name as #self}
use Rattle.tcap_c.proofs.HandleValues.{E, From_alloc, closed_word, closed_typed, closed_in}
use Rattle.tcap_c.proofs.handle.Handle.closed.Statement.{statement}
use Rattle.tcap_c.proofs.handle.Handle.closed.Code as code

-- the value that a closed handle has, of which nothing says anything
nothing_kept : StationState
nothing_kept = record {
  engine = record { max_dialogues = 0; reject_ms = 0; idle_ms = 0; next_dialogue = 0; next_number = 0; clock = 0; dialogues = [] };
  waiting = [];
  events = 0;
  max_message = 0;
}

pub closed_spec : {M : Type 1} → statement M
closed_spec 𝓤 𝓛 𝓜 𝓡 wired =
    let 𝓣 = tables 𝓤 𝓛.H 𝓜 𝓡 𝓡.env in let c = clauses 𝓛 𝓜.mem 𝓡.returns in let fn = code.function in
    let To : RattleType = type_at signature.result tt in
    let stays : Stays ended.signature.params ended.kept = (stay_dropped From_alloc yes, tt) in
    proved_at 𝓛 ended stays c 𝓜 𝓡 (Goes-dropped 𝓛 0 From_alloc yes (λ κs x f. refl), tt) #self fn (code.unfolded 𝓤 𝓛.H 𝓜 𝓡 wired) (λ z are.
    let Post : Val → SProp 𝓤 = (walk_of 𝓛 ended stays c).post z in
    let Run : List Val → SProp 𝓤 = λ ws. WpFn 𝓤 𝓛.H 𝓣.C 𝓣.Λ fn ws Post in
    let a = z.0.3.0 in
    let made : To.Denot = record { at = null_ptr; alloc = a; is_open = false; value = nothing_kept } in
    let Said : Type 0 = false ≡ false in
    qed 𝓛 ((‵ ftrue ⊛ ‵ (fsep ((P E).own_val a z.0.4.0) ftrue)) ∷ raw (emp 𝓤) ∷ []) ∵ split ! $ move ! (1 ∷ []) $ fsplit ! $
    handle_tells E.al ! a z.0.4.0 (λ h ws fits. closed_in ! h a nothing_kept $
    let w' : Val = closed_word h in
    suffices ! (Run (h ∷ [])) (subst (λ (us : List Val). ent 𝓤 (Run (h ∷ [])) (Run us)) (sym (λ i. ws i ++ [])) (id⊢ 𝓤 (Run (h ∷ [])))) $
    enter ! 𝓣.C 𝓣.Λ fn (h ∷ []) Post $ alloc_all ! (λ l. pass_all ! refl (fits, tt) $
    sets ! (agg ! (and_then ! (lit ! tt) (and_then ! (get ! refl) (and_then ! (false_lit !) (no_more !))))) refl (closed_typed h fits) $
    returns ! (look_at ! 0 refl) $ free_all ! refl $ use1 𝓛 (‵ (To.own_val made (w' ∷ []))) (id⊢ 𝓤 _) $
    use0 𝓛 (raw (fact 𝓤 Said)) (fact_i 𝓤 Said (emp 𝓤) refl) $ nothing ! $ nothing ! $ fjoin ! $
    keep ! (4 ∷ 0 ∷ 2 ∷ 1 ∷ []) $ by ! (leaves 𝓛 ended stays c z w' made (tt, tt) (tt, tt)))))
