use Rattle.std.proofs.Common.{◌≡◌, ◌&&◌, ◌∙◌, Bool, Option, Some, None, true, false, is_some, nat_lt, nat_le, refl, sym, ap, subst, OnOk, IfErr, rules, if◌then◌else◌}
use Rattle.tcap_component.specs.Views.{component_parts}
use Rattle.tcap_invocation.specs.Invocations.{entry_at}
use Rattle.tcap_invocation.specs.Stage.{moment_limit}
use Rattle.tcap_model.specs.Words.Fault.{Fault}
use Rattle.tcap_primitives.specs.FaultViews.{fault_view}
use Rattle.tcap_primitives.specs.QueueRefusals.{queue_fault}
use Rattle.tcap_dialogue.proofs.InvokeLemmas.{IsLong, free, held, misspelled, spelled}
use Rattle.tcap_dialogue.proofs.dialogue.Dialogue.judge_invoke.Goals as goal

pub returns-then-not-is_spelled-clause-err : goal.returns-then-not-is_spelled-clause-err
returns-then-not-is_spelled-clause-err g c =
    let d = c.args.self.now in
    let parts = component_parts c.args.component.now in
    let r = c.judge-judged.result in
    let timely : true ≡ (nat_lt 0 c.args.timeout_ms && nat_le c.args.timeout_ms moment_limit) = c.if-not-is_timeout.ensures in
    let err : IfErr r (λ f. queue_fault d.standing.queue parts ≡ Some (fault_view f)) = rw (← c.self.view_is) c.judge-judged.ensures.err in
    misspelled d c.args.id c.args.timeout_ms parts r (λ is. let both : false ≡ true = c.if-not-is_spelled.ensures.1 is in absurd cc) (sym timely) err

pub returns-then-in_use-clause-err : goal.returns-then-in_use-clause-err
returns-then-in_use-clause-err g c =
    let d = c.args.self.now in
    let parts = component_parts c.args.component.now in
    let r = c.judge-judged.result in
    let timely : true ≡ (nat_lt 0 c.args.timeout_ms && nat_le c.args.timeout_ms moment_limit) = c.if-not-is_timeout.ensures in
    let long : IfErr r IsLong = c.if-not-is_spelled.ensures.0 refl in
    let ok : OnOk r (queue_fault d.standing.queue parts ≡ None) = search (rules, c.judge-judged.ensures.ok, c.self.view_is) in
    let err : IfErr r (λ f. queue_fault d.standing.queue parts ≡ Some (fault_view f)) = rw (← c.self.view_is) c.judge-judged.ensures.err in
    let known = spelled d c.args.id c.args.timeout_ms parts r long (sym timely) ok err in
    let used : true ≡ is_some (entry_at d.invocations.rows c.args.id) = search (rules, c.if-in_use.ensures.value) in
    known ∙ ap (λ (b : Bool). if b then Some Fault.invoke_id_in_use else queue_fault d.standing.queue parts) (sym used)

pub returns-clause-free : goal.returns-clause-free
returns-clause-free g c =
    let d = c.args.self.now in
    let timely : true ≡ (nat_lt 0 c.args.timeout_ms && nat_le c.args.timeout_ms moment_limit) = c.if-not-is_timeout.ensures in
    let used : false ≡ is_some (entry_at d.invocations.rows c.args.id) = search (rules, c.if-in_use.ensures.value) in
    held c.judge-judged.result (free d c.args.id c.args.timeout_ms (component_parts c.args.component.now) (sym timely) (sym used))

pub returns-clause-ok : goal.returns-clause-ok
returns-clause-ok g c =
    let d = c.args.self.now in
    let parts = component_parts c.args.component.now in
    let r = c.judge-judged.result in
    let timely : true ≡ (nat_lt 0 c.args.timeout_ms && nat_le c.args.timeout_ms moment_limit) = c.if-not-is_timeout.ensures in
    let long : IfErr r IsLong = c.if-not-is_spelled.ensures.0 refl in
    let ok : OnOk r (queue_fault d.standing.queue parts ≡ None) = search (rules, c.judge-judged.ensures.ok, c.self.view_is) in
    let err : IfErr r (λ f. queue_fault d.standing.queue parts ≡ Some (fault_view f)) = rw (← c.self.view_is) c.judge-judged.ensures.err in
    let known = spelled d c.args.id c.args.timeout_ms parts r long (sym timely) ok err in
    let used : false ≡ is_some (entry_at d.invocations.rows c.args.id) = search (rules, c.if-in_use.ensures.value) in
    let same = known ∙ ap (λ (b : Bool). if b then Some Fault.invoke_id_in_use else queue_fault d.standing.queue parts) (sym used) in
    subst (λ (o : Option Fault). OnOk r (o ≡ None)) (sym same) ok

pub returns-clause-err : goal.returns-clause-err
returns-clause-err g c =
    let d = c.args.self.now in
    let parts = component_parts c.args.component.now in
    let r = c.judge-judged.result in
    let timely : true ≡ (nat_lt 0 c.args.timeout_ms && nat_le c.args.timeout_ms moment_limit) = c.if-not-is_timeout.ensures in
    let long : IfErr r IsLong = c.if-not-is_spelled.ensures.0 refl in
    let ok : OnOk r (queue_fault d.standing.queue parts ≡ None) = search (rules, c.judge-judged.ensures.ok, c.self.view_is) in
    let err : IfErr r (λ f. queue_fault d.standing.queue parts ≡ Some (fault_view f)) = rw (← c.self.view_is) c.judge-judged.ensures.err in
    let known = spelled d c.args.id c.args.timeout_ms parts r long (sym timely) ok err in
    let used : false ≡ is_some (entry_at d.invocations.rows c.args.id) = search (rules, c.if-in_use.ensures.value) in
    let same = known ∙ ap (λ (b : Bool). if b then Some Fault.invoke_id_in_use else queue_fault d.standing.queue parts) (sym used) in
    subst (λ (o : Option Fault). IfErr r (λ f. o ≡ Some (fault_view f))) (sym same) err

pub returns-then-not-is_timeout-clause-err : goal.returns-then-not-is_timeout-clause-err
returns-then-not-is_timeout-clause-err g c = search rules
