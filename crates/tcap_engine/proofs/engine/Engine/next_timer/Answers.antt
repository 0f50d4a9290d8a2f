use Rattle.std.proofs.Common.{rules, arith, tests, sym, ap, ◌∙◌, ◌<◌, ◌≤◌, List}
use Rattle.tcap_engine.specs.Lapsing.{AreUntimed, IsFirstTimer}
use Rattle.tcap_engine.specs.DialogueEntries.{TableEntry}
use Rattle.tcap_engine.proofs.NextTimerLemmas.{late-still, reached-changed, next-none, next-first, is-within, is-beyond}
use Rattle.tcap_engine.proofs.QuietLemmas.{idle-late, behind-late}
use Rattle.tcap_invocation.specs.Stage.{moment_limit}
use Rattle.tcap_model.specs.Table.World.{World}
use Rattle.tcap_engine.proofs.engine.Engine.next_timer.Goals as goal

pub returns-in_err-first-clause-value : goal.returns-in_err-first-clause-value
returns-in_err-first-clause-value g c =
    let ps : List TableEntry = c.self.inside.table in
    let idle : AreUntimed ps = search rules in
    c.from_residual.ensures ∙ sym (next-none c.args.self.now ps (sym (ap (λ (w : World). w.dialogues) c.self.view_is)) idle)

pub returns-in_err-first-clause-before : goal.returns-in_err-first-clause-before
returns-in_err-first-clause-before g c =
    let ps : List TableEntry = c.self.inside.table in
    let idle : AreUntimed ps = search rules in
    λ now accepted e. late-still c.args.self.now now ps (sym (ap (λ (w : World). w.dialogues) c.self.view_is)) accepted (idle-late now ps idle)

pub returns-then-first-le-MAX_MOMENT-clause-value : goal.returns-then-first-le-MAX_MOMENT-clause-value
returns-then-first-le-MAX_MOMENT-clause-value g c =
    let ps : List TableEntry = c.self.inside.table in
    let first : IsFirstTimer ps c.in_ok-first.first = search rules in
    let within : c.in_ok-first.first.0 ≤ moment_limit = search rules in
    sym (next-first c.args.self.now ps c.in_ok-first.first (sym (ap (λ (w : World). w.dialogues) c.self.view_is)) c.self.invariant.from first ∙ is-within c.in_ok-first.first.0 within)

pub returns-then-first-le-MAX_MOMENT-clause-before : goal.returns-then-first-le-MAX_MOMENT-clause-before
returns-then-first-le-MAX_MOMENT-clause-before g c =
    let ps : List TableEntry = c.self.inside.table in
    let first : IsFirstTimer ps c.in_ok-first.first = search rules in
    λ now accepted e. late-still c.args.self.now now ps (sym (ap (λ (w : World). w.dialogues) c.self.view_is)) accepted (behind-late now c.in_ok-first.first ps (grind (arith, tests, e)) first.least)

pub returns-then-first-le-MAX_MOMENT-clause-reached : goal.returns-then-first-le-MAX_MOMENT-clause-reached
returns-then-first-le-MAX_MOMENT-clause-reached g c =
    let ps : List TableEntry = c.self.inside.table in
    let first : IsFirstTimer ps c.in_ok-first.first = search rules in
    λ now accepted e. reached-changed c.args.self.now now ps c.in_ok-first.first (sym (ap (λ (w : World). w.dialogues) c.self.view_is)) accepted first (grind (arith, tests, e))

pub returns-else-first-le-MAX_MOMENT-clause-value : goal.returns-else-first-le-MAX_MOMENT-clause-value
returns-else-first-le-MAX_MOMENT-clause-value g c =
    let ps : List TableEntry = c.self.inside.table in
    let first : IsFirstTimer ps c.in_ok-first.first = search rules in
    let beyond : moment_limit < c.in_ok-first.first.0 = search (rules, arith) in
    sym (next-first c.args.self.now ps c.in_ok-first.first (sym (ap (λ (w : World). w.dialogues) c.self.view_is)) c.self.invariant.from first ∙ is-beyond c.in_ok-first.first.0 beyond)

pub returns-else-first-le-MAX_MOMENT-clause-before : goal.returns-else-first-le-MAX_MOMENT-clause-before
returns-else-first-le-MAX_MOMENT-clause-before g c =
    let ps : List TableEntry = c.self.inside.table in
    let first : IsFirstTimer ps c.in_ok-first.first = search rules in
    let beyond : moment_limit < c.in_ok-first.first.0 = search (rules, arith) in
    λ now accepted e. late-still c.args.self.now now ps (sym (ap (λ (w : World). w.dialogues) c.self.view_is)) accepted (behind-late now c.in_ok-first.first ps (let high = accepted.1 in omega (arith, beyond, high)) first.least)
