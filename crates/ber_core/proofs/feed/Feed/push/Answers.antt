use Rattle.std.proofs.Common.{◌≡◌, ℕ, cond, List, [], ◌++◌, map, Some, None, refl, sym, ap, subst, ◌∙◌}
use Rattle.std.proofs.lemmas.Result.{err_from_is_err_and}
use Rattle.ber_core.specs.declared.fault.FeedFault.{FeedFault}
use Rattle.ber_core.specs.Stream.{Cut}
use Rattle.ber_core.specs.Feeding.{Left, left_by, StandsBehind, Completes, Fails}
use Rattle.ber_core.proofs.PushSteps.{faulty-push, cut-real, none-of, left-is, held-is, map-filled, ended-gives, ended-fails, gives-open, gives-within, gives-fault, fails-fault, wants-message, wants-octets, wants-within}
use Rattle.ber_core.proofs.feed.Feed.push.Goals as goal

pub returns-in-Some-clause-err : goal.returns-in-Some-clause-err
returns-in-Some-clause-err g c = λ stream h. faulty-push stream c.args.piece.now c.args.self.now c.in-Some.fault (ap (λ (l : Left). l.fault) (sym c.self.view_is) ∙ c.in-Some.is) h

pub returns-in-Some-within_content-clause-ok : goal.returns-in-Some-within_content-clause-ok
returns-in-Some-within_content-clause-ok g c = λ stream h.
    let begun = c.as_slice-begun.result.now in
    let none = none-of c.self.inside.fault c.in_default.not-Some in
    let old-is : left_by None begun ≡ c.args.self.now = left-is c.self.inside.fault c.self.inside.rest.items begun none (sym c.as_slice-begun.ensures.value) ∙ c.self.view_is in
    let held = c.in_ok-hold_behind.ensures.ok ∙ ap (λ (w : List ℕ). w ++ c.args.piece.now) (sym c.as_slice-begun.ensures.value) in
    rw c.new.ensures.items (subst (Completes stream c.args.piece.now []) (left-is c.self.inside.fault c.hold_behind.new.rest.items (begun ++ c.args.piece.now) none held)
    (gives-within stream c.args.piece.now begun (subst (StandsBehind stream) (sym old-is) h) c.in-Some-within_content.scanner c.in-Some-within_content.ensures))

pub returns-in_err-hold_behind-clause-err : goal.returns-in_err-hold_behind-clause-err
returns-in_err-hold_behind-clause-err g c = λ stream h.
    let begun = c.as_slice-begun.result.now in
    let none = none-of c.self.inside.fault c.in_default.not-Some in
    let old-is : left_by None begun ≡ c.args.self.now = left-is c.self.inside.fault c.self.inside.rest.items begun none (sym c.as_slice-begun.ensures.value) ∙ c.self.view_is in
    let p = err_from_is_err_and c.from_residual.result c.from_residual.ensures.1 in
    rw (p.1, p.2) (rw c.in_err-hold_behind.ensures.err c.self.view_is, wants-within stream c.args.piece.now begun (subst (StandsBehind stream) (sym old-is) h) c.in-Some-within_content.scanner c.in-Some-within_content.ensures c.in_err-hold_behind.ensures.full)

pub returns-in_ok-hold-in-Open-clause-ok : goal.returns-in_ok-hold-in-Open-clause-ok
returns-in_ok-hold-in-Open-clause-ok g c = λ stream h.
    let begun = c.as_slice-begun.result.now in
    let messages = c.in_ok-messages.messages in
    let none = none-of c.self.inside.fault c.in_default.not-Some in
    let old-is : left_by None begun ≡ c.args.self.now = left-is c.self.inside.fault c.self.inside.rest.items begun none (sym c.as_slice-begun.ensures.value) ∙ c.self.view_is in
    let ends = (rw c.in-Open.is at c.in_ok-messages.ensures.ok) in
    let held = held-is (λ message. message.items) messages.items _ c.is_empty.result begun messages.ok.0 c.is_empty.ensures in
    subst (Completes stream c.args.piece.now (map (λ message. message.items) messages.items))
    (left-is c.self.inside.fault c.hold.new.rest.items _ none (c.in_ok-hold-in-Open.ensures.ok ∙ ap (λ (w : List ℕ). w ++ c.in-Open.octets.now) (ap (λ (w : List ℕ). cond c.is_empty.result w []) (sym c.as_slice-begun.ensures.value) ∙ held)))
    (gives-open stream c.args.piece.now begun (subst (StandsBehind stream) (sym old-is) h) _ _ ends.0)

pub invariant_of-self-in-Open : goal.invariant_of-self-in-Open
invariant_of-self-in-Open g c =
    let begun = c.as_slice-begun.result.now in
    let messages = c.in_ok-messages.messages in
    let none = none-of c.self.inside.fault c.in_default.not-Some in
    let ends = (rw c.in-Open.is at c.in_ok-messages.ensures.ok) in
    let held = held-is (λ message. message.items) messages.items _ c.is_empty.result begun messages.ok.0 c.is_empty.ensures in
    let is = c.in_ok-hold-in-Open.ensures.ok ∙ ap (λ (w : List ℕ). w ++ c.in-Open.octets.now) (ap (λ (w : List ℕ). cond c.is_empty.result w []) (sym c.as_slice-begun.ensures.value) ∙ held) in
    rw (none, is) ends.1

pub returns-in-Fault-clause-ok : goal.returns-in-Fault-clause-ok
returns-in-Fault-clause-ok g c = λ stream h.
    let begun = c.as_slice-begun.result.now in
    let told = c.in_ok-messages.messages.items in
    let none = none-of c.self.inside.fault c.in_default.not-Some in
    let old-is : left_by None begun ≡ c.args.self.now = left-is c.self.inside.fault c.self.inside.rest.items begun none (sym c.as_slice-begun.ensures.value) ∙ c.self.view_is in
    let ends = (rw c.in-Fault.is at c.in_ok-messages.ensures.ok) in
    rw (c.end_with.ensures.stands, c.end_with.ensures.rest) (ended-gives told (λ all. all.items) (map (λ message. message.items)) (λ (w : List (List ℕ)). Completes stream c.args.piece.now w (left_by (Some c.in-Fault.fault) [])) c.end_with.result c.end_with.ensures.ok (λ some.
    gives-fault stream c.args.piece.now begun (subst (StandsBehind stream) (sym old-is) h) _ ends.0 c.in-Fault.fault (map-filled (λ message. message.items) told some) ends.1))

pub returns-in-Fault-clause-err : goal.returns-in-Fault-clause-err
returns-in-Fault-clause-err g c = λ stream h.
    let begun = c.as_slice-begun.result.now in
    let told = c.in_ok-messages.messages.items in
    let none = none-of c.self.inside.fault c.in_default.not-Some in
    let old-is : left_by None begun ≡ c.args.self.now = left-is c.self.inside.fault c.self.inside.rest.items begun none (sym c.as_slice-begun.ensures.value) ∙ c.self.view_is in
    let ends = (rw c.in-Fault.is at c.in_ok-messages.ensures.ok) in
    rw (c.end_with.ensures.stands, c.end_with.ensures.rest) (ended-fails told (λ (f : FeedFault). Fails stream c.args.piece.now c.args.self.now f (left_by (Some c.in-Fault.fault) [])) c.in-Fault.fault c.end_with.result c.end_with.ensures.err (λ empty.
    fails-fault stream c.args.piece.now begun (subst (StandsBehind stream) (sym old-is) h) _ ends.0 c.in-Fault.fault c.args.self.now (ap (map (λ message. message.items)) empty) ends.1))

pub returns-in-Fault-clause-refused : goal.returns-in-Fault-clause-refused
returns-in-Fault-clause-refused g c = λ refused.
    let ends = (rw c.in-Fault.is at c.in_ok-messages.ensures.ok) in
    let told = (rw refused at c.end_with.ensures.err) in
    absurd (cut-real (c.as_slice-begun.result.now ++ c.args.piece.now) (ap (λ (cut : Cut). cut.fault) ends.1 ∙ ap (λ (f : FeedFault). Some f) (sym told.0)))

pub returns-in_err-messages-clause-err : goal.returns-in_err-messages-clause-err
returns-in_err-messages-clause-err g c = λ stream h.
    let begun = c.as_slice-begun.result.now in
    let none = none-of c.self.inside.fault c.in_default.not-Some in
    let old-is : left_by None begun ≡ c.args.self.now = left-is c.self.inside.fault c.self.inside.rest.items begun none (sym c.as_slice-begun.ensures.value) ∙ c.self.view_is in
    let p = err_from_is_err_and c.from_residual-in_err-messages.result c.from_residual-in_err-messages.ensures.1 in
    rw (p.1, p.2) (refl, wants-message stream c.args.piece.now begun (subst (StandsBehind stream) (sym old-is) h) c.in_err-messages.ensures.err)

pub returns-in_err-hold-in-Open-clause-err : goal.returns-in_err-hold-in-Open-clause-err
returns-in_err-hold-in-Open-clause-err g c = λ stream h.
    let begun = c.as_slice-begun.result.now in
    let none = none-of c.self.inside.fault c.in_default.not-Some in
    let old-is : left_by None begun ≡ c.args.self.now = left-is c.self.inside.fault c.self.inside.rest.items begun none (sym c.as_slice-begun.ensures.value) ∙ c.self.view_is in
    let ends = (rw c.in-Open.is at c.in_ok-messages.ensures.ok) in
    let p = err_from_is_err_and c.from_residual-in_err-hold-in-Open.result c.from_residual-in_err-hold-in-Open.ensures.1 in
    let under_way = (rw (none, ← c.as_slice-begun.ensures.value) at c.self.invariant) in
    rw (p.1, p.2) (rw c.in_err-hold-in-Open.ensures.err c.self.view_is, wants-octets stream c.args.piece.now begun (subst (StandsBehind stream) (sym old-is) h) _ c.in-Open.octets.now c.self.inside.scanner under_way ends.0 c.in_err-hold-in-Open.ensures.full)
