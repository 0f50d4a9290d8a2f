use Rattle.std.proofs.Common.{◌≡◌, ℕ, ◌-◌, ◌<◌, ◌≤◌, ◌++◌, List, length, refl, ap, arith}
use Rattle.std.proofs.lemmas.Result.{err_from_is_err_and}
use Rattle.std.proofs.lemmas.List.{take_rest, length-drop, length-take}
use Rattle.ber_core.specs.Scanning.{goes_on}
use Rattle.ber_core.proofs.FeedSteps.{under_way-fault, under_way-whole, under_way-long, behind-on}
use Rattle.ber_core.proofs.feed.pieces.split_piece.Goals as goal

pub returns-in_err-next : goal.returns-in_err-next
returns-in_err-next c =
    let p = err_from_is_err_and c.from_residual.result c.from_residual.ensures.1 in
    rw (p.1, p.2) (under_way-fault c.args.scanner c.args.begun.now c.args.piece.now c.window-octets.result.now c.in_err-next.field-0.0 c.requires c.window-octets.ensures c.in_err-next.ensures.err.0 c.in_err-next.ensures.err.1)

pub returns-in-None : goal.returns-in-None
returns-in-None c =
    let window = c.window-octets.result.now in
    let after = c.in_ok-next.after.now in
    let n = length window - length after in
    let on = (rw c.in-None.is at c.in_ok-next.ensures.ok) in
    let lt : length after < length window = (rw c.in-None.is at c.in_ok-next.ensures.whole) in
    let size : length window ≤ length c.args.piece.now = omega (arith, ap length c.window-octets.ensures, length-take (65535 - length c.args.begun.now) c.args.piece.now) in
    let whole = under_way-whole c.args.scanner c.args.begun.now c.args.piece.now window after n c.requires c.window-octets.ensures on (omega (arith, lt)) refl in
    rw (take_rest c.args.piece.now n) (whole, omega (arith, lt, size, length-drop n c.args.piece.now))

pub returns-in-Some : goal.returns-in-Some
returns-in-Some c =
    let window = c.window-octets.result.now in
    let none = (rw c.in-Some.is at c.in_ok-next.ensures.all) in
    let on : (more : List ℕ) → goes_on c.in-Some.field-0 more ≡ goes_on c.args.scanner (window ++ more) = (rw (c.in-Some.is, none) at c.in_ok-next.ensures.ok) in
    under_way-long c.in-Some.field-0 c.args.begun.now c.args.piece.now window c.requires.1 c.window-octets.ensures (behind-on c.args.scanner c.in-Some.field-0 c.args.begun.now window c.requires.0 on) c.if-octets-piece.true
