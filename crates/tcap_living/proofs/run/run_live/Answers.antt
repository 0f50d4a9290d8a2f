use Rattle.std.proofs.Common.{rules, arith, ◌<◌, ◌≤◌, [], ◌∷◌, length, take, subst}
use Rattle.std.proofs.lemmas.Result.{err_from_is_err_and}
use Rattle.std.specs.Io.KnownBytes.{Consumes}
use Rattle.tcap_engine.specs.Limits.{empty_history}
use Rattle.tcap_living.proofs.Goings.{begun, ended, endless, goes_on, halted, room, unended, untaken}
use Rattle.tcap_living.proofs.run.run_live.Goals as goal

pub loop-init : goal.loop-init
loop-init g c = begun _ _ _ _ c.new-session.ensures.answered c.new-session.ensures.line

pub returns-in_default : goal.returns-in_default
returns-in_default g c = halted _ _ _ _ _ _ _ c.loop.invariant _ c.in_default.ensures.bytes

pub answer-requires : goal.answer-requires
answer-requires g c =
    let low : c.loop.counter < 1125899906842624 = search (rules, arith) in
    room _ _ _ _ _ _ _ c.loop.invariant (0 ∷ []) low (omega arith)

pub returns-in_err-answer : goal.returns-in_err-answer
returns-in_err-answer g c =
    let going = c.loop.invariant in
    let none : Consumes (g.R.Read.remaining c.loop.reader) (g.R.Read.remaining c.read.new.self) [] =
    subst (λ n. Consumes (g.R.Read.remaining c.loop.reader) (g.R.Read.remaining c.read.new.self) (take n c.read.new.buf)) c.if-count-eq0.true c.in-Ok.ensures.bytes.0 in
    let p = err_from_is_err_and c.from_residual.result c.from_residual.ensures.1 in
    rw (p.1, p.2) (unended _ _ _ _ _ _ _ going _ none _ _ (c.in_err-answer.ensures.answered (empty_history c.args.limits c.args.first_dialogue c.args.first_number) going.whole going.answered))

pub returns-then-count-eq0 : goal.returns-then-count-eq0
returns-then-count-eq0 g c =
    let going = c.loop.invariant in
    let none : Consumes (g.R.Read.remaining c.loop.reader) (g.R.Read.remaining c.read.new.self) [] =
    subst (λ n. Consumes (g.R.Read.remaining c.loop.reader) (g.R.Read.remaining c.read.new.self) (take n c.read.new.buf)) c.if-count-eq0.true c.in-Ok.ensures.bytes.0 in
    let roomy : 0 < length c.read.new.buf = omega (arith, c.read.auto.buf) in
    rw c.is_good.ensures (ended _ _ _ _ _ _ _ going _ none _ _ (c.in-Ok.ensures.bytes.1 c.if-count-eq0.true roomy) (c.in_ok-answer.ensures.answered (empty_history c.args.limits c.args.first_dialogue c.args.first_number) going.whole going.answered))

pub take-requires : goal.take-requires
take-requires g c =
    let low : c.loop.counter < 1125899906842624 = search (rules, arith) in
    let few : length (take c.in-Ok.count c.read.new.buf) ≤ 4096 = omega (arith, c.in-Ok.ensures.bound, c.read.auto.buf) in
    room _ _ _ _ _ _ _ c.loop.invariant (take c.in-Ok.count c.read.new.buf) low few

pub returns-in_err-take : goal.returns-in_err-take
returns-in_err-take g c =
    let going = c.loop.invariant in
    let got = take c.in-Ok.count c.read.new.buf in
    let few : length got ≤ 4096 = omega (arith, c.in-Ok.ensures.bound, c.read.auto.buf) in
    let p = err_from_is_err_and c.from_residual-in_err-take.result c.from_residual-in_err-take.ensures.1 in
    rw (p.1, p.2) (untaken _ _ _ _ _ _ _ going _ got c.in-Ok.ensures.bytes.0 _ _ few (c.in_err-take.ensures (empty_history c.args.limits c.args.first_dialogue c.args.first_number) going.whole going.answered))

pub loop-preserved : goal.loop-preserved
loop-preserved g c =
    let going = c.loop.invariant in
    let got = take c.in-Ok.count c.read.new.buf in
    let some : 0 < length got = omega (arith, c.if-count-eq0.false, c.in-Ok.ensures.bound) in
    let few : length got ≤ 4096 = omega (arith, c.in-Ok.ensures.bound, c.read.auto.buf) in
    goes_on _ _ _ _ _ _ _ going _ got c.in-Ok.ensures.bytes.0 _ _ some few (c.in_ok-take.ensures (empty_history c.args.limits c.args.first_dialogue c.args.first_number) going.whole going.answered)

pub returns : goal.returns
returns g c = endless _ _ _ _ _ _ _ c.loop.invariant (search (rules, arith))
