use Rattle.std.proofs.Common.{◌∙◌, sym}
use Rattle.ber_core.proofs.Octets.{further_at-passed, further_at-last, further_at-short, further_at-none}
use Rattle.ber_core.proofs.head.count_further.Goals as goal

pub returns-then-i-bytes-clause-value : goal.returns-then-i-bytes-clause-value
returns-then-i-bytes-clause-value c = sym c.loop-i.invariant ∙ further_at-short _ _ c.loop-i-test.true c.if-i-bytes.true

pub returns-then-bytes-i-lt128-clause-value : goal.returns-then-bytes-i-lt128-clause-value
returns-then-bytes-i-lt128-clause-value c = sym c.loop-i.invariant ∙ further_at-last _ _ c.loop-i-test.true c.if-i-bytes.false c.if-bytes-i-lt128.true

pub loop-i-preserved : goal.loop-i-preserved
loop-i-preserved c = further_at-passed _ _ c.loop-i-test.true c.if-i-bytes.false c.if-bytes-i-lt128.false ∙ c.loop-i.invariant

pub returns-clause-value : goal.returns-clause-value
returns-clause-value c = sym c.loop-i.invariant ∙ further_at-none _ _ c.loop-i-test.false
