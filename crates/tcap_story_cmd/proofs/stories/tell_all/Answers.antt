use Rattle.std.proofs.Common.{rules, tests, ◌≡◌, ◌+◌, refl, subst, sym, drop, map}
use Rattle.tcap_story_cmd.specs.Run.{AreTold}
use Rattle.tcap_story_cmd.proofs.TellingLemmas.{told_next}
use Rattle.tcap_story_cmd.proofs.stories.tell_all.Goals as goal

pub loop-name-preserved : goal.loop-name-preserved
loop-name-preserved g c =
    let l = c.loop-name in
    let names = c.args.names.now in
    let octets_of = g.S.Sources.octets_of c.args.sources.now in
    let after = c.take_story.new.text.items in
    let reader = c.take_story.new.reader in
    let had = g.R.Read.remaining c.args.reader.now in
    let left = g.R.Read.remaining reader in
    subst (λ t. AreTold c.args.report octets_of (map (λ n. n.now) names) (map (λ n. n.now) (drop (l.name-index + 1) names)) had left c.args.text.now.items after t × (t.passed + t.failed + t.not_read ≡ l.name-index + 1))
    (sym c.with-tally.ensures)
    (told_next c.args.report octets_of names l.name-index _ _ had (g.R.Read.remaining l.reader) left c.args.text.now.items l.text.items after l.tally c.in_ok-verdict.verdict (search (rules, tests)) refl l.invariant c.in_ok-verdict.ensures)
