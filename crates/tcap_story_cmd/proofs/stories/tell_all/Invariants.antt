use Rattle.std.proofs.Common.{◌≡◌, ◌+◌, drop, map}
use Rattle.tcap_story_cmd.specs.Run.{AreTold}
use Rattle.tcap_story_cmd.proofs.stories.tell_all.Given as goal

-- the stories of the names before this one were told, and each counted
abbrev pub invariant-loop-name : goal.invariant-loop-name
invariant-loop-name g l =
    AreTold l.report (g.S.Sources.octets_of l.sources) (map (λ n. n.now) l.names) (map (λ n. n.now) (drop l.name-index l.names)) (g.R.Read.remaining l.fn.reader) (g.R.Read.remaining l.reader) l.fn.text.items l.text.items l.tally
    × (l.tally.passed + l.tally.failed + l.tally.not_read ≡ l.name-index)
