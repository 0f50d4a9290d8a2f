use Rattle.std.proofs.Common.{◌≡◌, ◌+◌, drop, map}
use Rattle.tcap_story_cmd.specs.CommandLine.{junit_count}
use Rattle.tcap_story_cmd.proofs.words.junit_count.Given as goal

-- those counted, and those among the words that are left, are all
abbrev pub invariant-loop-word : goal.invariant-loop-word
invariant-loop-word l =
    (junit_count (map (λ w. w.now) l.words) ≡ l.count + junit_count (map (λ w. w.now) (drop l.word-index l.words)))
    × (l.count ≡ l.word-index)
