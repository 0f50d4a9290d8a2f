use Rattle.std.proofs.Common.{◌≡◌, drop, map}
use Rattle.std.specs.List.{list_any}
use Rattle.tcap_story_cmd.specs.CommandLine.{is_option}
use Rattle.tcap_story_cmd.proofs.words.stories_if.Given as goal

-- an option is among the names that are left, or there is none
abbrev pub invariant-loop-name : goal.invariant-loop-name
invariant-loop-name l = list_any is_option (map (λ n. n.now) (drop l.name-index l.names)) ≡ list_any is_option (map (λ n. n.now) l.fn.names)
