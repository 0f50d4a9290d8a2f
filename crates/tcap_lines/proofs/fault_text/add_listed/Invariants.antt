use Rattle.std.proofs.Common.{◌≡◌, ◌++◌, drop, map, string_bytes}
use Rattle.tcap_lines.specs.FaultText.{name_words}
use Rattle.tcap_lines.proofs.fault_text.add_listed.Given as goal

-- what was added, and the words that are left, are all
abbrev pub invariant-loop-word : goal.invariant-loop-word
invariant-loop-word g l =
    string_bytes l.text ++ name_words (map (λ w. w.now) (drop l.word-index l.words)) ≡ string_bytes l.fn.text ++ name_words (map (λ w. w.now) l.words)
