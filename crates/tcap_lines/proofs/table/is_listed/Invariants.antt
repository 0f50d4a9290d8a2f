use Rattle.std.proofs.Common.{◌≡◌, bytes_eq, drop, map}
use Rattle.std.specs.List.{list_any}
use Rattle.tcap_lines.proofs.table.is_listed.Given as goal

-- the word is among those that are left, or it is none of all
abbrev pub invariant-loop-listed : goal.invariant-loop-listed
invariant-loop-listed l = list_any (bytes_eq l.word) (map (λ w. w.now) (drop l.listed-index l.words)) ≡ list_any (bytes_eq l.word) (map (λ w. w.now) l.fn.words)
