use Rattle.std.proofs.Common.{◌≡◌, ◌+◌, ◌≤◌, drop, map}
use Rattle.tcap_play.specs.Pieces.{left, pieces_left}
use Rattle.tcap_lines.specs.Reading.{walk}
use Rattle.tcap_lines.specs.Table.{Wanted}
use Rattle.tcap_lines.proofs.reading.words_fault.Given as goal

-- what is wrong with the words that are left is what is wrong with all
abbrev pub invariant-loop-expected : goal.invariant-loop-expected
invariant-loop-expected l =
    (walk l.number l.before (map (λ expected. Wanted.what expected) (drop l.expected-index l.words)) (pieces_left 32 l.rest) ≡ walk l.fn.number l.fn.before (map (λ expected. Wanted.what expected) l.words) (pieces_left 32 l.fn.rest))
    × (l.number + left l.rest ≤ 18446744073709551615)
