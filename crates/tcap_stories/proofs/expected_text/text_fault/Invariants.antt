use Rattle.std.proofs.Common.{◌≡◌, ◌+◌, ◌≤◌}
use Rattle.tcap_play.specs.Pieces.{left, pieces_left}
use Rattle.tcap_stories.specs.ExpectedText.{first_unwritten, text_fault}
use Rattle.tcap_stories.proofs.expected_text.text_fault.Given as goal

-- what is wrong with the words that are left is what is wrong with all
abbrev pub invariant-loop-rest : goal.invariant-loop-rest
invariant-loop-rest l =
    (first_unwritten l.number (pieces_left 32 l.rest) ≡ text_fault l.text) × (l.number + left l.rest ≤ 18446744073709551615)

abbrev pub decreases-loop-rest : goal.decreases-loop-rest
decreases-loop-rest l = left l.rest
