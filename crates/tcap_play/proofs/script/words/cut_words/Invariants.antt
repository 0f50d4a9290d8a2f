use Rattle.std.proofs.Common.{◌≡◌, ◌++◌}
use Rattle.tcap_play.specs.LineViews.{texts_of}
use Rattle.tcap_play.specs.Pieces.{left, pieces_left, words_of}
use Rattle.tcap_play.proofs.script.words.cut_words.Given as goal

abbrev pub invariant-loop-rest : goal.invariant-loop-rest
invariant-loop-rest g l = words_of l.line ≡ texts_of l.words.items ++ pieces_left 32 l.rest

abbrev pub decreases-loop-rest : goal.decreases-loop-rest
decreases-loop-rest g l = left l.rest
