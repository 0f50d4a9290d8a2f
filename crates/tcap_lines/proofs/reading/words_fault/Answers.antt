use Rattle.std.proofs.Common.{rules, ◌∙◌, ◌≤◌, length}
use Rattle.tcap_play.specs.Pieces.{pieces_left}
use Rattle.tcap_lines.proofs.TableLemmas.{words_over}
use Rattle.tcap_lines.proofs.reading.words_fault.Goals as goal

pub returns : goal.returns
returns c =
    let l = c.loop-expected in
    let past : length c.args.words.now ≤ l.expected-index = search rules in
    c.end_fault.ensures l.before.now ∙ words_over c.args.words.now l.expected-index l.number l.before.now (pieces_left 32 l.rest) _ past l.invariant.0
