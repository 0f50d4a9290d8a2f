use Rattle.std.proofs.Common.{◌∙◌, ◌+◌, ap, string_bytes}
use Rattle.tcap_play.specs.Pieces.{pieces_left}
use Rattle.tcap_play.specs.Play.{behind, printed_from}
use Rattle.tcap_play.proofs.PlayLines.{ended}
use Rattle.tcap_play.proofs.play.play_lines.Goals as goal

pub returns : goal.returns
returns g c p at =
    let now = c.loop-rest.invariant.0 p at in
    let text = string_bytes c.loop-rest.text in
    let number = c.loop-rest.number + 1 in
    now.2 ∙ ap (λ rest. behind text (printed_from number now.0 (pieces_left 10 rest))) c.in_default.is ∙ ended text number now.0
