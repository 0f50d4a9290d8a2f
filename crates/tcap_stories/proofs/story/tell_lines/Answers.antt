use Rattle.std.proofs.Common.{◌+◌, ap, true}
use Rattle.tcap_play.specs.Pieces.{pieces_left}
use Rattle.tcap_stories.specs.Comparing.{and_then}
use Rattle.tcap_stories.specs.Views.{so_far, told_at}
use Rattle.tcap_stories.proofs.StoryLemmas.{all_told}
use Rattle.tcap_stories.proofs.story.tell_lines.Goals as goal

pub returns : goal.returns
returns g c p at =
    let l = c.loop-rest in
    let now = l.invariant.0 p at in
    all_told (and_then (so_far c.args.text.now.items true) (told_at c.args.opening p)) l.text.items c.end.new.text.items l.good c.in_ok-good.field-0 l.comparing (l.number + 1) now.0 (pieces_left 10 l.rest) now.2 (ap (pieces_left 10) c.in_default.is) c.in_ok-good.ensures
