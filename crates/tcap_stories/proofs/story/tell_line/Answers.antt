use Rattle.std.proofs.Common.{rules, ◌≡◌}
use Rattle.tcap_stories.specs.StoryLine.{StoryLine, kind_of}
use Rattle.tcap_stories.proofs.StoryLemmas.{expects_ok, passes}
use Rattle.tcap_stories.proofs.story.tell_line.Goals as goal

pub returns-in-Skipped : goal.returns-in-Skipped
returns-in-Skipped g c p at =
    let is : kind_of c.args.line.now ≡ StoryLine.skipped = search rules in
    passes c.args.number c.args.line.now p c.args.comparing.now c.args.engines.now c.args.text.now.items is at

pub returns-in-Expects : goal.returns-in-Expects
returns-in-Expects g c =
    let is : kind_of c.args.line.now ≡ StoryLine.expects c.in-Expects.wanted.now = search rules in
    expects_ok c.expect.result c.args.number c.args.line.now c.args.comparing.now c.expect.new.comparing c.args.engines.now c.args.text.now.items c.expect.new.text.items c.in-Expects.wanted.now is c.expect.ensures.held c.expect.ensures.goes_on
