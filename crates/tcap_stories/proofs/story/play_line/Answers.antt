use Rattle.std.proofs.Common.{sym, string_bytes}
use Rattle.tcap_play.specs.Play.{step_by}
use Rattle.tcap_stories.proofs.StoryLemmas.{did, did_not}
use Rattle.tcap_stories.proofs.story.play_line.Goals as goal

pub returns-then-branch : goal.returns-then-branch
returns-then-branch g c p at =
    let bytes = c.as_bytes.ensures.value in
    did c.args.number c.args.line.now (step_by p c.args.line.now) c.in_ok-next.next c.play_line.new.self (string_bytes c.new-printed.result) (string_bytes c.play_line.new.text) c.args.text.now.items c.tell_outputs.new.text.items
    c.new-printed.ensures.bytes (rw (sym c.if-branch.true) (c.in_ok-play_line.ensures p at)) (rw bytes at c.in_ok-next.ensures.told) (rw bytes at c.in_ok-next.ensures.left)

pub returns : goal.returns
returns g c p at =
    did_not c.args.number c.args.line.now (step_by p c.args.line.now) c.play_line.new.self (string_bytes c.new-printed.result) (string_bytes c.play_line.new.text) c.args.text.now.items c.add_bad_line.new.text.items
    (rw (sym c.if-branch.false) (c.in_ok-play_line.ensures p at)) c.in_ok-add_bad_line.ensures
