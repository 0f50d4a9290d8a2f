use Rattle.std.proofs.Common.{subst}
use Rattle.tcap_play.specs.Play.{step_by}
use Rattle.tcap_stories.specs.Views.{PlaysAs}
use Rattle.tcap_stories.proofs.StoryLemmas.{goes_on, stops}
use Rattle.tcap_stories.proofs.story.play.Goals as goal

pub returns-in-Some : goal.returns-in-Some
returns-in-Some g c p at =
    goes_on c.args.number c.args.line.now p c.in_ok-good.good c.args.comparing.now c.in-Some.next c.play_line.new.engines c.args.text.now.items c.end.new.text.items c.play_line.new.text.items c.requires c.in_ok-good.ensures
    (subst (λ n. PlaysAs c.args.number c.args.line.now (step_by p c.args.line.now) n c.play_line.new.engines c.end.new.text.items c.play_line.new.text.items) c.in-Some.is (c.in_ok-played.ensures p at))

pub returns-in-None : goal.returns-in-None
returns-in-None g c p at =
    stops c.args.number c.args.line.now p c.in_ok-good.good c.args.comparing.now c.args.comparing.now c.play_line.new.engines c.args.text.now.items c.end.new.text.items c.play_line.new.text.items c.requires c.in_ok-good.ensures
    (subst (λ n. PlaysAs c.args.number c.args.line.now (step_by p c.args.line.now) n c.play_line.new.engines c.end.new.text.items c.play_line.new.text.items) c.in-None.is (c.in_ok-played.ensures p at))
