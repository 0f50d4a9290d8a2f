use Rattle.std.proofs.Common.{ap, sym}
use Rattle.tcap_play.specs.Opening.{opening_of}
use Rattle.tcap_play.specs.Play.{Printed, not_begun}
use Rattle.tcap_stories.proofs.StoryLemmas.{whole_told}
use Rattle.tcap_stories.proofs.story.story_text.Goals as goal

pub returns-clause-text : goal.returns-clause-text
returns-clause-text g c = ap (λ (told : Printed). told.text) (sym (
    whole_told c.in_ok-opening.opening (opening_of c.args.script.now) c.new-text.result.items c.tell_lines.new.text.items c.tell_if_played.new.text.items c.in_ok-good.good c.in_ok-played.played
    c.in_ok-opening.ensures.opening c.new-text.ensures.items (c.in_ok-good.ensures (not_begun c.in_ok-opening.opening.idle_ms) c.new-engines.ensures) c.in_ok-played.ensures))

pub returns-clause-good : goal.returns-clause-good
returns-clause-good g c = ap (λ (told : Printed). told.good) (sym (
    whole_told c.in_ok-opening.opening (opening_of c.args.script.now) c.new-text.result.items c.tell_lines.new.text.items c.tell_if_played.new.text.items c.in_ok-good.good c.in_ok-played.played
    c.in_ok-opening.ensures.opening c.new-text.ensures.items (c.in_ok-good.ensures (not_begun c.in_ok-opening.opening.idle_ms) c.new-engines.ensures) c.in_ok-played.ensures))
