use Rattle.std.proofs.Common.{codes, option_copied}
use Rattle.tcap_stories.specs.Comparing.{front_words, output_words}
use Rattle.tcap_stories.proofs.PartLemmas.{all_four}
use Rattle.tcap_stories.proofs.comparing.add_failure.Goals as goal

pub returns : goal.returns
returns g c =
    all_four c.args.text.now.items c.add_front.new.text.items c.add_output.new.text.items c.add_output-2.new.text.items c.extend_from_slice.new.self.items
    (front_words c.args.line) (output_words (codes " failed: expected ") (option_copied c.args.wanted)) (output_words (codes ", found ") (option_copied c.args.found)) (codes "\n")
    c.in_ok-add_front.ensures c.in_ok-add_output.ensures c.in_ok-add_output-2.ensures c.in_ok-extend_from_slice.ensures.items
