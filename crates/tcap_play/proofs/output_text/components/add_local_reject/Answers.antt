use Rattle.std.proofs.Common.{codes, string_bytes}
use Rattle.tcap_component.specs.Views.{problem_parts}
use Rattle.tcap_play.specs.OutputText.{place_words}
use Rattle.tcap_play.proofs.RejectTexts.{after_five}
use Rattle.tcap_words.specs.ComponentText.{identifier_words, problem_words}
use Rattle.tcap_play.proofs.output_text.components.add_local_reject.Goals as goal

pub returns : goal.returns
returns g c =
    after_five c.add_problem.result (string_bytes c.args.text.now) (string_bytes c.add_unnumbered.new.text) (string_bytes c.push_str.new.self) (string_bytes c.add_problem.new.text)
    (codes "localreject") (codes " ") (place_words c.args.dialogue) (codes " id ") (identifier_words c.args.id) (codes " ") (problem_words (problem_parts c.args.problem))
    c.in_ok-add_unnumbered.ensures c.in_ok-push_str.ensures.bytes c.add_problem.ensures.ok
