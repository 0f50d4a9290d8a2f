use Rattle.tcap_component.specs.Views.{component_parts}
use Rattle.tcap_words.proofs.CanonicalFaults.{component_too_long}
use Rattle.tcap_words.proofs.rewrite.rewrite_component.Goals as goal

pub returns-in-Err-TooLong-clause-err : goal.returns-in-Err-TooLong-clause-err
returns-in-Err-TooLong-clause-err g c = component_too_long (component_parts c.args.component.now) c.in-Err-TooLong.field-0 c.in-Err-TooLong.ensures.err c.in-Err-TooLong.field-0-is
