use Rattle.tcap_judging.proofs.Names.{is-text, visible_ascii}
use Rattle.tcap_judging.proofs.line_parts.name_text.Goals as goal

pub unwrap-requires : goal.unwrap-requires
unwrap-requires c = is-text _ _ c.args.name.now c.from_utf8.result c.from_utf8.ensures.cases (visible_ascii c.args.name.now c.requires)
