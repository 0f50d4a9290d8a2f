use Rattle.std.proofs.Common.{◌∙◌}
use Rattle.tcap_play.proofs.MessagePlaces.{is_same-view}
use Rattle.tcap_play.proofs.message.is_in.Goals as goal

pub returns : goal.returns
returns c = c.is.ensures ∙ is_same-view c.args.fate c.args.own
