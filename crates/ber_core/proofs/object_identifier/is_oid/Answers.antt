use Rattle.std.proofs.Common.{sym, ◌∙◌}
use Rattle.ber_core.proofs.ObjectIdentifierGrammar.{object_identifier_takes, object_identifier_again}
use Rattle.ber_core.proofs.object_identifier.is_oid.Goals as goal

pub returns-clause-is : goal.returns-clause-is
returns-clause-is c = (
  λ yes. object_identifier_takes c.args.content.now (sym c.is_identifier.ensures ∙ yes),
  λ is. c.is_identifier.ensures ∙ object_identifier_again c.args.content.now is,
)
