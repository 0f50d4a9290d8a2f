use Rattle.std.proofs.Common.{sym, ◌∙◌}
use Rattle.object_identifiers.proofs.Names.{named_again, dotted_again}
use Rattle.object_identifiers.proofs.laws.name_one_another.Goals as goal

pub returns-clause-text : goal.returns-clause-text
returns-clause-text c text other octets one two = let both = sym (dotted_again text octets one) ∙ dotted_again other octets two in cc

pub returns-clause-octets : goal.returns-clause-octets
returns-clause-octets c text octets other one two = let both = sym (named_again text octets one) ∙ named_again text other two in cc
