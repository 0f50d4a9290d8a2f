use Rattle.std.proofs.Common.{◌∙◌}
use Rattle.tcap_c.proofs.CodecLemmas.{given}
use Rattle.tcap_c.proofs.codec.tcap_c_oid_of_text.Goals as goal

pub returns-in-Some-clause-named : goal.returns-in-Some-clause-named
returns-in-Some-clause-named c octets names =
    given c.octets.result.now octets c.number.result _ _ _ _ (c.octets.ensures ∙ c.in-Some.ensures.only octets names) c.number.ensures c.fill.ensures

pub returns-in-None-clause-named : goal.returns-in-None-clause-named
returns-in-None-clause-named c octets names = absurd (c.in-None.ensures.only octets names)
