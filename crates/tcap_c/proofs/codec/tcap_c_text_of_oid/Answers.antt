use Rattle.std.proofs.Common.{◌∙◌}
use Rattle.tcap_c.proofs.CodecLemmas.{given}
use Rattle.tcap_c.proofs.codec.tcap_c_text_of_oid.Goals as goal

pub returns-in-Some-clause-named : goal.returns-in-Some-clause-named
returns-in-Some-clause-named c text names =
    given c.as_bytes.result.now text c.number.result _ _ _ _ (c.as_bytes.ensures.value ∙ c.as_str.ensures ∙ c.in-Some.ensures.only text names) c.number.ensures c.fill.ensures

pub returns-in-None-clause-named : goal.returns-in-None-clause-named
returns-in-None-clause-named c text names = absurd (c.in-None.ensures.only text names)
