use Rattle.std.proofs.Common.{◌∙◌, ap, Result, of_calls, List}
use Rattle.std.specs.List.{list_all}
use Rattle.std.proofs.lemmas.Iterator.Search.{all_from_yields_List}
use Rattle.ber_core.proofs.CallerLemmas.{elements-yield}
use Rattle.ber_core.specs.Element.{Parts}
use Rattle.ber_core.specs.declared.fault.BerFault.{BerFault}
use Rattle.tcap_pdu.specs.DialoguePartsReading.{is_external}
use Rattle.tcap_pdu.proofs.dialogue_pdu.parts.are_externals.Goals as goal

pub returns : goal.returns
returns c = all_from_yields_List is_external _ _ c.all.result c.all.ensures.ran (elements-yield c.new.result) (search of_calls)
    ∙ ap (λ (items : List (Result Parts BerFault)). list_all is_external items) c.new.ensures.exact
