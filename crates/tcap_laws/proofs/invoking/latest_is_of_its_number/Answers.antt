use Rattle.tcap_laws.proofs.Spans.LatestInvocations.{latest_is}
use Rattle.tcap_laws.proofs.invoking.latest_is_of_its_number.Goals as goal

pub returns : goal.returns
returns c = λ h dialogue id i legal e. let l =
    latest_is h.start h.pairs dialogue id i legal.1 e in (l.dialogue_is, l.id_is, l.is_found)
