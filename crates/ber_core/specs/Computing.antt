-- What the worked examples compute with.
use Rattle.ber_core.specs.ElementReading.{end_at, contents_by, after_at, element_at}
use Rattle.ber_core.specs.HeadReading.{further_at, tag_at, length_at, head_at}
use Rattle.ber_core.specs.Length.{number_after}
use Rattle.ber_core.specs.Stream.{cut_by}

-- Whoever unfolds this name can run all that reads (own).
unfoldable pub computing : Unit {0}
unfolding end_at contents_by after_at element_at further_at tag_at length_at head_at number_after cut_by
computing = tt
