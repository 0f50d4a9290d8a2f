use Rattle.tcap_laws.proofs.Isolation.SeenBytes.{alone-bytes}
use Rattle.tcap_laws.proofs.alone.only_tells_bytes.Goals as goal

pub returns : goal.returns
returns c = λ h dialogue from bytes legal named. alone-bytes h dialogue legal from bytes named
