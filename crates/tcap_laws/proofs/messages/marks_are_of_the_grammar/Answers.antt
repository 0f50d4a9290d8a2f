use Rattle.std.proofs.Common.{refl}
use Rattle.tcap_pdu.specs.FrameReading.{frame_at}
use Rattle.tcap_laws.proofs.Receptions.NamedBytes.{grammar-by_name, named-by_grammar}
use Rattle.tcap_laws.proofs.Receptions.NormalPortions.{normal-verdict, abnormal-verdict}
use Rattle.tcap_laws.proofs.Receptions.ReceivedMarks.{components-marks, spelled-names, means-marks, reached-means}
use Rattle.tcap_laws.proofs.messages.marks_are_of_the_grammar.Goals as goal

pub returns-clause-components : goal.returns-clause-components
returns-clause-components c = components-marks

pub returns-clause-named : goal.returns-clause-named
returns-clause-named c = λ dialogue m from bytes. spelled-names dialogue m bytes

pub returns-clause-by_grammar : goal.returns-clause-by_grammar
returns-clause-by_grammar c = λ dialogue from bytes. (grammar-by_name dialogue bytes, named-by_grammar dialogue bytes)

pub returns-clause-normal : goal.returns-clause-normal
returns-clause-normal c = normal-verdict

pub returns-clause-abnormal : goal.returns-clause-abnormal
returns-clause-abnormal c = abnormal-verdict

pub returns-clause-made : goal.returns-clause-made
returns-clause-made c = means-marks

pub returns-clause-some : goal.returns-clause-some
returns-clause-some c =
    λ dialogue id state context bytes pair past reaches.
    reached-means dialogue id state context bytes pair past reaches (frame_at bytes) refl
