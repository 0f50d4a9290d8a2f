use Rattle.std.proofs.Common.{[], refl}
use Rattle.std.proofs.KnownBytes.{Appends-nil}
use Rattle.tcap_text.proofs.StreamEnds.{completed-of}
use Rattle.tcap_text.proofs.stream.take_piece.Goals as goal

pub returns-in-Err-OutOfMemory : goal.returns-in-Err-OutOfMemory
returns-in-Err-OutOfMemory g c stream stands none = record {
  completed = _;
  are_completed = completed-of stream c.args.piece.now;
  untold = record { told = []; untold = _; are_messages = refl; written = Appends-nil (g.W.Write.contents c.args.writer.now) };
}
