use Rattle.std.proofs.Common.{◌≤◌, length}
use Rattle.std.specs.Io.KnownBytes.{Consumes}
use Rattle.tcap_text.proofs.input.read_script.Given as goal

-- what was read is kept, is no more than a script may have, and each read gave an octet
abbrev pub invariant-loop : goal.invariant-loop
invariant-loop g l =
    Consumes (g.R.Read.remaining l.initial.reader) (g.R.Read.remaining l.reader) l.script.items
    × (length l.script.items ≤ 1048576)
    × (l.counter ≤ length l.script.items)
