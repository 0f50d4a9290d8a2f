use Rattle.std.proofs.Common.{◌≡◌, ◌++◌, drop}
use Rattle.std.specs.List.{flat_map}
use Rattle.std.specs.Prelude.{string_bytes}
use Rattle.tcap_judging.specs.MarkedText.{mark}
use Rattle.tcap_judging.proofs.marked_text.add_each_mark.Given as goal

-- what was added so far, with what is left, is all
abbrev pub invariant-loop-octet : goal.invariant-loop-octet
invariant-loop-octet g l =
    string_bytes l.text ++ flat_map mark (drop l.octet-index l.octets) ≡ string_bytes l.fn.text ++ flat_map mark l.octets
