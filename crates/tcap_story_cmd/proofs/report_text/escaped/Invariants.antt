use Rattle.std.proofs.Common.{◌≡◌, ◌++◌, drop}
use Rattle.tcap_story_cmd.specs.Report.{escaped}
use Rattle.tcap_story_cmd.proofs.report_text.escaped.Given as goal

-- what was added, and the octets that are left, are all
abbrev pub invariant-loop-octet : goal.invariant-loop-octet
invariant-loop-octet g l = l.text.items ++ escaped (drop l.octet-index l.octets) ≡ escaped l.octets
