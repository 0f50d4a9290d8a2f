use Rattle.std.proofs.Common.{◌≡◌, ◌++◌, drop}
use Rattle.tcap_story_cmd.specs.Report.{plain_name}
use Rattle.tcap_story_cmd.proofs.report_text.plain_name.Given as goal

-- what was told, and the octets that are left, are all
abbrev pub invariant-loop-octet : goal.invariant-loop-octet
invariant-loop-octet g l = l.told.items ++ plain_name (drop l.octet-index l.name) ≡ plain_name l.name
