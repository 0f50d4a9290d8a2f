use Rattle.std.proofs.Common.{◌≡◌, drop}
use Rattle.tcap_stories.proofs.ExpectedLemmas.{first_unseen}
use Rattle.tcap_stories.proofs.expected_text.unwritten.Given as goal

-- the first that is no visible character is among those that are left
abbrev pub invariant-loop-octet : goal.invariant-loop-octet
invariant-loop-octet l = first_unseen (drop l.octet-index l.word) ≡ first_unseen l.word
