use Rattle.std.proofs.Common.{◌≡◌, drop, length, map}
use Rattle.tcap_bench.specs.Checksum.{checksum}
use Rattle.tcap_bench.proofs.feed_steps.add_messages.Given as goal

-- the sum with the messages that are left
abbrev pub invariant-loop-message : goal.invariant-loop-message
invariant-loop-message l =
    checksum l.sum (map (λ m. length m.items) (drop l.message-index l.messages)) ≡ checksum l.total (map (λ m. length m.items) l.messages)
