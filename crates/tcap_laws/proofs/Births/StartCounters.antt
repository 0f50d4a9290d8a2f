-- The counters start within what their types hold.
use Rattle.std.proofs.Common.{◌≡◌, ◌≤◌, ◌^◌, Bool, true, ◌&&◌, IsTrue, nat_le, arith}
use Rattle.std.proofs.lemmas.Bool.{and_parts, ltb-true}
use Rattle.tcap_invocation.specs.Stage.{moment_limit}
use Rattle.tcap_model.specs.Histories.History.{Start}
use Rattle.tcap_model.specs.Words.Identifiers.{last_number, last_dialogue}
use Rattle.tcap_model.specs.Words.InRange.{is_short, is_long}
use Rattle.tcap_model.specs.Replies.Legal.{is_start}

module _ (start : Start) (within : IsTrue (is_start start)) where
  parts : ((nat_le start.reject_ms moment_limit && nat_le start.idle_ms moment_limit) ≡ true)
      × ((is_short start.next_dialogue && is_long start.next_number) ≡ true)
  parts =
      let waits : Bool = nat_le start.reject_ms moment_limit && nat_le start.idle_ms moment_limit in
      let counters : Bool = is_short start.next_dialogue && is_long start.next_number in
      let all = and_parts (nat_le 1 start.max_dialogues && nat_le start.max_dialogues 65535) (waits && counters)
      within in
      and_parts waits counters all.1

  pub start_dialogue-within : start.next_dialogue ≤ last_dialogue
  start_dialogue-within =
      let counters = and_parts (is_short start.next_dialogue) (is_long start.next_number) parts.1 in
      let below = ltb-true start.next_dialogue (2 ^ 32) counters.0 in
      omega arith

  pub start_number-within : start.next_number ≤ last_number
  start_number-within =
      let counters = and_parts (is_short start.next_dialogue) (is_long start.next_number) parts.1 in
      let below = ltb-true start.next_number (2 ^ 64) counters.1 in
      omega arith
