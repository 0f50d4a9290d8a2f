-- Histories in which each answer is the one that is due.
use Rattle.std.specs.Prelude.{◌≡◌, ◌&&◌, Bool, nat_le, IsTrue, [], ◌∷◌}
use Rattle.tcap_invocation.specs.Stage.{moment_limit}
use Rattle.tcap_model.specs.Histories.History.{History, Start}
use Rattle.tcap_model.specs.Words.InRange.{InRange, is_short, is_long}
use Rattle.tcap_model.specs.Histories.Pair.{Pair, Past}
use Rattle.tcap_model.specs.Replies.Reply.{reply}

-- An event has numbers that its types hold, and the idle limit of its pair is that of the start (own).
pub record Suits (start : Start) (pair : Pair) : Type 0 where
  pub in_range : InRange pair.event
  pub is_limited : pair.idle_ms ≡ start.idle_ms

-- Each answer is the reply to what stands before it, and each pair suits the start (own).
abbrev pub AreReplies : Start → Past → Type 0
AreReplies start [] = Unit {0}
AreReplies start (pair ∷ past) =
    Suits start pair × (pair.answer ≡ reply (record { start = start; pairs = past }) pair.event)
    × AreReplies start past

-- The limits and the starting counters are those that their types hold: 1 to 65,535 dialogues, a wait
-- and an idle limit of at most 2^62 milliseconds, an identifier of 32 bits, a number of 64 bits (own).
abbrev pub is_start : Start → Bool
is_start start = (nat_le 1 start.max_dialogues && nat_le start.max_dialogues 65535)
    && (nat_le start.reject_ms moment_limit && nat_le start.idle_ms moment_limit
    && (is_short start.next_dialogue && is_long start.next_number))

-- A history is legal if it starts within the limits, and each answer in it is the reply to what stands
-- before it (own).
abbrev pub IsLegal : History → Type 0
IsLegal h = IsTrue (is_start h.start) × AreReplies h.start h.pairs
