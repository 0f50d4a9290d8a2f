-- When an invocation lapses.
use Rattle.std.specs.Prelude.{ℕ, ◌+◌, List, Bool, true, false, Option, option_map, find}
use Rattle.tcap_model.specs.Invocations.Invocation.{Invocation}
use Rattle.tcap_model.specs.Invocations.Marks.{Mark, Noted}
use Rattle.tcap_model.specs.Histories.Pair.{Past}
use Rattle.tcap_model.specs.Invocations.Span.{span}

-- A message goes out that takes the queue (own).
abbrev pub is_sent : Mark → Bool
is_sent Mark.sent = true
is_sent Mark.end = false
is_sent Mark.given_up = false
is_sent (Mark.moment now) = false
is_sent (Mark.last body) = false
is_sent (Mark.more body) = false
is_sent (Mark.error code parameter) = false
is_sent (Mark.reject problem) = false

-- The clock when the message went out that carries the Invoke: that of the first Sent mark
-- (Q.774, Invocation state machine).
abbrev pub sent_clock : List Noted → Option ℕ
sent_clock marks = option_map (λ (noted : Noted). noted.clock) (find (λ (noted : Noted). is_sent noted.mark) marks)

-- An invocation lapses its timeout after the message went out that carries its Invoke
-- (Q.774, Invocation state machine).
abbrev pub deadline : Invocation → Past → Option ℕ
deadline i past = option_map (λ sent. sent + i.timeout) (sent_clock (span i past))
