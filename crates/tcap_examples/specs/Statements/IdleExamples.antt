-- The histories on which the statements are instantiated where dialogues stay idle too long.
use Rattle.std.specs.Prelude.{[], ◌∷◌, drop}
use Rattle.tcap_examples.specs.Histories.IdleLimit as worked
use Rattle.tcap_model.specs.Histories.History.{History}
use Rattle.tcap_model.specs.Words.Answer.{Answer}
use Rattle.tcap_model.specs.Words.Event.{Event}

-- An invocation lapses at the moment at which its dialogue is over, and another one is ended (own).
abbrev pub lapsed_and_ended : History
lapsed_and_ended = worked.lapse_before_the_idle_end.history

-- Two dialogues that are over at one moment, the second one first (own).
abbrev pub both_idle : History
both_idle = worked.two_idle_dialogues_in_order.history

-- Two dialogues, of which one is over at the moment at which the other's invocation lapses (own).
abbrev pub lapsed_in_the_other : History
lapsed_in_the_other = worked.lapse_in_another_dialogue.history

-- A history without its last pair (own).
abbrev pub before_the_last : History → History
before_the_last h = record { start = h.start; pairs = drop 1 h.pairs }

-- The moment at which both are over (own).
abbrev pub both_end : Event
both_end = Event.moment 600

-- What is told of the first of them (own).
abbrev pub first_ends : Answer
first_ends = Answer.outputs (worked.idle_abort 1 ∷ [])

-- What is told of both (own).
abbrev pub both_ends : Answer
both_ends = Answer.outputs (worked.idle_abort 2 ∷ worked.idle_abort 1 ∷ [])
