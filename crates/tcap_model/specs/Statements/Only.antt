-- What one dialogue sees of a history.
use Rattle.std.specs.Prelude.{ℕ, [], ◌∷◌, Bool, true, false, ◌&&◌, ◌||◌, Option, Some, None, filter, if◌then◌else◌}
use Rattle.tcap_model.specs.Words.Answer.{Answer}
use Rattle.tcap_model.specs.Histories.Birth.{is_birth_of, was_born}
use Rattle.tcap_model.specs.Words.Event.{Event}
use Rattle.tcap_model.specs.Words.LocalId.{is_that}
use Rattle.tcap_model.specs.Histories.Names.{names}
use Rattle.tcap_model.specs.Words.Output.{Output, ComponentIndication, DialogueIndication}
use Rattle.tcap_model.specs.Histories.Pair.{Pair, Past}

-- The dialogue of an output (own).
abbrev pub dialogue_of : Output → Option ℕ
dialogue_of (Output.send to bytes) = None
dialogue_of (Output.dialogue (DialogueIndication.uni context info)) = None
dialogue_of (Output.dialogue (DialogueIndication.begin dialogue context info)) = Some dialogue
dialogue_of (Output.dialogue (DialogueIndication.go_on dialogue context info)) = Some dialogue
dialogue_of (Output.dialogue (DialogueIndication.end dialogue context info)) = Some dialogue
dialogue_of (Output.dialogue (DialogueIndication.u_abort dialogue pdu)) = Some dialogue
dialogue_of (Output.dialogue (DialogueIndication.p_abort dialogue why)) = Some dialogue
dialogue_of (Output.component (ComponentIndication.invoked dialogue id linked code parameter)) = dialogue
dialogue_of (Output.component (ComponentIndication.result_more dialogue number id body)) = Some dialogue
dialogue_of (Output.component (ComponentIndication.local_reject dialogue id problem)) = dialogue
dialogue_of (Output.component (ComponentIndication.remote_reject dialogue id problem by)) = dialogue
dialogue_of (Output.component (ComponentIndication.closed dialogue number id closing)) = Some dialogue
dialogue_of (Output.dropped why) = None

-- Whether an output is one of the dialogue (own).
abbrev pub is_output_of : ℕ → Output → Bool
is_output_of dialogue output = is_that dialogue (dialogue_of output)

-- An answer with the outputs of the dialogue alone (own).
abbrev pub answer_within : ℕ → Answer → Answer
answer_within dialogue (Answer.new_dialogue born) = Answer.new_dialogue born
answer_within dialogue (Answer.number n) = Answer.number n
answer_within dialogue Answer.done = Answer.done
answer_within dialogue (Answer.given_up n) = Answer.given_up n
answer_within dialogue (Answer.outputs outputs) = Answer.outputs (filter (is_output_of dialogue) outputs)
answer_within dialogue (Answer.refused fault) = Answer.refused fault

-- A pair without the outputs of other dialogues, where it is that of a moment (own).
abbrev pub pair_within : ℕ → Event → Answer → ℕ → Pair
pair_within dialogue Event.new_dialogue answer idle_ms =
    record { event = Event.new_dialogue; answer = answer; idle_ms = idle_ms }
pair_within dialogue (Event.on_dialogue asked request) answer idle_ms =
    record { event = Event.on_dialogue asked request; answer = answer; idle_ms = idle_ms }
pair_within dialogue (Event.received from bytes) answer idle_ms =
    record { event = Event.received from bytes; answer = answer; idle_ms = idle_ms }
pair_within dialogue (Event.moment now) answer idle_ms =
    record { event = Event.moment now; answer = answer_within dialogue answer; idle_ms = idle_ms }

-- Whether it is a moment (own).
abbrev pub is_moment : Event → Bool
is_moment Event.new_dialogue = false
is_moment (Event.on_dialogue asked request) = false
is_moment (Event.received from bytes) = false
is_moment (Event.moment now) = true

-- A dialogue sees every moment, its birth, and after it what names it (own).
abbrev pub is_seen_by : ℕ → Pair → Past → Bool
is_seen_by dialogue pair past =
    (is_moment pair.event || is_birth_of dialogue pair) || (was_born dialogue past && names pair.event dialogue)

-- The history of one dialogue: its birth, the pairs after it that name it, and the moments before it,
-- and in the answers to moments the outputs of this dialogue alone (own).
abbrev pub only : ℕ → Past → Past
only dialogue [] = []
only dialogue (pair ∷ past) =
    if is_seen_by dialogue pair past then pair_within dialogue pair.event pair.answer pair.idle_ms
    ∷ only dialogue past else only dialogue past
