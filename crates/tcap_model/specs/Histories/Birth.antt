-- How dialogues come to be, and which identifier is drawn next.
use Rattle.std.specs.Prelude.{ℕ, ◌+◌, List, [], ◌∷◌, Bool, Option, Some, None, is_some, option_to_list, if◌then◌else◌}
use Rattle.std.specs.Option.{option_or}
use Rattle.std.specs.List.{list_any}
use Rattle.tcap_model.specs.Words.Answer.{Answer}
use Rattle.tcap_model.specs.Words.Event.{Event}
use Rattle.tcap_model.specs.Histories.History.{History}
use Rattle.tcap_model.specs.Words.LocalId.{is_that}
use Rattle.tcap_model.specs.Words.Output.{Output, DialogueIndication}
use Rattle.tcap_model.specs.Histories.Pair.{Pair, Past, gathered}

-- The dialogue of a TC-BEGIN indication (Q.771, Dialogue begin).
abbrev pub dialogue_begun : Output → Option ℕ
dialogue_begun (Output.send to bytes) = None
dialogue_begun (Output.dialogue (DialogueIndication.uni context info)) = None
dialogue_begun (Output.dialogue (DialogueIndication.begin dialogue context info)) = Some dialogue
dialogue_begun (Output.dialogue (DialogueIndication.go_on dialogue context info)) = None
dialogue_begun (Output.dialogue (DialogueIndication.end dialogue context info)) = None
dialogue_begun (Output.dialogue (DialogueIndication.u_abort dialogue pdu)) = None
dialogue_begun (Output.dialogue (DialogueIndication.p_abort dialogue why)) = None
dialogue_begun (Output.component indication) = None
dialogue_begun (Output.dropped why) = None

-- The dialogue of the first TC-BEGIN indication among some outputs (Q.771, Dialogue begin).
abbrev pub first_begun : List Output → Option ℕ
first_begun [] = None
first_begun (output ∷ outputs) = option_or (dialogue_begun output) (first_begun outputs)

-- The dialogue that was asked for and that an answer gives (own).
abbrev pub born_on_request : Answer → Option ℕ
born_on_request (Answer.new_dialogue dialogue) = Some dialogue
born_on_request (Answer.number n) = None
born_on_request Answer.done = None
born_on_request (Answer.given_up n) = None
born_on_request (Answer.outputs outputs) = None
born_on_request (Answer.refused fault) = None

-- The dialogue that the peer began, by the answer to its message (Q.774, Dialogue begin).
abbrev pub born_on_message : Answer → Option ℕ
born_on_message (Answer.new_dialogue dialogue) = None
born_on_message (Answer.number n) = None
born_on_message Answer.done = None
born_on_message (Answer.given_up n) = None
born_on_message (Answer.outputs outputs) = first_begun outputs
born_on_message (Answer.refused fault) = None

-- The dialogue that an event with this answer creates (own).
abbrev pub born_of : Event → Answer → Option ℕ
born_of Event.new_dialogue answer = born_on_request answer
born_of (Event.on_dialogue dialogue request) answer = None
born_of (Event.received from bytes) answer = born_on_message answer
born_of (Event.moment now) answer = None

-- The dialogue that a pair creates, if any (own).
abbrev pub born_by : Pair → Option ℕ
born_by pair = born_of pair.event pair.answer

-- How many dialogues were created (own).
abbrev pub births : Past → ℕ
births [] = 0
births (pair ∷ past) = if is_some (born_by pair) then births past + 1 else births past

-- The identifier of the next dialogue: they are drawn from a counter, each once (own).
abbrev pub next_dialogue : History → ℕ
next_dialogue history = history.start.next_dialogue + births history.pairs

-- The dialogues that were created, in order of creation (own).
abbrev pub dialogues : Past → List ℕ
dialogues past = gathered (λ pair before. option_to_list (born_by pair)) past

-- Whether this pair creates the dialogue (own).
abbrev pub is_birth_of : ℕ → Pair → Bool
is_birth_of dialogue pair = is_that dialogue (born_by pair)

-- Whether the dialogue was created (own).
abbrev pub was_born : ℕ → Past → Bool
was_born dialogue past = list_any (is_birth_of dialogue) past
