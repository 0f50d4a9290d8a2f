-- Which dialogues events name, line by line.
use Rattle.std.specs.Prelude.{◌≡◌, ℕ, Bool, true, false, List, [], ◌∷◌, ◌++◌, map, replicate}
use Rattle.tcap_model.specs.Words.Event.{Event}
use Rattle.tcap_examples.specs.Values.DialogueValues.{shown_begin, result_of_first}
use Rattle.tcap_examples.specs.Values.Hex.{hex}
use Rattle.tcap_model.specs.Histories.Names.{names}
use Rattle.tcap_examples.specs.Values.HistoryWords.{begin_request}
use Rattle.tcap_examples.specs.Values.Peer.{arrived}

-- Whether an event names a dialogue, as it is stated (own).
pub record Named : Type 0 where
  pub event : Event
  pub dialogue : ℕ
  pub is_named : Bool

-- The event names the dialogue (own).
abbrev pub naming : ℕ → Event → Named
naming dialogue event = record { event = event; dialogue = dialogue; is_named = true }

-- It doesn't (own).
abbrev pub not_naming : ℕ → Event → Named
not_naming dialogue event = record { event = event; dialogue = dialogue; is_named = false }

-- Each event names the dialogue or not, as it is stated (own).
abbrev pub AreAsStated : List Named → Type 0
AreAsStated rows = map (λ (r : Named). names r.event r.dialogue) rows ≡ map (λ (r : Named). r.is_named) rows

-- Requests and moments (own).
abbrev pub requests_and_moments : List Named
requests_and_moments =
    not_naming 1 Event.new_dialogue
    ∷ naming 1 (Event.on_dialogue 1 begin_request)
    ∷ not_naming 2 (Event.on_dialogue 1 begin_request)
    ∷ naming 1 (Event.moment 5)
    ∷ naming 2 (Event.moment 5)
    ∷ []

-- Messages that can be read: a Continue, an End, an Abort, a Begin, a Unidirectional, and an End with
-- a destination of one octet (own).
abbrev pub good_messages : List Named
good_messages =
    naming 1 (arrived result_of_first)
    ∷ not_naming 5 (arrived result_of_first)
    ∷ naming 1 (arrived (hex 15 0x640D_490400000001_6C05_A203_020101))
    ∷ not_naming 2 (arrived (hex 15 0x640D_490400000001_6C05_A203_020101))
    ∷ naming 1 (arrived (hex 8 0x6706_490400000001))
    ∷ not_naming 2 (arrived (hex 8 0x6706_490400000001))
    ∷ not_naming 1 (arrived shown_begin)
    ∷ not_naming 1 (arrived (hex 12 0x610A_6C08_A106_020101_020107))
    ∷ not_naming 1 (arrived (hex 5 0x6403_490101))
    ∷ []

-- Faulty messages: those that begin with 64, 65 or 67 name the dialogue at their front, if its
-- identifier has four octets; no others do (own).
abbrev pub faulty_messages : List Named
faulty_messages =
    naming 1 (arrived (hex 9 0x6407_490400000001_6C))
    ∷ naming 1 (arrived (hex 15 0x650D_480400000005_490400000001_6C))
    ∷ naming 1 (arrived (hex 9 0x6707_490400000001_4A))
    ∷ not_naming 5 (arrived (hex 15 0x650D_480400000005_490400000001_6C))
    ∷ not_naming 1 (arrived (hex 7 0x6405_49020001_6C))
    ∷ not_naming 1 (arrived (hex 13 0x650B_480400000005_49020001_6C))
    ∷ not_naming 1 (arrived (hex 7 0x6705_49020001_4A))
    ∷ not_naming 1 (arrived (hex 9 0x6107_490400000001_6C))
    ∷ not_naming 1 (arrived (hex 9 0x6207_490400000001_6C))
    ∷ not_naming 1 (arrived (hex 14 0x630C_480400000007_490400000001))
    ∷ not_naming 0 (arrived [])
    ∷ []

-- An End of 65,535 bytes, and one of 65,536 (own).
abbrev pub long_messages : List Named
long_messages =
    naming 1 (arrived (hex 14 0x6482FFFB_490400000001_6C82FFF1 ++ replicate 65521 0))
    ∷ not_naming 1 (arrived (hex 14 0x6482FFFC_490400000001_6C82FFF2 ++ replicate 65522 0))
    ∷ []
