-- The history on which isolation is instantiated: two dialogues, and two invocation numbers.
use Rattle.std.specs.Prelude.{ℕ, pos, ◌-◌, ◌^◌, List, [], ◌∷◌, reverse, drop, None, Bool, true, false}
use Rattle.tcap_invocation.specs.declared.class.Class.TheVariants.{One}
use Rattle.tcap_model.specs.Words.Answer.{Answer}
use Rattle.tcap_model.specs.Words.Event.{Event}
use Rattle.tcap_examples.specs.Values.DialogueValues.{code, result_of_first}
use Rattle.tcap_examples.specs.Values.Hex.{hex}
use Rattle.tcap_model.specs.Histories.History.{Start, History}
use Rattle.tcap_model.specs.Statements.Isolation.{IsAlone}
use Rattle.tcap_model.specs.Histories.Names.{names}
use Rattle.tcap_model.specs.Statements.Net.{side}
use Rattle.tcap_model.specs.Words.Output.{Output, Closing}
use Rattle.tcap_model.specs.Histories.Pair.{Pair, Past}
use Rattle.tcap_examples.specs.Nets.PlayedNets.{repeated_begin, heard_as_one}
use Rattle.tcap_examples.specs.Values.HistoryWords.{dialogue_born, invoke_pair, request_pair, moment_pair, begin_request}
use Rattle.tcap_examples.specs.Values.Asked as asks
use Rattle.tcap_examples.specs.Values.Told as told
use Rattle.tcap_examples.specs.Values.Peer.{arrived, sent}
use Rattle.tcap_examples.specs.Nets.Engines.{engine_a, engine_b}

-- The first of the last two invocation numbers (own).
abbrev pub last_but_one : ℕ
last_but_one = 2 ^ 64 - 3

-- The last number that is drawn (own).
abbrev pub last : ℕ
last = 2 ^ 64 - 2

-- An engine that has two invocation numbers left (own).
abbrev pub two_left : Start
two_left = record { max_dialogues = 4; reject_ms = 1000; idle_ms = 0; next_dialogue = 1; next_number = last_but_one }

-- A dialogue begins with an Invoke (own).
abbrev pub begins : ℕ → List ℕ → Pair
begins dialogue bytes = request_pair dialogue begin_request (Answer.outputs (sent bytes ∷ []))

-- The Begin of the first dialogue (own).
abbrev pub begin_of_the_first : List ℕ
begin_of_the_first = hex 18 0x6210_480400000001_6C08_A106_020101_02010A

-- The Begin of the second dialogue (own).
abbrev pub second_begin : List ℕ
second_begin = hex 18 0x6210_480400000002_6C08_A106_020101_02010A

-- The first dialogue's invocation lapses (own).
abbrev pub first_lapses : Output
first_lapses = told.closed 1 last (pos 1) Closing.lapsed

-- The second dialogue's invocation lapses (own).
abbrev pub second_lapses : Output
second_lapses = told.closed 2 last_but_one (pos 1) Closing.lapsed

-- Two dialogues, each with an invocation that lapses at the same moment, in order of time; no number is
-- left after them (own).
abbrev pub two_dialogues : History
two_dialogues = record {
  start = two_left;
  pairs = reverse (
      moment_pair 5 []
      ∷ dialogue_born 1
      ∷ dialogue_born 2
      ∷ invoke_pair 2 (pos 1) One (pos 10) 1000 (Answer.number last_but_one)
      ∷ invoke_pair 1 (pos 1) One (pos 10) 1000 (Answer.number last)
      ∷ begins 2 second_begin
      ∷ begins 1 begin_of_the_first
      ∷ moment_pair 1005 (first_lapses ∷ second_lapses ∷ [])
      ∷ []);
}

-- What the first dialogue sees of it, in order of time (own).
abbrev pub first_alone : Past
first_alone = reverse (
    moment_pair 5 []
    ∷ dialogue_born 1
    ∷ invoke_pair 1 (pos 1) One (pos 10) 1000 (Answer.number last)
    ∷ begins 1 begin_of_the_first
    ∷ moment_pair 1005 (first_lapses ∷ [])
    ∷ [])

-- Up to the moment at which both lapse (own).
abbrev pub before_the_lapse : History
before_the_lapse = record { start = two_left; pairs = drop 1 two_dialogues.pairs }

-- Up to the first dialogue's invoke (own).
abbrev pub before_the_invoke : History
before_the_invoke = record { start = two_left; pairs = drop 4 two_dialogues.pairs }

-- The first dialogue asks for an invocation (own).
abbrev pub first_invokes : Event
first_invokes = Event.on_dialogue 1 (asks.invoke (pos 1) One (code 10) None None 1000)

-- It asks for one more (own).
abbrev pub invokes_again : Event
invokes_again = Event.on_dialogue 1 (asks.invoke (pos 2) One (code 10) None None 1000)

-- It gives its invocation up (own).
abbrev pub first_cancels : Event
first_cancels = Event.on_dialogue 1 (asks.u_cancel (pos 1))

-- The user of a dialogue that isn't born gives up an invocation whose identifier is no octet (own).
abbrev pub nobody_cancels : Event
nobody_cancels = Event.on_dialogue 9 (asks.u_cancel (pos 1000))

-- The first dialogue hears the result (own).
abbrev pub first_hears : Event
first_hears = arrived result_of_first

-- The moment at which both lapse (own).
abbrev pub both_lapse : Event
both_lapse = Event.moment 1005

-- ---- at every place

-- A fact that is asked only where the test holds (own).
abbrev pub where_so : Bool → Type 0 → Type 0
where_so false fact = Unit {0}
where_so true fact = fact

-- The dialogue is alone for each event of a history that names it (own).
abbrev pub IsAloneThroughout : ℕ → Start → Past → Type 0
IsAloneThroughout dialogue start [] = Unit {0}
IsAloneThroughout dialogue start (pair ∷ past) =
    where_so (names pair.event dialogue) (IsAlone (record { start = start; pairs = past }) dialogue pair.event)
    × IsAloneThroughout dialogue start past

-- The second engine of "Repeated Begin": two dialogues that are created of one Begin (own).
abbrev pub of_one_begin : Past
of_one_begin = side engine_b repeated_begin.trace

-- The first engine of "two dialogues heard as one": two dialogues with one peer (own).
abbrev pub with_one_peer : Past
with_one_peer = side engine_a heard_as_one.trace
