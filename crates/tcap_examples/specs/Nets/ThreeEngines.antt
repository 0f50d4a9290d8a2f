-- A net of three engines: two registers behind one switch, of which one answers what nobody asked it.
use Rattle.std.specs.Prelude.{ℕ, zero, suc, pos, List, [], ◌∷◌, reverse, Some, None}
use Rattle.tcap_invocation.specs.declared.class.Class.TheVariants.{One}
use Rattle.tcap_examples.specs.Nets.Play.{begin_told, first_begin}
use Rattle.tcap_examples.specs.Nets.PlayedNets.{answer, play_start}
use Rattle.tcap_examples.specs.Values.Asked as asks
use Rattle.tcap_examples.specs.Values.DialogueValues.{of_result}
use Rattle.tcap_examples.specs.Values.Hex.{hex}
use Rattle.tcap_examples.specs.Values.HistoryWords.{dialogue_born, invoke_pair, request_pair, continue_request, continued, empty_result}
use Rattle.tcap_examples.specs.Values.Told as told
use Rattle.tcap_model.specs.Histories.Pair.{Pair}
use Rattle.tcap_model.specs.Statements.Net.{Engine, Marked, Net, Places}
use Rattle.tcap_model.specs.Words.Address.{Address}
use Rattle.tcap_model.specs.Words.Answer.{Answer}
use Rattle.tcap_model.specs.Words.Event.{Event}
use Rattle.tcap_model.specs.Words.Output.{Output}
use Rattle.tcap_model.specs.Words.Request.{Ending}

-- ---- the engines

-- The switch (own).
abbrev pub switch : Engine
switch = 0

-- The register that is asked (own).
abbrev pub asked_register : Engine
asked_register = 1

-- The register that isn't (own).
abbrev pub other_register : Engine
other_register = 2

-- The address of the switch (own).
abbrev pub switch_address : Address
switch_address = 0x10 ∷ []

-- The address of the register that is asked (own).
abbrev pub asked_address : Address
asked_address = 0x11 ∷ []

-- The address of the other register (own).
abbrev pub other_address : Address
other_address = 0x12 ∷ []

-- Where the three are (own).
abbrev pub three_places : Places
three_places zero = switch_address ∷ []
three_places (suc zero) = asked_address ∷ []
three_places (suc (suc zero)) = other_address ∷ []
three_places (suc (suc (suc number))) = []

-- ---- what happens

-- A message that is sent to an address (own).
abbrev pub send : Address → List ℕ → Answer
send to bytes = Answer.outputs (Output.send to bytes ∷ [])

-- Bytes that an engine receives from an address, and what it tells (own).
abbrev pub hears : Engine → Address → List ℕ → List Output → Marked
hears engine from bytes outputs = record {
  engine = engine;
  pair = record { event = Event.received from bytes; answer = Answer.outputs outputs; idle_ms = 0 };
}

-- A pair of an engine (own).
abbrev pub does : Engine → Pair → Marked
does engine pair = record { engine = engine; pair = pair }

-- The Begin of the switch to the other register, without an Invoke (own).
abbrev pub bare_begin : List ℕ
bare_begin = hex 8 0x6206_480400000002

-- The Continue of the other register, with a result for identifier 1, which nobody asked for (own).
abbrev pub unasked_continue : List ℕ
unasked_continue = hex 21 0x6513_480400000001_490400000002_6C05_A203_020101

-- The switch rejects the result in that dialogue (own).
abbrev pub unasked_told : Marked
unasked_told =
    hears switch other_address unasked_continue
    (continued 2 ∷ told.local_reject (Some 2) (Some (pos 1)) (of_result 0) ∷ [])

-- The End of the register that is asked, with the result (own).
abbrev pub answering_end : List ℕ
answering_end = hex 15 0x640D_490400000001_6C05_A203_020101

-- It closes the invocation of the switch (own).
abbrev pub answer_closes : Output
answer_closes = told.closed 1 1 (pos 1) empty_result

-- The switch is told so (own).
abbrev pub answer_told : Marked
answer_told = hears switch asked_address answering_end (told.end 1 None [] ∷ answer_closes ∷ [])

-- The switch invokes an operation at one register, and begins a dialogue with the other, which answers the
-- same identifier in it; then the first one answers (own).
abbrev pub three_engines : Net
three_engines = record {
  start = λ engine. play_start;
  places = three_places;
  trace = reverse (
      does switch (dialogue_born 1)
      ∷ does switch (invoke_pair 1 (pos 1) One (pos 10) 1000 (Answer.number 1))
      ∷ does switch (request_pair 1 (asks.begin_to asked_address None []) (send asked_address first_begin))
      ∷ does switch (dialogue_born 2)
      ∷ does switch (request_pair 2 (asks.begin_to other_address None []) (send other_address bare_begin))
      ∷ hears other_register switch_address bare_begin (told.begin 1 None [] ∷ [])
      ∷ does other_register (request_pair 1 answer Answer.done)
      ∷ does other_register (request_pair 1 continue_request (send switch_address unasked_continue))
      ∷ unasked_told
      ∷ hears asked_register switch_address first_begin (begin_told 1)
      ∷ does asked_register (request_pair 1 answer Answer.done)
      ∷ does asked_register (request_pair 1 (asks.finish Ending.basic None []) (send switch_address answering_end))
      ∷ answer_told
      ∷ []);
}
